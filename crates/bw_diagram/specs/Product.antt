-- Product rows: what they claim of every assignment, and the rule by which they are accepted.
use Rattle.std.specs.Prelude.{◌≡◌, ℕ, Bool, true, false, not, List, length, Option, Some, None}
use Rattle.std.specs.Prelude.{slice_get, ◌&&◌, ◌||◌, ◌==◌, nat_lt}
use Rattle.bw_model.specs.Variable.{Assignment}
use Rattle.bw_diagram.specs.declared.node.Node.{Node}
use Rattle.bw_diagram.specs.declared.product.Connective.{Connective}
use Rattle.bw_diagram.specs.declared.product.Connective.TheVariants.{And, Or, Xor, Diff}
use Rattle.bw_diagram.specs.declared.product.Product.{Product}
use Rattle.bw_diagram.specs.declared.product.Reason.{Reason}
use Rattle.bw_diagram.specs.declared.product.Reason.TheVariants.{Shortcut, Cofactors}
use Rattle.bw_diagram.specs.Node.{is_node, IsNode, node_value, cofactor}

-- a connective of two bits; Diff is "and not"
abbrev pub apply_connective : Connective → Bool → Bool → Bool
apply_connective And a b = a && b
apply_connective Or a b = a || b
apply_connective Xor a true = not a
apply_connective Xor a false = a
apply_connective Diff a b = a && not b

-- What a product row claims: its nodes are nodes, and under every assignment c is the connective of
-- a and b.
pub record IsProduct (nodes : List Node) (row : Product) : Type 0 where
  pub a_node : IsNode nodes row.a
  pub b_node : IsNode nodes row.b
  pub c_node : IsNode nodes row.c
  pub joins : (assignment : Assignment) → node_value nodes assignment row.c
      ≡ apply_connective row.op (node_value nodes assignment row.a)
      (node_value nodes assignment row.b)

-- The shortcuts, in which x is any node: for AND (0,x,0) (x,0,0) (1,x,x) (x,1,x) (x,x,x), for OR
-- (0,x,x) (x,0,x) (1,x,1) (x,1,1) (x,x,x), for XOR (0,x,x) (x,0,x) (x,x,0), for DIFF (0,x,0)
-- (x,0,x) (x,x,0) (x,1,0).
unfoldable pub is_shortcut : Connective → ℕ → ℕ → ℕ → Bool
is_shortcut And a b c =
    (a == 0 && c == 0) || (b == 0 && c == 0) || (a == 1 && c == b) || (b == 1 && c == a)
    || (a == b && c == a)
is_shortcut Or a b c =
    (a == 0 && c == b) || (b == 0 && c == a) || (a == 1 && c == 1) || (b == 1 && c == 1)
    || (a == b && c == a)
is_shortcut Xor a b c = (a == 0 && c == b) || (b == 0 && c == a) || (a == b && c == 0)
is_shortcut Diff a b c = (a == 0 && c == 0) || (b == 0 && c == a) || (a == b && c == 0)
    || (b == 1 && c == 0)

abbrev pub same_connective : Connective → Connective → Bool
same_connective And And = true
same_connective Or Or = true
same_connective Xor Xor = true
same_connective Diff Diff = true
same_connective _ _ = false

abbrev pub same_product : Product → Product → Bool
same_product row other = same_connective row.op other.op && row.a == other.a && row.b == other.b
    && row.c == other.c

-- there is a product row of this number, and it is this one
abbrev pub is_product : Product → Option Product → Bool
is_product row None = false
is_product row (Some other) = same_product other row

-- the product row of the cofactors of a row's nodes
abbrev pub cofactor_product : List Node → ℕ → Bool → Product → Product
cofactor_product nodes v bit row = record {
  op = row.op;
  a = cofactor nodes v bit row.a;
  b = cofactor nodes v bit row.b;
  c = cofactor nodes v bit row.c;
}

-- the row follows from the rows before it, for this reason
abbrev pub follows : ℕ → List Node → List Product → Product → Reason → Bool
follows variables nodes rows row Shortcut = is_shortcut row.op row.a row.b row.c
follows variables nodes rows row (Cofactors v i j) =
    nat_lt v variables && is_product (cofactor_product nodes v false row) (slice_get rows i)
    && is_product (cofactor_product nodes v true row) (slice_get rows j)

-- A product row of this number is valid as the next one.
unfoldable pub is_valid_product : ℕ → List Node → List Product → ℕ → Product → Reason → Bool
is_valid_product variables nodes rows number row reason =
    (number == length rows) && is_node nodes row.a && is_node nodes row.b && is_node nodes row.c
    && follows variables nodes rows row reason
