-- The nodes that a condition's line takes from the rows that it cites are worth what the rows
-- claim.
use Rattle.std.proofs.Common.{◌≡◌, ◌∙◌, refl, ap, subst, ℕ, Bool, true, false, not, cond, ◌&&◌}
use Rattle.std.proofs.Common.{List, Option, Some, None, slice_get, arith, option_map}
use Rattle.std.proofs.lemmas.Option.{option_and_then_some}
use Rattle.bw_model.specs.declared.column.Column.{Column}
use Rattle.bw_model.specs.Variable.{Assignment, is_nullable, first_variable, null_variable}
use Rattle.bw_model.proofs.BitsLemmas.{given}
use Rattle.bw_diagram.specs.declared.node.Node.{Node}
use Rattle.bw_diagram.specs.declared.product.Connective.{Connective}
use Rattle.bw_diagram.specs.declared.product.Connective.TheVariants.{Diff}
use Rattle.bw_diagram.specs.declared.product.Product.{Product}
use Rattle.bw_diagram.specs.References.{HaveStatedValues, product_node, is_variable, variable_node}
use Rattle.bw_diagram.specs.Node.{IsNode, node_value}
use Rattle.bw_diagram.specs.Product.{apply_connective}
use Rattle.bw_diagram.specs.Facts.{Facts}
use Rattle.bw_diagram.proofs.NodeLemmas.{node_value-zero, node_value-one}
use Rattle.bw_cert_rules.specs.Rows.{TruthPair}
use Rattle.bw_cert_rules.specs.Rows.{if_both, null_pair, value_node}

-- a node that is worth this under every assignment
pub record Denotes (nodes : List Node) (value : Assignment → Bool) (node : ℕ) : Type 0 where
  pub is_node : IsNode nodes node
  pub denoted : (assignment : Assignment) → node_value nodes assignment node ≡ value assignment

pub zero_denotes : (nodes : List Node) → Denotes nodes (λ assignment. false) 0
zero_denotes nodes = record { is_node = omega arith; denoted = node_value-zero nodes }

pub one_denotes : (nodes : List Node) → Denotes nodes (λ assignment. true) 1
one_denotes nodes = record { is_node = omega arith; denoted = node_value-one nodes }

-- the same by another word for what it is worth
pub denotes_so : (nodes : List Node) (value other : Assignment → Bool) (node : ℕ) → ((assignment : Assignment) → value assignment ≡ other assignment) → Denotes nodes value node → Denotes nodes other node
denotes_so nodes value other node same w = record { is_node = w.is_node; denoted = λ assignment. w.denoted assignment ∙ same assignment }

pub if_both-is : (t f : Option ℕ) (pair : TruthPair) → if_both t f ≡ Some pair → (t ≡ Some pair.yes) × (f ≡ Some pair.no)
if_both-is (Some t) (Some f) pair is = (cc, cc)
if_both-is _ _ pair is = cc

module _ (facts : Facts) (have_values : HaveStatedValues facts) where
  -- the node of a cited row is worth the connective of what the two nodes are worth
  pub product_node-denoted : (op : Connective) (a b c number : ℕ) (x y : Assignment → Bool) → Denotes facts.nodes x a → Denotes facts.nodes y b → product_node facts op a b number ≡ Some c → Denotes facts.nodes (λ assignment. apply_connective op (x assignment) (y assignment)) c
  product_node-denoted op a b c number x y x_denotes y_denotes is =
      let row = have_values.row op a b number c is in
      record {
        is_node = row.0;
        denoted = λ assignment. row.1 assignment ∙ ap (λ v. apply_connective op v (node_value facts.nodes assignment b)) (x_denotes.denoted assignment) ∙ ap (apply_connective op (x assignment)) (y_denotes.denoted assignment);
      }

  -- a null test's nodes are 1 if the column is null, and 1 if it isn't
  pub null_pair-denoted : (variable number : ℕ) (pair : TruthPair) → null_pair facts variable number ≡ Some pair →
      Denotes facts.nodes (λ assignment. assignment variable) pair.yes × Denotes facts.nodes (λ assignment. not (assignment variable)) pair.no
  null_pair-denoted variable number pair is =
      option_and_then_some (λ (row : Product). if_both (variable_node facts variable row.b) (product_node facts Diff 1 row.b number)) (slice_get facts.products number) pair is (λ row there found. by_node row.b found)
    where
      by_node : (z : ℕ) → if_both (variable_node facts variable z) (product_node facts Diff 1 z number) ≡ Some pair →
          Denotes facts.nodes (λ assignment. assignment variable) pair.yes × Denotes facts.nodes (λ assignment. not (assignment variable)) pair.no
      by_node z found =
          let made = if_both-is _ _ pair found in
          let is_null = given (is_variable facts variable z) z pair.yes made.0 in
          let tested = have_values.variable variable z is_null.0 in
          let null : Denotes facts.nodes (λ assignment. assignment variable) z = record { is_node = tested.0; denoted = tested.1 } in (
            subst (Denotes facts.nodes (λ assignment. assignment variable)) is_null.1 null,
            product_node-denoted Diff 1 z pair.no number (λ assignment. true) (λ assignment. assignment variable) (one_denotes facts.nodes) null made.1,
          )

-- a column has a value under an assignment
abbrev pub has_value : List Column → ℕ → Assignment → Bool
has_value columns col assignment = not (is_nullable columns col && assignment (first_variable columns col))

-- the node that a line cites for a column's value
pub value_node-denoted : (columns : List Column) (facts : Facts) → HaveStatedValues facts → (col : ℕ) (number : Option ℕ) (m : ℕ) → value_node facts (null_variable columns col) number ≡ Some m → Denotes facts.nodes (has_value columns col) m
value_node-denoted columns facts have_values col number m is = by_nullable (is_nullable columns col) number is
  where
    by_nullable : (nullable : Bool) (number : Option ℕ) → value_node facts (cond nullable (Some (first_variable columns col)) None) number ≡ Some m →
        Denotes facts.nodes (λ assignment. not (nullable && assignment (first_variable columns col))) m
    by_nullable false None is = subst (Denotes facts.nodes (λ assignment. true)) (cc) (one_denotes facts.nodes)
    by_nullable true (Some number) is = by_test (null_pair facts (first_variable columns col) number) refl is
      where
        by_test : (found : Option TruthPair) → null_pair facts (first_variable columns col) number ≡ found → option_map (λ pair. pair.no) found ≡ Some m → Denotes facts.nodes (λ assignment. not (assignment (first_variable columns col))) m
        by_test None found is = cc
        by_test (Some pair) found is = subst (Denotes facts.nodes (λ assignment. not (assignment (first_variable columns col)))) (cc) (null_pair-denoted facts have_values (first_variable columns col) number pair found).1
    by_nullable _ _ is = cc
