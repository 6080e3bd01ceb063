-- The nodes that later lines of a certificate reference, by the product row or the chain that
-- states their values.
use Rattle.std.specs.Prelude.{◌≡◌, ◌⊎◌, ℕ, Bool, true, false, Option, Some, None, slice_get}
use Rattle.std.specs.Prelude.{if◌then◌else◌, ◌&&◌, ◌==◌}
use Rattle.std.specs.Option.{option_and_then}
use Rattle.bw_model.specs.StoredCodes.{number_spelled}
use Rattle.bw_model.specs.Variable.{Assignment}
use Rattle.bw_diagram.specs.declared.chain.ChainKind.{ChainKind}
use Rattle.bw_diagram.specs.declared.product.Connective.{Connective}
use Rattle.bw_diagram.specs.declared.product.Product.{Product}
use Rattle.bw_diagram.specs.Node.{IsNode, node_at, node_value}
use Rattle.bw_diagram.specs.Chain.{compares, node_of_one, node_of_two, padded_number, tests}
use Rattle.bw_diagram.specs.Product.{apply_connective, same_connective}
use Rattle.bw_diagram.specs.Facts.{Facts}

-- the third node of a product row, if its connective and its first two nodes are these
abbrev pub third_node : Connective → ℕ → ℕ → Product → Option ℕ
third_node op a b row = if same_connective row.op op && row.a == a && row.b == b then Some row.c
    else None

-- the node that the product row of this number states to be the connective of two nodes
unfoldable pub product_node : Facts → Connective → ℕ → ℕ → ℕ → Option ℕ
product_node facts op a b number = option_and_then (third_node op a b)
    (slice_get facts.products number)

-- the node by which the chain of this number compares `len` bits of a column, from the bit `start`
-- upwards, with a bound
unfoldable pub comparison_node : Facts → ChainKind → ℕ → ℕ → ℕ → ℕ → ℕ → Option ℕ
comparison_node facts kind col start len bound number = option_and_then
    (node_of_one kind col start len bound)
    (slice_get facts.chains number)

-- the node by which the chain of this number compares the low `len` bits of two columns
unfoldable pub two_column_node : Facts → ChainKind → ℕ → ℕ → ℕ → ℕ → Option ℕ
two_column_node facts kind left right len number = option_and_then (node_of_two kind left right len)
    (slice_get facts.chains number)

-- the node has the value of this variable
unfoldable pub is_variable : Facts → ℕ → ℕ → Bool
is_variable facts v number = tests v 0 1 (node_at facts.nodes number)

-- this number, if its node has the value of this variable
abbrev pub variable_node : Facts → ℕ → ℕ → Option ℕ
variable_node facts v number = if is_variable facts v number then Some number else None

-- All nodes that can be referenced have the values that the references state: the terminals, nodes
-- of variables, product rows and chains.
pub record HaveStatedValues (facts : Facts) : Type 0 where
  pub zero : (assignment : Assignment) → node_value facts.nodes assignment 0 ≡ false
  pub one : (assignment : Assignment) → node_value facts.nodes assignment 1 ≡ true
  pub terminal : (n : ℕ) → (n ≡ 0) ⊎ (n ≡ 1) → IsNode facts.nodes n
  pub variable : (v n : ℕ) → is_variable facts v n ≡ true
      → IsNode facts.nodes n × ((assignment : Assignment) → node_value facts.nodes assignment n
      ≡ assignment v)
  pub row : (op : Connective) (a b number c : ℕ) → product_node facts op a b number ≡ Some c
      → IsNode facts.nodes c × ((assignment : Assignment) → node_value facts.nodes assignment c
      ≡ apply_connective op (node_value facts.nodes assignment a)
      (node_value facts.nodes assignment b))
  pub chain : (kind : ChainKind) (col start len bound number n : ℕ)
      → comparison_node facts kind col start len bound number
      ≡ Some n
      → IsNode facts.nodes n × ((assignment : Assignment) → node_value facts.nodes assignment n
      ≡ compares kind (number_spelled facts.columns col start len assignment) bound)
  pub two : (kind : ChainKind) (left right len number n : ℕ)
      → two_column_node facts kind left right len number ≡ Some n
      → IsNode facts.nodes n × ((assignment : Assignment) → node_value facts.nodes assignment n
      ≡ compares kind (padded_number facts.columns left len assignment)
      (padded_number facts.columns right len assignment))
