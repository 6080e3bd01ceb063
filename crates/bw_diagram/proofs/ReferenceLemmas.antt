-- What can be cited is worth what its row or its chain says.
use Rattle.std.proofs.Common.{◌≡◌, ◌∙◌, refl, sym, ap, subst, ◌⊎◌, inl, inr, ℕ, zero, ◌-◌, Bool}
use Rattle.std.proofs.Common.{true, false, cond, ◌&&◌, [], Option, Some, None, slice_get, arith}
use Rattle.std.proofs.Common.{option_and_then, eqb, eqb-true}
use Rattle.bw_model.proofs.BitsLemmas.{both, given}
use Rattle.std.proofs.lemmas.Option.{option_and_then_some, slice_get_within}
use Rattle.bw_model.specs.StoredCodes.{number_spelled}
use Rattle.bw_model.specs.Variable.{Assignment}
use Rattle.bw_diagram.specs.declared.chain.Chain.{Chain}
use Rattle.bw_diagram.specs.declared.chain.Chain.TheVariants.{One, Two}
use Rattle.bw_diagram.specs.declared.chain.ChainKind.{ChainKind}
use Rattle.bw_diagram.specs.declared.node.Node.{Node}
use Rattle.bw_diagram.specs.declared.product.Connective.{Connective}
use Rattle.bw_diagram.specs.declared.product.Product.{Product}
use Rattle.bw_diagram.specs.Node.{IsNode, node_at, node_value, child}
use Rattle.bw_diagram.specs.Chain.{compares, node_of_one, node_of_two, node_of, padded_number}
use Rattle.bw_diagram.specs.Chain.{same_kind, tests}
use Rattle.bw_diagram.specs.Product.{apply_connective, same_connective}
use Rattle.bw_diagram.specs.Facts.{Facts, AreTrue}
use Rattle.bw_diagram.specs.References.{third_node, product_node, comparison_node, two_column_node}
use Rattle.bw_diagram.specs.References.{is_variable, HaveStatedValues}
use Rattle.bw_diagram.proofs.ChainLemmas.{node_of_one-claim, node_of_two-claim}
use Rattle.bw_diagram.proofs.NodeLemmas.{node_value-zero, node_value-one, node_value-node_at}
use Rattle.bw_diagram.proofs.NodeLemmas.{node_at-some}
use Rattle.bw_diagram.proofs.ProductLemmas.{same_connective-true}

-- what a node is worth, as far as it is known
abbrev Denotes : Facts → (Assignment → Bool) → ℕ → Type 0
Denotes facts value n = IsNode facts.nodes n × ((assignment : Assignment) → node_value facts.nodes assignment n ≡ value assignment)

variable_denotes : (facts : Facts) (v n : ℕ) → AreTrue facts → is_variable facts v n ≡ true → Denotes facts (λ assignment. assignment v) n
unfolding is_variable
variable_denotes facts v n true_facts is = at (node_at facts.nodes n) refl is
  where
    terminal : (bit : Bool) (low high : ℕ) (assignment : Assignment) → low ≡ 0 → high ≡ 1 → node_value facts.nodes assignment (cond bit high low) ≡ bit
    terminal true low high assignment low_is high_is = ap (node_value facts.nodes assignment) high_is ∙ node_value-one facts.nodes assignment
    terminal false low high assignment low_is high_is = ap (node_value facts.nodes assignment) low_is ∙ node_value-zero facts.nodes assignment

    chosen : (bit : Bool) (node : Node) → child bit node ≡ cond bit node.high node.low
    chosen true node = refl
    chosen false node = refl

    at : (found : Option Node) → node_at facts.nodes n ≡ found → tests v 0 1 found ≡ true → Denotes facts (λ assignment. assignment v) n
    at None there is = cc
    at (Some node) there is =
        let high_is = both _ _ is in
        let low_is = both _ _ high_is.0 in
        let v_is : node.v ≡ v = eqb-true node.v v low_is.0 in
        let place = node_at-some facts.nodes n node there in (
          omega (arith, place.0, slice_get_within facts.nodes (n - 2) node place.1),
          λ assignment. node_value-node_at facts.nodes n node assignment true_facts.ordered there
              ∙ ap (node_value facts.nodes assignment) (chosen (assignment node.v) node)
              ∙ terminal (assignment node.v) node.low node.high assignment (eqb-true node.low 0 low_is.1) (eqb-true node.high 1 high_is.1)
              ∙ ap assignment v_is,
        )

row_denotes : (facts : Facts) (op : Connective) (a b number c : ℕ) → AreTrue facts → product_node facts op a b number ≡ Some c →
    Denotes facts (λ assignment. apply_connective op (node_value facts.nodes assignment a) (node_value facts.nodes assignment b)) c
unfolding product_node
row_denotes facts op a b number c true_facts is = at (slice_get facts.products number) refl is
  where
    at : (found : Option Product) → slice_get facts.products number ≡ found → option_and_then (third_node op a b) found ≡ Some c →
        Denotes facts (λ assignment. apply_connective op (node_value facts.nodes assignment a) (node_value facts.nodes assignment b)) c
    at None there is = cc
    at (Some row) there is =
        let fields = given (same_connective row.op op && eqb row.a a && eqb row.b b) row.c c is in
        let b_is = both _ _ fields.0 in
        let a_is = both _ _ b_is.0 in
        let claim = true_facts.products number row there in (
          subst (IsNode facts.nodes) fields.1 claim.c_node,
          λ assignment. ap (node_value facts.nodes assignment) (sym fields.1)
              ∙ claim.joins assignment
              ∙ ap (λ o. apply_connective o (node_value facts.nodes assignment row.a) (node_value facts.nodes assignment row.b)) (same_connective-true row.op op a_is.0)
              ∙ ap (λ x. apply_connective op (node_value facts.nodes assignment x) (node_value facts.nodes assignment row.b)) (eqb-true row.a a a_is.1)
              ∙ ap (λ y. apply_connective op (node_value facts.nodes assignment a) (node_value facts.nodes assignment y)) (eqb-true row.b b b_is.1),
        )

one_node : (chain : Chain) (kind : ChainKind) (col start len bound n : ℕ) → node_of_one kind col start len bound chain ≡ Some n → node_of chain ≡ n
one_node (Two k l r m node prev) kind col start len bound n is = cc
one_node (One k c s l b node prev) kind col start len bound n is = (given (same_kind k kind && eqb c col && eqb s start && eqb l len && eqb b bound) node n is).1

two_node : (chain : Chain) (kind : ChainKind) (left right len n : ℕ) → node_of_two kind left right len chain ≡ Some n → node_of chain ≡ n
two_node (One k c s l b node prev) kind left right len n is = cc
two_node (Two k l r m node prev) kind left right len n is = (given (same_kind k kind && eqb l left && eqb r right && eqb m len) node n is).1

chain_denotes : (facts : Facts) (kind : ChainKind) (col start len bound number n : ℕ) → AreTrue facts → comparison_node facts kind col start len bound number ≡ Some n →
    Denotes facts (λ assignment. compares kind (number_spelled facts.columns col start len assignment) bound) n
unfolding comparison_node
chain_denotes facts kind col start len bound number n true_facts is =
    option_and_then_some (node_of_one kind col start len bound) (slice_get facts.chains number) n is
    (λ chain there found. let claim = true_facts.chains number chain there in (
      subst (IsNode facts.nodes) (one_node chain kind col start len bound n found) claim.chain_node,
      λ assignment. node_of_one-claim facts.columns facts.nodes assignment chain kind col start len bound n claim found,
    ))

two_denotes : (facts : Facts) (kind : ChainKind) (left right len number n : ℕ) → AreTrue facts → two_column_node facts kind left right len number ≡ Some n →
    Denotes facts (λ assignment. compares kind (padded_number facts.columns left len assignment) (padded_number facts.columns right len assignment)) n
unfolding two_column_node
two_denotes facts kind left right len number n true_facts is =
    option_and_then_some (node_of_two kind left right len) (slice_get facts.chains number) n is
    (λ chain there found. let claim = true_facts.chains number chain there in (
      subst (IsNode facts.nodes) (two_node chain kind left right len n found) claim.chain_node,
      λ assignment. node_of_two-claim facts.columns facts.nodes assignment chain kind left right len n claim found,
    ))

terminal_node : (facts : Facts) (n : ℕ) → (n ≡ 0) ⊎ (n ≡ 1) → IsNode facts.nodes n
terminal_node facts n (inl is) = omega (arith, is)
terminal_node facts n (inr is) = omega (arith, is)

-- if all that is held is true, so is all that can be cited
pub have_values : (facts : Facts) → AreTrue facts → HaveStatedValues facts
have_values facts true_facts = record {
  zero = node_value-zero facts.nodes;
  one = node_value-one facts.nodes;
  terminal = terminal_node facts;
  variable = λ v n. variable_denotes facts v n true_facts;
  row = λ op a b number c. row_denotes facts op a b number c true_facts;
  chain = λ kind col start len bound number n. chain_denotes facts kind col start len bound number n true_facts;
  two = λ kind left right len number n. two_denotes facts kind left right len number n true_facts;
}
