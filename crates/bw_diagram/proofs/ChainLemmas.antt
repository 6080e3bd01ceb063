-- Chains are true: a chain follows from that of the bits below its top bit.
use Rattle.std.proofs.Common.{◌≡◌, ◌∙◌, refl, sym, ap, ap₂, subst, ℕ, zero, suc, ◌+◌, ◌-◌, ◌%◌, ◌^◌}
use Rattle.std.proofs.Common.{◌<◌, ◌≤◌, Bool, true, false, not, cond, min, zero-add, ◌&&◌, ◌||◌}
use Rattle.std.proofs.Common.{⊎_elim, List, ◌++◌, length, length-append, ◌≢◌, Option, Some, None}
use Rattle.std.proofs.Common.{slice_get, arith, option_and_then, is_none, ltb, leb, eqb, pow_mono}
use Rattle.std.proofs.Common.{ltb-true, ltb-false, leb-true, lt-ltb, le-ltb, eqb-true, eq-eqb}
use Rattle.std.proofs.Common.{ne_eqb}
use Rattle.std.specs.Int.{bit_at}
use Rattle.std.proofs.Math.Nat.{mod-eq_of_lt, min-le_left}
use Rattle.std.proofs.lemmas.Bool.{eqb-false, cases_lt}
use Rattle.std.proofs.lemmas.Nat.{pow_pos, mod-pow-add}
use Rattle.std.proofs.lemmas.Nat.Bits.{bit_at-lt}
use Rattle.std.proofs.lemmas.Option.{option_and_then_some}
use Rattle.bw_model.specs.declared.column.Column.{Column}
use Rattle.bw_model.specs.Code.{width_at, has_bit}
use Rattle.bw_model.specs.Variable.{Assignment, first_variable, bit_variable, binary_number}
use Rattle.bw_model.specs.StoredCodes.{number_spelled}
use Rattle.bw_model.proofs.BitsLemmas.{both, given, bit_denotes}
use Rattle.bw_model.proofs.VariableLemmas.{width_before_next, binary_number-lt}
use Rattle.bw_diagram.specs.declared.node.Node.{Node}
use Rattle.bw_diagram.specs.declared.chain.ChainKind.{ChainKind}
use Rattle.bw_diagram.specs.declared.chain.ChainKind.TheVariants.{Less, Equal}
use Rattle.bw_diagram.specs.declared.chain.Chain.{Chain}
use Rattle.bw_diagram.specs.declared.chain.Chain.TheVariants.{One, Two}
use Rattle.bw_diagram.specs.Node.{IsNode, child, AreOrdered, node_at, node_value}
use Rattle.bw_diagram.specs.Chain.{compares, padded_number, variable_at, comparison, IsChain}
use Rattle.bw_diagram.specs.Chain.{outcome, first_node, same_kind, node_of_one, node_of_two}
use Rattle.bw_diagram.specs.Chain.{node_before, tests, is_choice, occurs, step, leads, leads_always}
use Rattle.bw_diagram.specs.Chain.{chooses, chooses_from, is_step, is_within, is_in_range}
use Rattle.bw_diagram.specs.Chain.{is_valid_chain, kind_of, length_of, node_of, prev_of}
use Rattle.bw_diagram.proofs.ProductLemmas.{either}
use Rattle.bw_diagram.proofs.NodeLemmas.{node_value-zero, node_value-one, node_value-node_at}
use Rattle.bw_diagram.proofs.NodeLemmas.{node_value-cofactor, node_value-append}

number_spelled-lt : (columns : List Column) (col start count : ℕ) (assignment : Assignment) → number_spelled columns col start count assignment < 2 ^ count
number_spelled-lt columns col start count assignment = binary_number-lt assignment (first_variable columns (suc col) - (start + count)) count

padded_number-lt : (columns : List Column) (col len : ℕ) (assignment : Assignment) → padded_number columns col len assignment < 2 ^ len
padded_number-lt columns col len assignment =
    let below = number_spelled-lt columns col 0 (min len (width_at columns col)) assignment in
    let mono = pow_mono {i = min len (width_at columns col)} {j = len} (min-le_left len (width_at columns col)) in
    omega arith

-- of a whole column's bits
pub padded_number-whole : (columns : List Column) (col len : ℕ) (assignment : Assignment) → width_at columns col ≤ len → padded_number columns col len assignment ≡ number_spelled columns col 0 (width_at columns col) assignment
padded_number-whole columns col len assignment le =
    let short : min len (width_at columns col) ≡ width_at columns col = omega arith in
    ap (λ count. number_spelled columns col 0 count assignment) short

pub number_spelled-whole : (columns : List Column) (col : ℕ) (assignment : Assignment) → number_spelled columns col 0 (width_at columns col) assignment ≡ binary_number assignment (bit_variable columns col (width_at columns col - 1)) (width_at columns col)
number_spelled-whole columns col assignment = by_width (first_variable columns (suc col)) (width_at columns col)
  where
    by_width : (next width : ℕ) → binary_number assignment (next - (0 + width)) width ≡ binary_number assignment (next - suc (width - 1)) width
    by_width next zero = refl
    by_width next (suc width) = let same : next - (0 + suc width) ≡ next - suc (suc width - 1) = omega arith in ap (λ first. binary_number assignment first (suc width)) same

-- a number is its top bit and the number of the bits below
number_spelled-suc : (columns : List Column) (col start lower : ℕ) (assignment : Assignment) → col < length columns → start + suc lower ≤ width_at columns col →
    number_spelled columns col start (suc lower) assignment ≡ cond (assignment (bit_variable columns col (start + lower))) (2 ^ lower) 0 + number_spelled columns col start lower assignment
number_spelled-suc columns col start lower assignment there within =
    let fits = width_before_next columns col there in
    let top : first_variable columns (suc col) - (start + suc lower) ≡ bit_variable columns col (start + lower) = omega arith in
    let rest : suc (first_variable columns (suc col) - (start + suc lower)) ≡ first_variable columns (suc col) - (start + lower) = omega arith in
    ap₂ (λ v first. cond (assignment v) (2 ^ lower) 0 + binary_number assignment first lower) top rest

-- a bit that has no variable is 0
bit_of : Assignment → Option ℕ → Bool
bit_of assignment None = false
bit_of assignment (Some v) = assignment v

padded_number-suc : (columns : List Column) (col lower : ℕ) (assignment : Assignment) → col < length columns →
    padded_number columns col (suc lower) assignment ≡ cond (bit_of assignment (variable_at columns col lower)) (2 ^ lower) 0 + padded_number columns col lower assignment
unfolding bit_of
padded_number-suc columns col lower assignment there = by_width (ltb lower (width_at columns col)) refl
  where
    by_width : (has : Bool) → ltb lower (width_at columns col) ≡ has →
        padded_number columns col (suc lower) assignment ≡ cond (bit_of assignment (cond has (Some (bit_variable columns col lower)) None)) (2 ^ lower) 0 + padded_number columns col lower assignment
    by_width true has =
        let lt : lower < width_at columns col = ltb-true lower (width_at columns col) has in
        let low : min lower (width_at columns col) ≡ lower = omega arith in
        let high : min (suc lower) (width_at columns col) ≡ suc lower = omega arith in
        ap (λ count. number_spelled columns col 0 count assignment) high
        ∙ number_spelled-suc columns col 0 lower assignment there (omega arith)
        ∙ ap₂ (λ place count. cond (assignment (bit_variable columns col place)) (2 ^ lower) 0 + number_spelled columns col 0 count assignment) (zero-add lower) (sym low)
    by_width false has =
        let le : width_at columns col ≤ lower = ltb-false lower (width_at columns col) has in
        let low : min lower (width_at columns col) ≡ width_at columns col = omega arith in
        let high : min (suc lower) (width_at columns col) ≡ width_at columns col = omega arith in
        ap (λ count. number_spelled columns col 0 count assignment) (high ∙ sym low) ∙ sym (zero-add (padded_number columns col lower assignment))

-- a top bit that both numbers have changes no comparison
ltb-both : (p c d : ℕ) → ltb c d ≡ ltb (p + c) (p + d)
ltb-both p c d = ⊎_elim (λ lt. lt-ltb c d lt ∙ sym (lt-ltb (p + c) (p + d) (omega arith))) (λ ge. le-ltb c d ge ∙ sym (le-ltb (p + c) (p + d) (omega arith))) (cases_lt c d)

eqb-both : (p c d : ℕ) → eqb c d ≡ eqb (p + c) (p + d)
eqb-both p c d = by_test (eqb c d) refl
  where
    by_test : (same : Bool) → eqb c d ≡ same → same ≡ eqb (p + c) (p + d)
    by_test true is = sym (eq-eqb (p + c) (p + d) (ap (λ n. p + n) (eqb-true c d is)))
    by_test false is = sym (ne_eqb (p + c) (p + d) (λ e. eqb-false c d is (omega arith)))

compares-both : (kind : ChainKind) (p c d : ℕ) → compares kind c d ≡ compares kind (p + c) (p + d)
compares-both Less p c d = ltb-both p c d
compares-both Equal p c d = eqb-both p c d

-- the outcome by two top bits, of nodes that are worth what f says, is the comparison of the whole
-- numbers
pub outcome-compares : (f : ℕ → Bool) → f 0 ≡ false → f 1 ≡ true → (kind : ChainKind) (x y : Bool) (e p c d : ℕ) → c < p → d < p → f e ≡ compares kind c d →
    f (outcome kind x y e) ≡ compares kind (cond x p 0 + c) (cond y p 0 + d)
outcome-compares f z o kind false false e p c d cp dp is = is ∙ compares-both kind 0 c d
outcome-compares f z o kind true true e p c d cp dp is = is ∙ compares-both kind p c d
outcome-compares f z o Less false true e p c d cp dp is = o ∙ sym (lt-ltb (0 + c) (p + d) (omega arith))
outcome-compares f z o Less true false e p c d cp dp is = z ∙ sym (le-ltb (p + c) (0 + d) (omega arith))
outcome-compares f z o Equal false true e p c d cp dp is = z ∙ sym (ne_eqb (0 + c) (p + d) (λ e. omega arith))
outcome-compares f z o Equal true false e p c d cp dp is = z ∙ sym (ne_eqb (p + c) (0 + d) (λ e. omega arith))

-- a number is its top bit and the rest
pub top_bit : (n lower : ℕ) → n < 2 ^ suc lower → cond (has_bit n lower) (2 ^ lower) 0 + n % 2 ^ lower ≡ n
top_bit n lower lt =
    let next : suc lower ≡ 1 + lower = omega arith in
    let whole : n % 2 ^ (1 + lower) ≡ n = ap (λ k. n % 2 ^ k) (sym next) ∙ mod-eq_of_lt lt in
    omega (arith, bit_denotes (bit_at n lower) (2 ^ lower) (bit_at-lt n lower), mod-pow-add n 1 lower, whole)

-- what a choice by a variable is worth
choice_value : (nodes : List Node) (assignment : Assignment) (v low high n : ℕ) → AreOrdered nodes → is_choice nodes v low high n ≡ true →
    node_value nodes assignment n ≡ node_value nodes assignment (cond (assignment v) high low)
choice_value nodes assignment v low high n ordered = either (tests v low high (node_at nodes n)) (eqb low high && eqb n low) (at (node_at nodes n) refl) same
  where
    same : (eqb low high && eqb n low) ≡ true → node_value nodes assignment n ≡ node_value nodes assignment (cond (assignment v) high low)
    same is = let each = both (eqb low high) (eqb n low) is in by_side (assignment v) (eqb-true low high each.0) (eqb-true n low each.1)
      where
        by_side : (bit : Bool) → low ≡ high → n ≡ low → node_value nodes assignment n ≡ node_value nodes assignment (cond bit high low)
        by_side true lh nl = ap (node_value nodes assignment) (nl ∙ lh)
        by_side false lh nl = ap (node_value nodes assignment) nl

    children : (node : Node) (bit : Bool) → node.low ≡ low → node.high ≡ high → child bit node ≡ cond bit high low
    children node true l h = h
    children node false l h = l

    at : (found : Option Node) → node_at nodes n ≡ found → tests v low high found ≡ true → node_value nodes assignment n ≡ node_value nodes assignment (cond (assignment v) high low)
    at None found is = cc
    at (Some node) found is =
        let last = both _ _ is in
        let first = both _ _ last.0 in
        node_value-node_at nodes n node assignment ordered found
        ∙ ap (node_value nodes assignment) (children node (assignment node.v) (eqb-true node.low low first.1) (eqb-true node.high high last.1))
        ∙ ap (λ k. node_value nodes assignment (cond (assignment k) high low)) (eqb-true node.v v first.0)

-- a step by a bit keeps the value, on the side of the bit
step_value : (nodes : List Node) (assignment : Assignment) (v : Option ℕ) (n : ℕ) → AreOrdered nodes → node_value nodes assignment (step nodes v (bit_of assignment v) n) ≡ node_value nodes assignment n
unfolding bit_of
step_value nodes assignment None n ordered = refl
step_value nodes assignment (Some v) n ordered = node_value-cofactor nodes assignment v (assignment v) n ordered refl

occurs-bit : (assignment : Assignment) (v : Option ℕ) → occurs v (bit_of assignment v) ≡ true
unfolding bit_of
occurs-bit assignment None = refl
occurs-bit assignment (Some v) = of_bit (assignment v)
  where
    of_bit : (bit : Bool) → occurs (Some v) bit ≡ true
    of_bit true = refl
    of_bit false = refl

same_kind-true : (k kind : ChainKind) → same_kind k kind ≡ true → k ≡ kind
same_kind-true Less Less is = refl
same_kind-true Equal Equal is = refl
same_kind-true _ _ is = cc

-- every chain of a list is true
abbrev pub AllChains : List Column → List Node → List Chain → Type 0
AllChains columns nodes chains = (k : ℕ) (chain : Chain) → slice_get chains k ≡ Some chain → IsChain columns nodes chain

-- the node found of a chain over one column is worth its comparison
pub node_of_one-claim : (columns : List Column) (nodes : List Node) (assignment : Assignment) (chain : Chain) (kind : ChainKind) (col start len bound e : ℕ) → IsChain columns nodes chain →
    node_of_one kind col start len bound chain ≡ Some e → node_value nodes assignment e ≡ compares kind (number_spelled columns col start len assignment) bound
node_of_one-claim columns nodes assignment (Two k l r n node prev) kind col start len bound e claimed is = cc
node_of_one-claim columns nodes assignment (One k c s l b node prev) kind col start len bound e claimed is =
    let found = given (same_kind k kind && eqb c col && eqb s start && eqb l len && eqb b bound) node e is in
    let b_is = both _ _ found.0 in
    let l_is = both _ _ b_is.0 in
    let s_is = both _ _ l_is.0 in
    let c_is = both _ _ s_is.0 in
    ap (node_value nodes assignment) (sym found.1)
    ∙ claimed.claim assignment
    ∙ ap (λ k. compares k (number_spelled columns c s l assignment) b) (same_kind-true k kind c_is.0)
    ∙ ap (λ c. compares kind (number_spelled columns c s l assignment) b) (eqb-true c col c_is.1)
    ∙ ap (λ s. compares kind (number_spelled columns col s l assignment) b) (eqb-true s start s_is.1)
    ∙ ap (λ l. compares kind (number_spelled columns col start l assignment) b) (eqb-true l len l_is.1)
    ∙ ap (λ b. compares kind (number_spelled columns col start len assignment) b) (eqb-true b bound b_is.1)

-- the same of two columns
pub node_of_two-claim : (columns : List Column) (nodes : List Node) (assignment : Assignment) (chain : Chain) (kind : ChainKind) (left right len e : ℕ) → IsChain columns nodes chain →
    node_of_two kind left right len chain ≡ Some e → node_value nodes assignment e ≡ compares kind (padded_number columns left len assignment) (padded_number columns right len assignment)
node_of_two-claim columns nodes assignment (One k c s l b node prev) kind left right len e claimed is = cc
node_of_two-claim columns nodes assignment (Two k l r n node prev) kind left right len e claimed is =
    let found = given (same_kind k kind && eqb l left && eqb r right && eqb n len) node e is in
    let n_is = both _ _ found.0 in
    let r_is = both _ _ n_is.0 in
    let l_is = both _ _ r_is.0 in
    ap (node_value nodes assignment) (sym found.1)
    ∙ claimed.claim assignment
    ∙ ap (λ k. compares k (padded_number columns l n assignment) (padded_number columns r n assignment)) (same_kind-true k kind l_is.0)
    ∙ ap (λ l. compares kind (padded_number columns l n assignment) (padded_number columns r n assignment)) (eqb-true l left l_is.1)
    ∙ ap (λ r. compares kind (padded_number columns left n assignment) (padded_number columns r n assignment)) (eqb-true r right r_is.1)
    ∙ ap (λ n. compares kind (padded_number columns left n assignment) (padded_number columns right n assignment)) (eqb-true n len n_is.1)

-- an earlier chain is true
earlier : (columns : List Column) (nodes : List Node) (chains : List Chain) (prev : Option ℕ) (chain : Chain) → AllChains columns nodes chains → option_and_then (slice_get chains) prev ≡ Some chain → IsChain columns nodes chain
earlier columns nodes chains None chain before is = cc
earlier columns nodes chains (Some p) chain before is = before p chain is

-- the claim of a chain over one bit more
one-claim : (columns : List Column) (nodes : List Node) (chains : List Chain) (kind : ChainKind) (col start len bound node : ℕ) (prev : Option ℕ) (lower e : ℕ) → AreOrdered nodes → AllChains columns nodes chains →
    col < length columns → start + len ≤ width_at columns col → len ≡ suc lower → bound < 2 ^ len → node_before chains (One kind col start len bound node prev) lower ≡ Some e → chooses columns nodes (One kind col start len bound node prev) lower e ≡ true →
    (assignment : Assignment) → node_value nodes assignment node ≡ compares kind (number_spelled columns col start len assignment) bound
one-claim columns nodes chains kind col start len bound node prev lower e ordered before there within longer fits found chosen assignment =
    let v = bit_variable columns col (start + lower) in
    let top = has_bit bound lower in
    let number = number_spelled columns col start lower assignment in
    let lower_claim : node_value nodes assignment e ≡ compares kind number (bound % 2 ^ lower) =
    option_and_then_some (node_of_one kind col start lower (bound % 2 ^ lower)) (option_and_then (slice_get chains) prev) e found
    (λ chain there is. node_of_one-claim columns nodes assignment chain kind col start lower (bound % 2 ^ lower) e (earlier columns nodes chains prev chain before there) is) in
    let fits_next : bound < 2 ^ suc lower = rw longer at fits in
    choice_value nodes assignment v (outcome kind false top e) (outcome kind true top e) node ordered chosen
    ∙ ap (node_value nodes assignment) (by_side kind top e (assignment v))
    ∙ outcome-compares (node_value nodes assignment) (node_value-zero nodes assignment) (node_value-one nodes assignment) kind (assignment v) top e (2 ^ lower) number (bound % 2 ^ lower)
    (number_spelled-lt columns col start lower assignment) (remainder bound lower) lower_claim
    ∙ ap₂ (compares kind) (sym (number_spelled-suc columns col start lower assignment there (omega arith))) (top_bit bound lower fits_next)
    ∙ ap (λ l. compares kind (number_spelled columns col start l assignment) bound) (sym longer)
  where
    by_side : (kind : ChainKind) (top : Bool) (e : ℕ) (bit : Bool) → cond bit (outcome kind true top e) (outcome kind false top e) ≡ outcome kind bit top e
    by_side kind top e true = refl
    by_side kind top e false = refl

    remainder : (n lower : ℕ) → n % 2 ^ lower < 2 ^ lower
    remainder n lower = omega (arith, pow_pos lower)

implied : (a b c : Bool) → (not (a && b) || c) ≡ true → a ≡ true → b ≡ true → c ≡ true
implied true true c is a_is b_is = is
implied _ _ c is a_is b_is = cc

-- if both bits can occur, the node leads by them to the outcome
leads-is : (nodes : List Node) (kind : ChainKind) (left right : Option ℕ) (e node : ℕ) (x y : Bool) → leads nodes kind left right e node x y ≡ true → occurs left x ≡ true → occurs right y ≡ true →
    step nodes right y (step nodes left x node) ≡ outcome kind x y e
leads-is nodes kind left right e node x y is left_occurs right_occurs =
    eqb-true _ _ (implied (occurs left x) (occurs right y) _ is left_occurs right_occurs)

leads_by_bits : (nodes : List Node) (kind : ChainKind) (left right : Option ℕ) (e node : ℕ) → leads_always nodes kind left right e node ≡ true → (x y : Bool) → leads nodes kind left right e node x y ≡ true
leads_by_bits nodes kind left right e node is = by_bits (both _ _ is)
  where
    P : Bool → Bool → Bool
    P = leads nodes kind left right e node

    by_bits : ((P false false && P false true && P true false) ≡ true) × (P true true ≡ true) → (x y : Bool) → leads nodes kind left right e node x y ≡ true
    by_bits last true true = last.1
    by_bits last true false = (both (P false false && P false true) (P true false) last.0).1
    by_bits last false true = (both (P false false) (P false true) (both (P false false && P false true) (P true false) last.0).0).1
    by_bits last false false = (both (P false false) (P false true) (both (P false false && P false true) (P true false) last.0).0).0

-- the claim of a chain over one bit more of two columns
two-claim : (columns : List Column) (nodes : List Node) (chains : List Chain) (kind : ChainKind) (left right len node : ℕ) (prev : Option ℕ) (lower e : ℕ) → AreOrdered nodes → AllChains columns nodes chains →
    left < length columns → right < length columns → len ≡ suc lower → node_before chains (Two kind left right len node prev) lower ≡ Some e → chooses columns nodes (Two kind left right len node prev) lower e ≡ true →
    (assignment : Assignment) → node_value nodes assignment node ≡ compares kind (padded_number columns left len assignment) (padded_number columns right len assignment)
two-claim columns nodes chains kind left right len node prev lower e ordered before left_there right_there longer found chosen assignment =
    let v = variable_at columns left lower in
    let w = variable_at columns right lower in
    let x = bit_of assignment v in
    let y = bit_of assignment w in
    let c = padded_number columns left lower assignment in
    let d = padded_number columns right lower assignment in
    let lower_claim : node_value nodes assignment e ≡ compares kind c d =
    option_and_then_some (node_of_two kind left right lower) (option_and_then (slice_get chains) prev) e found
    (λ chain there is. node_of_two-claim columns nodes assignment chain kind left right lower e (earlier columns nodes chains prev chain before there) is) in
    let reached = leads-is nodes kind v w e node x y (leads_by_bits nodes kind v w e node chosen x y) (occurs-bit assignment v) (occurs-bit assignment w) in
    sym (step_value nodes assignment v node ordered)
    ∙ sym (step_value nodes assignment w (step nodes v x node) ordered)
    ∙ ap (node_value nodes assignment) reached
    ∙ outcome-compares (node_value nodes assignment) (node_value-zero nodes assignment) (node_value-one nodes assignment) kind x y e (2 ^ lower) c d
    (padded_number-lt columns left lower assignment) (padded_number-lt columns right lower assignment) lower_claim
    ∙ ap₂ (compares kind) (sym (padded_number-suc columns left lower assignment left_there)) (sym (padded_number-suc columns right lower assignment right_there))
    ∙ ap (λ l. compares kind (padded_number columns left l assignment) (padded_number columns right l assignment)) (sym longer)

-- what a chain's rule says of its fields
pub record InRange (columns : List Column) (nodes : List Node) (chain : Chain) : Type 0 where
  pub chain_node : IsNode nodes (node_of chain)
  pub within : is_within columns chain ≡ true

is_in_range-is : (columns : List Column) (nodes : List Node) (chains : List Chain) (chain : Chain) → is_in_range columns nodes chains chain ≡ true → InRange columns nodes chain
unfolding is_in_range
is_in_range-is columns nodes chains chain is =
    let within = both _ _ is in
    let prev = both _ _ within.0 in
    record { chain_node = ltb-true (node_of chain) (2 + length nodes) prev.0; within = within.1 }

-- the length of a chain over a bit or more
suc_of : (len : ℕ) → eqb len 0 ≡ false → len ≡ suc (len - 1)
suc_of len is = let some : len ≢ 0 = eqb-false len 0 is in omega arith

-- a chain over no bits
none-claim : (columns : List Column) (nodes : List Node) (assignment : Assignment) (chain : Chain) → length_of chain ≡ 0 → node_of chain ≡ first_node (kind_of chain) → is_within columns chain ≡ true →
    node_value nodes assignment (node_of chain) ≡ comparison columns chain assignment
none-claim columns nodes assignment (One kind col start len bound node prev) none first within =
    let P : ℕ → Type 0 = λ l. bound < 2 ^ l in
    let small : bound < 2 ^ 0 = subst P none (ltb-true bound (2 ^ len) (both (ltb col (length columns) && leb (start + len) (width_at columns col)) (ltb bound (2 ^ len)) within).1) in
    let zero_bound : 0 ≡ bound = omega arith in
    ap (node_value nodes assignment) first
    ∙ of_kind kind
    ∙ ap (λ n. compares kind 0 n) zero_bound
    ∙ ap (λ l. compares kind (number_spelled columns col start l assignment) bound) (sym none)
  where
    of_kind : (kind : ChainKind) → node_value nodes assignment (first_node kind) ≡ compares kind 0 0
    of_kind Less = node_value-zero nodes assignment
    of_kind Equal = node_value-one nodes assignment
none-claim columns nodes assignment (Two kind left right len node prev) none first within =
    ap (node_value nodes assignment) first
    ∙ of_kind kind
    ∙ ap₂ (compares kind) (sym (padded_zero left)) (sym (padded_zero right))
    ∙ ap (λ l. compares kind (padded_number columns left l assignment) (padded_number columns right l assignment)) (sym none)
  where
    padded_zero : (col : ℕ) → padded_number columns col 0 assignment ≡ 0
    padded_zero col = let none : min 0 (width_at columns col) ≡ 0 = omega arith in ap (λ count. number_spelled columns col 0 count assignment) none

    of_kind : (kind : ChainKind) → node_value nodes assignment (first_node kind) ≡ compares kind 0 0
    of_kind Less = node_value-zero nodes assignment
    of_kind Equal = node_value-one nodes assignment

-- a chain over a bit or more
some-claim : (columns : List Column) (nodes : List Node) (chains : List Chain) (chain : Chain) (lower : ℕ) (found : Option ℕ) → AreOrdered nodes → AllChains columns nodes chains → length_of chain ≡ suc lower → is_within columns chain ≡ true →
    node_before chains chain lower ≡ found → chooses_from columns nodes chain lower found ≡ true → (assignment : Assignment) → node_value nodes assignment (node_of chain) ≡ comparison columns chain assignment
some-claim columns nodes chains chain lower None ordered before longer within found chosen assignment = cc
some-claim columns nodes chains (One kind col start len bound node prev) lower (Some e) ordered before longer within found chosen assignment =
    let fits = both (ltb col (length columns) && leb (start + len) (width_at columns col)) (ltb bound (2 ^ len)) within in
    let there = both (ltb col (length columns)) (leb (start + len) (width_at columns col)) fits.0 in
    one-claim columns nodes chains kind col start len bound node prev lower e ordered before (ltb-true col (length columns) there.0) (leb-true (start + len) (width_at columns col) there.1) longer
    (ltb-true bound (2 ^ len) fits.1) found chosen assignment
some-claim columns nodes chains (Two kind left right len node prev) lower (Some e) ordered before longer within found chosen assignment =
    let long = both _ _ within in
    let apart = both _ _ long.0 in
    let there = both _ _ apart.0 in
    two-claim columns nodes chains kind left right len node prev lower e ordered before (ltb-true left (length columns) there.0) (ltb-true right (length columns) there.1) longer found chosen assignment

-- a chain that obeys its rule is true, if the chains before it are
pub is_valid_chain-chain : (columns : List Column) (nodes : List Node) (chains : List Chain) (number : ℕ) (chain : Chain) → AreOrdered nodes → AllChains columns nodes chains → is_valid_chain columns nodes chains number chain ≡ true → IsChain columns nodes chain
unfolding is_valid_chain is_step
is_valid_chain-chain columns nodes chains number chain ordered before is =
    let stepped = both _ _ is in
    let range = is_in_range-is columns nodes chains chain (both _ _ stepped.0).1 in
    record { chain_node = range.chain_node; claim = λ assignment. by_length (eqb (length_of chain) 0) refl stepped.1 range.within assignment }
  where
    by_length : (none : Bool) → eqb (length_of chain) 0 ≡ none → cond none (is_none (prev_of chain) && eqb (node_of chain) (first_node (kind_of chain))) (chooses_from columns nodes chain (length_of chain - 1) (node_before chains chain (length_of chain - 1))) ≡ true →
        is_within columns chain ≡ true → (assignment : Assignment) → node_value nodes assignment (node_of chain) ≡ comparison columns chain assignment
    by_length true none is within assignment =
        none-claim columns nodes assignment chain (eqb-true (length_of chain) 0 none) (eqb-true _ _ (both _ _ is).1) within
    by_length false none is within assignment =
        some-claim columns nodes chains chain (length_of chain - 1) (node_before chains chain (length_of chain - 1)) ordered before (suc_of (length_of chain) none) within refl is assignment

-- later nodes leave a chain true
pub IsChain-append : (columns : List Column) (nodes more : List Node) (chain : Chain) → IsChain columns nodes chain → IsChain columns (nodes ++ more) chain
IsChain-append columns nodes more chain claimed = record {
  chain_node = omega (arith, length-append nodes more, claimed.chain_node);
  claim = λ assignment. node_value-append nodes more assignment (node_of chain) claimed.chain_node ∙ claimed.claim assignment;
}
