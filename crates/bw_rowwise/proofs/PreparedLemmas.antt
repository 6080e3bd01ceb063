-- The truth of each kind of prepared condition, and the places of its columns.
use Rattle.std.proofs.Common.{◌≡◌, ◌∙◌, ◌<◌, ◌+◌, ◌&&◌, ℕ, zero, suc, arith, Bool, true, List, []}
use Rattle.std.proofs.Common.{◌∷◌, ◌++◌, get_or, length, map, take, Vec, Box, Global, sym, ap}
use Rattle.std.specs.List.{list_all}
use Rattle.std.proofs.lemmas.List.Folds.{list_all-map}
use Rattle.bw_model.specs.declared.cond.Truth.{Truth}
use Rattle.bw_model.specs.declared.cond.Truth.TheVariants.{Yes}
use Rattle.bw_model.specs.declared.cond.Op.{Op}
use Rattle.bw_model.specs.declared.cond.Operand.{Operand}
use Rattle.bw_model.specs.Cond.{is_within, operand_value}
use Rattle.bw_model.specs.Row.{Value}
use Rattle.bw_model.specs.Truth.{all_of, any_of, between, compare_values, greatest}
use Rattle.bw_model.specs.Truth.{is_null, is_truth, least, negation, truth_from}
use Rattle.bw_rowwise.specs.declared.prepared.Items.{Items}
use Rattle.bw_rowwise.specs.declared.prepared.Prepared.{Prepared, Prepared-F, fold-roll-Prepared}
use Rattle.bw_rowwise.specs.declared.prepared.Prepared.{roll-Prepared}
use Rattle.bw_rowwise.specs.declared.prepared.Prepared.TheFolds.{map-Prepared}
use Rattle.bw_rowwise.specs.declared.prepared.Prepared.TheVariants.{Always, Cmp, Between, Among}
use Rattle.bw_rowwise.specs.declared.prepared.Prepared.TheVariants.{IsNull, And, Or, Not, Test}
use Rattle.bw_rowwise.specs.declared.prepared.Prepared.TheVariants.{rolls-Always, rolls-Cmp}
use Rattle.bw_rowwise.specs.declared.prepared.Prepared.TheVariants.{rolls-Between, rolls-Among}
use Rattle.bw_rowwise.specs.declared.prepared.Prepared.TheVariants.{rolls-IsNull, rolls-And}
use Rattle.bw_rowwise.specs.declared.prepared.Prepared.TheVariants.{rolls-Or, rolls-Not, rolls-Test}
use Rattle.bw_rowwise.specs.Prepared.{among_items, items_within, places_step, places_within}
use Rattle.bw_rowwise.specs.Prepared.{prepared_step, prepared_truth, Absorbs, JoinAlike}
use Rattle.bw_rowwise.proofs.LogicLemmas.{greatest_assoc, least_assoc}
use Rattle.bw_rowwise.proofs.TruthLemmas.{all_more, all_pushed, any_more, any_pushed}
use Rattle.bw_rowwise.proofs.TruthLemmas.{greatest-first, least-first}

-- a condition's truth is made of its parts' by its outermost layer
truth_folded : (row : List Value) (layer : Prepared-F Prepared) {cond : Prepared} → roll-Prepared layer ≡ cond → prepared_truth row cond ≡ prepared_step row (map-Prepared Prepared Truth (prepared_truth row) layer)
unfolding prepared_truth
truth_folded row layer is = ap (prepared_truth row) (sym is) ∙ fold-roll-Prepared Truth (prepared_step row) layer

pub truth-Always : (row : List Value) → prepared_truth row Always ≡ Yes
truth-Always row = truth_folded row Prepared-F.Always rolls-Always

pub truth-Cmp : (row : List Value) (op : Op) (x y : Operand) → prepared_truth row (Cmp op x y) ≡ compare_values op (operand_value row x) (operand_value row y)
truth-Cmp row op x y = truth_folded row (Prepared-F.Cmp op x y) (rolls-Cmp op x y)

pub truth-Between : (row : List Value) (x y z : Operand) → prepared_truth row (Between x y z) ≡ between (operand_value row x) (operand_value row y) (operand_value row z)
truth-Between row x y z = truth_folded row (Prepared-F.Between x y z) (rolls-Between x y z)

pub truth-Among : (row : List Value) (x : Operand) (items : Items) → prepared_truth row (Among x items) ≡ among_items row (operand_value row x) items
truth-Among row x items = truth_folded row (Prepared-F.Among x items) (rolls-Among x items)

pub truth-IsNull : (row : List Value) (x : Operand) → prepared_truth row (IsNull x) ≡ truth_from (is_null (operand_value row x))
truth-IsNull row x = truth_folded row (Prepared-F.IsNull x) (rolls-IsNull x)

pub truth-And : (row : List Value) (parts : Vec Prepared Global) → prepared_truth row (And parts) ≡ all_of (map (prepared_truth row) parts.items)
truth-And row parts = truth_folded row (Prepared-F.And parts) (rolls-And parts)

pub truth-Or : (row : List Value) (parts : Vec Prepared Global) → prepared_truth row (Or parts) ≡ any_of (map (prepared_truth row) parts.items)
truth-Or row parts = truth_folded row (Prepared-F.Or parts) (rolls-Or parts)

pub truth-Not : (row : List Value) (part : Box Prepared Global) → prepared_truth row (Not part) ≡ negation (prepared_truth row part.value)
truth-Not row part = truth_folded row (Prepared-F.Not part) (rolls-Not part)

pub truth-Test : (row : List Value) (part : Box Prepared Global) (t : Truth) → prepared_truth row (Test part t) ≡ truth_from (is_truth (prepared_truth row part.value) t)
truth-Test row part t = truth_folded row (Prepared-F.Test part t) (rolls-Test part t)

-- and so is whether its columns are at the first places
places_folded : (places : ℕ) (layer : Prepared-F Prepared) {cond : Prepared} → roll-Prepared layer ≡ cond → places_within places cond ≡ places_step places (map-Prepared Prepared Bool (places_within places) layer)
unfolding places_within
places_folded places layer is = ap (places_within places) (sym is) ∙ fold-roll-Prepared Bool (places_step places) layer

pub places-Always : (places : ℕ) → places_within places Always ≡ true
places-Always places = places_folded places Prepared-F.Always rolls-Always

pub places-Cmp : (places : ℕ) (op : Op) (x y : Operand) → places_within places (Cmp op x y) ≡ (is_within places x && is_within places y)
places-Cmp places op x y = places_folded places (Prepared-F.Cmp op x y) (rolls-Cmp op x y)

pub places-Between : (places : ℕ) (x y z : Operand) → places_within places (Between x y z) ≡ (is_within places x && is_within places y && is_within places z)
places-Between places x y z = places_folded places (Prepared-F.Between x y z) (rolls-Between x y z)

pub places-Among : (places : ℕ) (x : Operand) (items : Items) → places_within places (Among x items) ≡ (is_within places x && items_within places items)
places-Among places x items = places_folded places (Prepared-F.Among x items) (rolls-Among x items)

pub places-IsNull : (places : ℕ) (x : Operand) → places_within places (IsNull x) ≡ is_within places x
places-IsNull places x = places_folded places (Prepared-F.IsNull x) (rolls-IsNull x)

pub places-And : (places : ℕ) (parts : Vec Prepared Global) → places_within places (And parts) ≡ list_all (places_within places) parts.items
places-And places parts = places_folded places (Prepared-F.And parts) (rolls-And parts) ∙ list_all-map _ (places_within places) parts.items

pub places-Or : (places : ℕ) (parts : Vec Prepared Global) → places_within places (Or parts) ≡ list_all (places_within places) parts.items
places-Or places parts = places_folded places (Prepared-F.Or parts) (rolls-Or parts) ∙ list_all-map _ (places_within places) parts.items

pub places-Not : (places : ℕ) (part : Box Prepared Global) → places_within places (Not part) ≡ places_within places part.value
places-Not places part = places_folded places (Prepared-F.Not part) (rolls-Not part)

pub places-Test : (places : ℕ) (part : Box Prepared Global) (t : Truth) → places_within places (Test part t) ≡ places_within places part.value
places-Test places part t = places_folded places (Prepared-F.Test part t) (rolls-Test part t)

pub ruleset places = (places-Always, places-Cmp, places-Between, places-Among, places-IsNull, places-And, places-Or, places-Not, places-Test)

pub ruleset truths = (truth-Always, truth-Cmp, truth-Between, truth-Among, truth-IsNull, truth-And, truth-Or, truth-Not, truth-Test)

-- a condition of a list once more changes nothing
pub member_absorbed : {A : Type 0} (f : A → Truth) (parts : List A) (i : ℕ) (x : A) (t : Truth)
    → i < length parts → t ≡ f (get_or parts i x) → Absorbs (map f parts) t
member_absorbed f [] i x t within is = absurd (omega arith)
member_absorbed f (part ∷ parts) zero x t within is = record {
  all = ap (least (least (f part) (all_of (map f parts)))) is ∙ least-first (f part) (all_of (map f parts));
  any = ap (greatest (greatest (f part) (any_of (map f parts)))) is ∙ greatest-first (f part) (any_of (map f parts));
}
member_absorbed f (part ∷ parts) (suc i) x t within is =
    let rest = member_absorbed f parts i x t (omega (arith, within)) is in
    record {
      all = least_assoc (f part) (all_of (map f parts)) t ∙ ap (least (f part)) rest.all;
      any = greatest_assoc (f part) (any_of (map f parts)) t ∙ ap (greatest (f part)) rest.any;
    }

-- one part more that changes nothing
pub alike_repeated : {A : Type 0} (f : A → Truth) (those : List Truth) (parts : List A) (i : ℕ) (x : A) (t : Truth)
    → i < length parts → x ≡ get_or parts i x → t ≡ f x → Absorbs (map f (take i parts)) t
    → JoinAlike those (map f (take i parts)) → JoinAlike those (map f (take (i + 1) parts))
alike_repeated f those parts i x t within is same absorbs alike = record {
  all = alike.all ∙ sym absorbs.all ∙ ap (least (all_of (map f (take i parts)))) same ∙ all_more f parts i x within is;
  any = alike.any ∙ sym absorbs.any ∙ ap (greatest (any_of (map f (take i parts)))) same ∙ any_more f parts i x within is;
}

-- one part more at the end of both lists
pub alike_pushed : {A B : Type 0} (g : B → Truth) (f : A → Truth) (made : List B) (parts : List A) (i : ℕ) (x : A) (y : B)
    → i < length parts → x ≡ get_or parts i x → g y ≡ f x
    → JoinAlike (map g made) (map f (take i parts)) → JoinAlike (map g (made ++ y ∷ [])) (map f (take (i + 1) parts))
alike_pushed g f made parts i x y within is same alike = record {
  all = all_pushed g made y ∙ ap (least (all_of (map g made))) same ∙ ap (λ t. least t (f x)) alike.all ∙ all_more f parts i x within is;
  any = any_pushed g made y ∙ ap (greatest (any_of (map g made))) same ∙ ap (λ t. greatest t (f x)) alike.any ∙ any_more f parts i x within is;
}
