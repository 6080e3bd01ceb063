-- Conditions with the same tree have the same meaning, name the same columns, and are whole both or
-- neither.
use Rattle.std.proofs.Common.{◌≡◌, ◌∙◌, refl, sym, ap, ap₂, subst, ℕ, suc, Bool, ◌&&◌, nat_le, List}
use Rattle.std.proofs.Common.{[], ◌∷◌, map, length}
use Rattle.std.specs.List.{list_all}
use Rattle.bw_model.specs.declared.cond.Truth.{Truth}
use Rattle.bw_model.specs.declared.cond.Cond.{Cond, Cond-F, fold-Cond, fold-roll-Cond, roll-Cond}
use Rattle.bw_model.specs.declared.cond.Cond.{ind-Cond}
use Rattle.bw_model.specs.declared.cond.Cond.TheFolds.{map-Cond}
use Rattle.bw_model.specs.Row.{Value}
use Rattle.bw_model.specs.Truth.{truth_from, all_of, any_of, negation, is_truth}
use Rattle.bw_model.specs.Cond.{truth_of, truth_step, names_within, within_step, is_whole}
use Rattle.bw_model.specs.Cond.{whole_step}
use Rattle.bw_model.specs.CondTree.{CondTree, tree_of, tree_step, trees_of, tree_truth, tree_truths}
use Rattle.bw_model.specs.CondTree.{tree_within, trees_within, is_whole_tree, are_whole_trees}
use Rattle.bw_model.specs.CondTree.{count_of}

-- What a fold says of conditions, and what is said of their trees, is one where it is one for each
-- layer whose parts are such conditions.
module _ (A : Type 0) (step : Cond-F A → A) (value : CondTree → A) where
  -- a condition of which both say one thing
  abbrev pub Known : Type 0
  Known = (cond : Cond) × (fold-Cond A step cond ≡ value (tree_of cond))

  abbrev pub bare : Cond-F Known → Cond-F Cond
  bare layer = map-Cond Known Cond (λ e. e.0) layer

  tree_of-roll : (x : Cond-F Cond) → tree_of (roll-Cond x) ≡ tree_step (map-Cond Cond CondTree tree_of x)
  unfolding tree_of
  tree_of-roll x = fold-roll-Cond CondTree tree_step x

  pub of_tree : ((layer : Cond-F Known) → step (map-Cond Cond A (fold-Cond A step) (bare layer)) ≡ value (tree_step (map-Cond Cond CondTree tree_of (bare layer)))) →
      (cond : Cond) → fold-Cond A step cond ≡ value (tree_of cond)
  of_tree known = ind-Cond (λ cond. fold-Cond A step cond ≡ value (tree_of cond)) (λ x y is.
      subst (λ z. fold-Cond A step (roll-Cond z) ≡ value (tree_of (roll-Cond z))) is
      (fold-roll-Cond A step (bare y) ∙ known y ∙ sym (ap value (tree_of-roll (bare y)))))

abbrev Truths : List Value → Type 0
Truths row = Known Truth (truth_step row) (tree_truth row)

truths-known : (row : List Value) (parts : List (Truths row)) →
    map (fold-Cond Truth (truth_step row)) (map (λ e. e.0) parts) ≡ tree_truths row (trees_of (map tree_of (map (λ e. e.0) parts)))
truths-known row [] = refl
truths-known row (part ∷ parts) = ap₂ (λ t ts. t ∷ ts) part.1 (truths-known row parts)

truth-known : (row : List Value) (layer : Cond-F (Truths row)) →
    truth_step row (map-Cond Cond Truth (fold-Cond Truth (truth_step row)) (bare Truth (truth_step row) (tree_truth row) layer))
    ≡ tree_truth row (tree_step (map-Cond Cond CondTree tree_of (bare Truth (truth_step row) (tree_truth row) layer)))
truth-known row (Cond-F.And parts) = ap all_of (truths-known row parts.items)
truth-known row (Cond-F.Or parts) = ap any_of (truths-known row parts.items)
truth-known row (Cond-F.Not part) = ap negation part.value.1
truth-known row (Cond-F.Test part t) = ap (λ s. truth_from (is_truth s t)) part.value.1
truth-known row _ = refl

pub truth_of-tree_of : (row : List Value) (cond : Cond) → truth_of row cond ≡ tree_truth row (tree_of cond)
unfolding truth_of
truth_of-tree_of row cond = of_tree Truth (truth_step row) (tree_truth row) (truth-known row) cond

abbrev Within : ℕ → Type 0
Within n = Known Bool (within_step n) (tree_within n)

withins-known : (n : ℕ) (parts : List (Within n)) →
    list_all (λ part. part) (map (fold-Cond Bool (within_step n)) (map (λ e. e.0) parts)) ≡ trees_within n (trees_of (map tree_of (map (λ e. e.0) parts)))
withins-known n [] = refl
withins-known n (part ∷ parts) = ap₂ (λ b bs. b && bs) part.1 (withins-known n parts)

within-known : (n : ℕ) (layer : Cond-F (Within n)) →
    within_step n (map-Cond Cond Bool (fold-Cond Bool (within_step n)) (bare Bool (within_step n) (tree_within n) layer))
    ≡ tree_within n (tree_step (map-Cond Cond CondTree tree_of (bare Bool (within_step n) (tree_within n) layer)))
within-known n (Cond-F.And parts) = withins-known n parts.items
within-known n (Cond-F.Or parts) = withins-known n parts.items
within-known n (Cond-F.Not part) = part.value.1
within-known n (Cond-F.Test part t) = part.value.1
within-known n _ = refl

pub names_within-tree_of : (n : ℕ) (cond : Cond) → names_within n cond ≡ tree_within n (tree_of cond)
unfolding names_within
names_within-tree_of n cond = of_tree Bool (within_step n) (tree_within n) (within-known n) cond

abbrev Whole : Type 0
Whole = Known Bool whole_step is_whole_tree

wholes-known : (parts : List Whole) →
    list_all (λ part. part) (map (fold-Cond Bool whole_step) (map (λ e. e.0) parts)) ≡ are_whole_trees (trees_of (map tree_of (map (λ e. e.0) parts)))
wholes-known [] = refl
wholes-known (part ∷ parts) = ap₂ (λ b bs. b && bs) part.1 (wholes-known parts)

count-known : (parts : List Whole) →
    length (map (fold-Cond Bool whole_step) (map (λ e. e.0) parts)) ≡ count_of (trees_of (map tree_of (map (λ e. e.0) parts)))
count-known [] = refl
count-known (part ∷ parts) = ap suc (count-known parts)

whole-known : (layer : Cond-F Whole) →
    whole_step (map-Cond Cond Bool (fold-Cond Bool whole_step) (bare Bool whole_step is_whole_tree layer))
    ≡ is_whole_tree (tree_step (map-Cond Cond CondTree tree_of (bare Bool whole_step is_whole_tree layer)))
whole-known (Cond-F.And parts) = ap₂ (λ k b. nat_le 2 k && b) (count-known parts.items) (wholes-known parts.items)
whole-known (Cond-F.Or parts) = ap₂ (λ k b. nat_le 2 k && b) (count-known parts.items) (wholes-known parts.items)
whole-known (Cond-F.Not part) = part.value.1
whole-known (Cond-F.Test part t) = part.value.1
whole-known _ = refl

pub is_whole-tree_of : (cond : Cond) → is_whole cond ≡ is_whole_tree (tree_of cond)
unfolding is_whole
is_whole-tree_of cond = of_tree Bool whole_step is_whole_tree whole-known cond
