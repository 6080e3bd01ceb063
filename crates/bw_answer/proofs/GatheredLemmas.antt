-- Rows that were gathered, and those that a condition selects.
use Rattle.std.proofs.Common.{◌≡◌, ◌∙◌, ◌<◌, ◌≤◌, ◌-◌, ◌+◌, ◌++◌, ℕ, suc, Bool, true, false, List, []}
use Rattle.std.proofs.Common.{◌∷◌, arith, count_by, get_or, length, map, nat_le, replicate, refl, subst}
use Rattle.std.proofs.Common.{sym, ap}
use Rattle.std.specs.List.{list_all}
use Rattle.std.proofs.lemmas.Bool.{and_from, le-leb, leb-true}
use Rattle.std.proofs.lemmas.List.{get_or-append-add, length-map, length-replicate}
use Rattle.bw_aggregate.specs.Selected.{IsWithin}
use Rattle.bw_aggregate.proofs.ColumnLemmas.{rows_counted}
use Rattle.bw_aggregate.proofs.SelectedLemmas.{few_selected}
use Rattle.bw_model.specs.Groups.{group_size}
use Rattle.bw_model.specs.Row.{Value}
use Rattle.bw_model.specs.Selection.{selection}
use Rattle.bw_model.specs.Cond.{is_match}
use Rattle.bw_model.specs.declared.cond.Cond.{Cond}
use Rattle.bw_rowwise.specs.Accumulator.{Tally}
use Rattle.bw_rowwise.proofs.LaneLemmas.{same_at}
use Rattle.bw_model.specs.Total.{item_within}
use Rattle.bw_model.proofs.BitsLemmas.{both}
use Rattle.bw_answer.specs.Totals.{is_of}

-- no lane past the rows is selected
past_selection : (c : Cond) (rows : List (List Value)) (n k : ℕ) → length rows ≤ k → get_or (selection c rows ++ replicate n false) k false ≡ false
past_selection c rows n k past =
    let there : length (selection c rows) + (k - length rows) ≡ k = omega (arith, length-map rows (is_match c), past) in
    ap (λ m. get_or (selection c rows ++ replicate n false) m false) (sym there)
    ∙ get_or-append-add (selection c rows) (replicate n false) (k - length rows) false ∙ same_at false n (k - length rows)

pub picks_within : (c : Cond) (rows : List (List Value)) (bits : List Bool) → bits ≡ selection c rows ++ replicate (group_size - length rows) false → IsWithin (length rows) bits
picks_within c rows bits picks = λ k past. ap (λ l. get_or l k false) picks ∙ past_selection c rows (group_size - length rows) k past

-- no more rows are selected than there are
pub few_within : (count : ℕ) (bits : List Bool) → IsWithin count bits → count_by (λ lane. lane) bits ≤ count
few_within count bits within =
    let rows : List (List Value) = replicate count [] in
    let long : length rows ≡ count = length-replicate count [] in
    omega (arith, rows_counted rows bits (subst (λ n. IsWithin n bits) (sym long) within), few_selected bits rows, long)

-- a total has this many rows more
pub record Counts (number : ℕ) (old new : Tally) : Type 0 where
  pub item : new.item ≡ old.item
  pub count : new.count ≡ old.count + number

-- so of all totals
pub items_counted : (number : ℕ) (xs ys : List Tally) → length ys ≡ length xs → ((k : ℕ) (d : Tally) → k < length xs → Counts number (get_or xs k d) (get_or ys k d))
    → map (λ (tally : Tally). tally.item) ys ≡ map (λ (tally : Tally). tally.item) xs
items_counted number [] [] many each = refl
items_counted number [] (y ∷ ys) many each = absurd (omega (arith, many))
items_counted number (x ∷ xs) [] many each = absurd (omega (arith, many))
items_counted number (x ∷ xs) (y ∷ ys) many each = λ i. (each 0 x (omega arith)).item i ∷ items_counted number xs ys (omega (arith, many)) (λ k d h. each (suc k) d (omega (arith, h))) i

pub totals_counted : (width rows number : ℕ) (xs ys : List Tally) → length ys ≡ length xs → ((k : ℕ) (d : Tally) → k < length xs → Counts number (get_or xs k d) (get_or ys k d))
    → list_all (is_of width rows) xs ≡ true → list_all (is_of width (rows + number)) ys ≡ true
totals_counted width rows number [] [] many each e = refl
totals_counted width rows number [] (y ∷ ys) many each e = absurd (omega (arith, many))
totals_counted width rows number (x ∷ xs) [] many each e = absurd (omega (arith, many))
totals_counted width rows number (x ∷ xs) (y ∷ ys) many each e =
    let parts = both (is_of width rows x) (list_all (is_of width rows) xs) e in
    let here = both (item_within width x.item) (nat_le x.count rows) parts.0 in
    let one = each 0 x (omega arith) in
    let count : y.count ≤ rows + number = omega (arith, leb-true x.count rows here.1, one.count) in
    let item : item_within width y.item ≡ true = ap (item_within width) one.item ∙ here.0 in
    and_from _ _ (and_from _ _ item (le-leb _ _ count)) (totals_counted width rows number xs ys (omega (arith, many)) (λ k d h. each (suc k) d (omega (arith, h))) parts.1)
