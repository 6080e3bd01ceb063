-- Rows that a selection picks.
use Rattle.std.proofs.Common.{◌≡◌, ◌∙◌, refl, sym, ap, ℕ, suc, ◌+◌, ◌≤◌, Bool, true, false}
use Rattle.std.proofs.Common.{not, List, [], ◌∷◌, ◌++◌, map, length, replicate, append-nil}
use Rattle.std.proofs.Common.{length-append, cond, arith, nat_le, Result, Ok, Err}
use Rattle.std.specs.Prelude.{OnOk}
use Rattle.std.specs.List.{list_all}
use Rattle.std.proofs.lemmas.Bool.{leb-true, le-leb, and_from}
use Rattle.std.proofs.lemmas.List.Sums.{count_by-le-length, length-filter}
use Rattle.bw_model.specs.declared.cond.Cond.{Cond}
use Rattle.bw_model.specs.declared.query.Item.{Item}
use Rattle.bw_model.specs.Cond.{is_match}
use Rattle.bw_model.specs.Row.{Value}
use Rattle.bw_model.specs.Selection.{matching_rows, selected_items, selection}
use Rattle.bw_model.specs.Total.{item_within, combine_totals, total}
use Rattle.bw_rowwise.specs.Accumulator.{Tally, tally_of}
use Rattle.bw_aggregate.specs.Selected.{with_selected}
use Rattle.bw_answer.specs.Totals.{is_of}
use Rattle.bw_model.proofs.BitsLemmas.{both}

-- the lanes of a selection, and zeros, pick what is kept
zeros_pick_none : (n : ℕ) (rows : List (List Value)) → selected_items (replicate n false) rows ≡ []
zeros_pick_none (suc n) (row ∷ rows) = zeros_pick_none n rows
zeros_pick_none _ _ = refl

kept_by : (b : Bool) (row : List Value) (bits : List Bool) (rows those : List (List Value)) → selected_items bits rows ≡ those → selected_items (b ∷ bits) (row ∷ rows) ≡ cond b (row ∷ those) those
kept_by true row bits rows those e = ap (λ (l : List (List Value)). row ∷ l) e
kept_by false row bits rows those e = e

pub selected_as_kept : (c : Cond) (rows : List (List Value)) (n : ℕ) → selected_items (selection c rows ++ replicate n false) rows ≡ matching_rows c rows
selected_as_kept c [] n = zeros_pick_none n []
selected_as_kept c (row ∷ rows) n = kept_by (is_match c row) row (selection c rows ++ replicate n false) rows (matching_rows c rows) (selected_as_kept c rows n)

-- if no lane is 1, no row is selected
pub none_selected : (lanes : List Bool) (rows : List (List Value)) → list_all not lanes ≡ true → selected_items lanes rows ≡ []
none_selected (true ∷ lanes) (row ∷ rows) e = absurd (cc e)
none_selected (false ∷ lanes) (row ∷ rows) e = none_selected lanes rows e
none_selected _ _ e = refl

-- totals of some rows are those of the selected rows too
one_total : (item : Item) (rows more : List (List Value)) → ((item : Item) (a b : List (List Value)) → total item (a ++ b) ≡ combine_totals item (total item a) (total item b))
    → with_selected (tally_of item rows) more ≡ tally_of item (rows ++ more)
one_total item rows [] join = ap (λ (l : List (List Value)). tally_of item l) (sym (append-nil rows))
one_total item rows (row ∷ more) join =
    let long : length (rows ++ row ∷ more) ≡ length rows + length (row ∷ more) = length-append rows (row ∷ more) in
    let whole : total item (rows ++ row ∷ more) ≡ combine_totals item (total item rows) (total item (row ∷ more)) = join item rows (row ∷ more) in
    λ i. record { item = item; count = sym long i; answer = sym whole i }

pub all_totals : (items : List Item) (rows more : List (List Value)) → ((item : Item) (a b : List (List Value)) → total item (a ++ b) ≡ combine_totals item (total item a) (total item b))
    → map (λ (tally : Tally). with_selected tally more) (map (λ item. tally_of item rows) items) ≡ map (λ item. tally_of item (rows ++ more)) items
all_totals [] rows more join = refl
all_totals (item ∷ items) rows more join = λ i. one_total item rows more join i ∷ all_totals items rows more join i

-- and of this many rows and more
selected_item : (tally : Tally) (more : List (List Value)) → (with_selected tally more).item ≡ tally.item
selected_item tally [] = refl
selected_item tally (row ∷ more) = refl

selected_count : (tally : Tally) (more : List (List Value)) → (with_selected tally more).count ≡ tally.count + length more
selected_count tally [] = omega arith
selected_count tally (row ∷ more) = refl

pub is_of-selected : (width rows n : ℕ) (more : List (List Value)) (tallies : List Tally) → length more ≤ n → list_all (is_of width rows) tallies ≡ true
    → list_all (is_of width (rows + n)) (map (λ (tally : Tally). with_selected tally more) tallies) ≡ true
is_of-selected width rows n more [] few e = refl
is_of-selected width rows n more (t ∷ ts) few e =
    let parts = both (is_of width rows t) (list_all (is_of width rows) ts) e in
    let here = both (item_within width t.item) (nat_le t.count rows) parts.0 in
    let count : (with_selected t more).count ≤ rows + n = omega (arith, leb-true t.count rows here.1, selected_count t more, few) in
    let item : item_within width (with_selected t more).item ≡ true = ap (item_within width) (selected_item t more) ∙ here.0 in
    and_from _ _ (and_from _ _ item (le-leb _ _ count)) (is_of-selected width rows n more ts few parts.1)

pub is_of-later : (width rows n : ℕ) (tallies : List Tally) → list_all (is_of width rows) tallies ≡ true → list_all (is_of width (rows + n)) tallies ≡ true
is_of-later width rows n [] e = refl
is_of-later width rows n (t ∷ ts) e =
    let parts = both (is_of width rows t) (list_all (is_of width rows) ts) e in
    let here = both (item_within width t.item) (nat_le t.count rows) parts.0 in
    let count : t.count ≤ rows + n = omega (arith, leb-true t.count rows here.1) in
    and_from _ _ (and_from _ _ here.0 (le-leb _ _ count)) (is_of-later width rows n ts parts.1)

-- no more rows are kept than there are
pub few_kept : (c : Cond) (rows : List (List Value)) → length (matching_rows c rows) ≤ length rows
few_kept c rows = let some = count_by-le-length (is_match c) rows in omega (arith, length-filter (is_match c) rows, some)

-- what holds once rows are taken implies the other
pub taken : {T E P Q : Type 0} (result : Result T E) → (P → Q) → OnOk result P → OnOk result Q
taken (Ok x) gives p = gives p
taken (Err e) gives p = tt
