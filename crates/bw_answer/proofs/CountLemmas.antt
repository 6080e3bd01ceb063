-- Rows that are counted alone.
use Rattle.std.proofs.Common.{◌≡◌, ℕ, ◌+◌, ◌≤◌, List, [], ◌∷◌, true, false}
use Rattle.std.proofs.Common.{map, length, refl, ap, arith, nat_le}
use Rattle.std.specs.List.{list_all}
use Rattle.std.proofs.lemmas.Bool.{leb-true, le-leb, and_from}
use Rattle.bw_model.specs.declared.cond.Cond.{Cond}
use Rattle.bw_model.specs.declared.query.Item.{Item}
use Rattle.bw_model.specs.declared.query.Item.TheVariants.{Plain, CountAll}
use Rattle.bw_model.specs.Cond.{is_match}
use Rattle.bw_model.specs.Row.{Value}
use Rattle.bw_model.specs.Selection.{matching_rows}
use Rattle.bw_model.specs.Total.{item_within}
use Rattle.bw_rowwise.specs.Accumulator.{Tally, tally_of, count_rows}
use Rattle.bw_answer.specs.Answer.{is_count_all, lists_rows}
use Rattle.bw_answer.specs.Totals.{is_of}
use Rattle.bw_model.proofs.BitsLemmas.{both}

-- if a condition matches every row, all match
pub every_kept : (cond : Cond) (rows : List (List Value)) → ((row : List Value) → is_match cond row ≡ true) → matching_rows cond rows ≡ rows
every_kept cond [] every = refl
every_kept cond (row ∷ rows) every = rw (every row) (ap (λ (l : List (List Value)). row ∷ l) (every_kept cond rows every))

-- what counts all lists no rows
pub counts_list_nothing : (items : List Item) → 1 ≤ length items → list_all is_count_all items ≡ true → lists_rows items ≡ false
counts_list_nothing [] some e = absurd (omega (arith, some))
counts_list_nothing (Plain column ∷ items) some e = absurd (cc e)
counts_list_nothing _ some e = refl

-- counts of rows, and this many more
one_counted : (rows more : List (List Value)) (n : ℕ) → length more ≡ length rows + n → count_rows (tally_of CountAll rows) n ≡ tally_of CountAll more
one_counted rows more n e = rw e refl

pub all_counted : (items : List Item) (rows more : List (List Value)) (n : ℕ) → length more ≡ length rows + n → list_all is_count_all items ≡ true
    → map (λ (tally : Tally). count_rows tally n) (map (λ item. tally_of item rows) items) ≡ map (λ item. tally_of item more) items
all_counted [] rows more n e all = refl
all_counted (CountAll ∷ items) rows more n e all = λ i. one_counted rows more n e i ∷ all_counted items rows more n e all i
all_counted _ rows more n e all = absurd (cc all)

-- totals of this many rows and more, of which no more are counted
pub is_of-counted : (width rows count n : ℕ) (tallies : List Tally) → n ≤ count → list_all (is_of width rows) tallies ≡ true
    → list_all (is_of width (rows + count)) (map (λ (tally : Tally). count_rows tally n) tallies) ≡ true
is_of-counted width rows count n [] le e = refl
is_of-counted width rows count n (t ∷ ts) le e =
    let parts = both (is_of width rows t) (list_all (is_of width rows) ts) e in
    let here = both (item_within width t.item) (nat_le t.count rows) parts.0 in
    let most : t.count + n ≤ rows + count = omega (arith, le, leb-true t.count rows here.1) in
    and_from _ _ (and_from _ _ here.0 (le-leb _ _ most)) (is_of-counted width rows count n ts le parts.1)
