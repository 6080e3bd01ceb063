-- Lanes of which none is 1 past the first rows.
use Rattle.std.proofs.Common.{◌≡◌, ◌∙◌, refl, sym, ap, subst, ℕ, zero, suc, ◌+◌, ◌≤◌, Bool, true}
use Rattle.std.proofs.Common.{false, ◌&&◌, List, [], ◌∷◌, ◌++◌, replicate, get_or, length}
use Rattle.std.proofs.Common.{length-append, append-nil, arith, ℤ, Option}
use lib.Lanes.{zip2}
use Rattle.std.proofs.lemmas.Int.{ints}
use Rattle.bw_model.specs.Row.{Value}
use Rattle.bw_model.specs.Selection.{selected_items}
use Rattle.bw_model.specs.declared.query.Item.{Item}
use Rattle.bw_model.specs.Total.{combine_totals, total}
use Rattle.bw_rowwise.specs.Accumulator.{IsTotalOfRows, Tally, tally_joined, tally_of}
use Rattle.bw_aggregate.specs.Selected.{with_selected}

-- no lane past the first rows is 1 among those of the first rows, and none if others have none
pub first_within : (rows more row : ℕ) → rows ≤ row → get_or (replicate rows true ++ replicate more false) row false ≡ false
first_within zero zero row le = refl
first_within zero (suc more) zero le = refl
first_within zero (suc more) (suc row) le = first_within zero more row (omega arith)
first_within (suc rows) more zero le = absurd (omega arith)
first_within (suc rows) more (suc row) le = first_within rows more row (omega arith)

pub both_within : (lanes others : List Bool) (row : ℕ) → get_or others row false ≡ false → get_or (zip2 (λ a b. a && b) lanes others) row false ≡ false
both_within [] others row within = refl
both_within (lane ∷ lanes) [] row within = refl
both_within (true ∷ lanes) (other ∷ others) zero within = within
both_within (false ∷ lanes) (other ∷ others) zero within = refl
both_within (lane ∷ lanes) (other ∷ others) (suc row) within = both_within lanes others row within

-- no more are selected than there are
pub few_selected : {A : Type 0} (lanes : List Bool) (items : List A) → length (selected_items lanes items) ≤ length items
few_selected [] items = omega arith
few_selected (lane ∷ lanes) [] = omega arith
few_selected (true ∷ lanes) (item ∷ items) = let rest = few_selected lanes items in omega (arith, rest)
few_selected (false ∷ lanes) (item ∷ items) = let rest = few_selected lanes items in omega (arith, rest)

pub none_selected : (rows more : List (List Value)) → length more ≡ 0 → rows ++ more ≡ rows
none_selected rows [] e = append-nil rows
none_selected rows (row ∷ more) e = absurd (omega (arith, e))

-- what is small for one row is so for more
pub small_for_more : (count : ℕ) (others : Option ℤ) → 1 ≤ count → IsTotalOfRows 1 others → IsTotalOfRows count others
small_for_more count others some small x is = let s = small x is in (omega (arith, ints, some), omega (arith, ints, some))

-- a tally with what was selected
pub joined_selected : (tally : Tally) (rows : List (List Value)) (number : ℕ) (others : Option ℤ) → number ≡ length rows → 1 ≤ number
    → combine_totals tally.item tally.answer others ≡ combine_totals tally.item tally.answer (total tally.item rows) → tally_joined tally number others ≡ with_selected tally rows
joined_selected tally [] number others e some is = absurd (omega (arith, e, some))
joined_selected tally (row ∷ rows) number others e some is = λ i. record { item = tally.item; count = tally.count + e i; answer = is i }

-- a tally of rows with others
pub joined_rows : (tally : Tally) (rows more : List (List Value)) (number : ℕ) (others : Option ℤ) → number ≡ length more → tally ≡ tally_of tally.item rows
    → combine_totals tally.item tally.answer others ≡ combine_totals tally.item tally.answer (total tally.item more)
    → total tally.item (rows ++ more) ≡ combine_totals tally.item (total tally.item rows) (total tally.item more) → tally_joined tally number others ≡ tally_of tally.item (rows ++ more)
joined_rows tally rows more number others e before is joins =
    let counted : tally.count + number ≡ length (rows ++ more) = omega (arith, e, ap (λ (t : Tally). t.count) before, length-append rows more) in
    let totalled : combine_totals tally.item tally.answer others ≡ total tally.item (rows ++ more) = is ∙ ap (λ (t : Tally). combine_totals tally.item t.answer (total tally.item more)) before ∙ sym joins in
    λ i. record { item = tally.item; count = counted i; answer = totalled i }

pub unselected : (tally : Tally) (rows : List (List Value)) → length rows ≡ 0 → tally ≡ with_selected tally rows
unselected tally [] e = refl
unselected tally (row ∷ rows) e = absurd (omega (arith, e))
