-- The selected rows, one lane after another.
use Rattle.std.proofs.Common.{◌≡◌, ◌∙◌, ◌+◌, ◌<◌, ℕ, Bool, true, false, List, [], ◌∷◌, ◌++◌, arith}
use Rattle.std.proofs.Common.{cond, count_by, get_or, length, refl, ap}
use Rattle.std.proofs.lemmas.List.Sums.{sum_by-append}
use Rattle.bw_model.specs.declared.query.Item.{Item}
use Rattle.bw_model.specs.declared.query.Item.TheVariants.{Plain, CountAll, Count, Sum, Min, Max}
use Rattle.bw_model.specs.Row.{Value, value_in}
use Rattle.bw_model.specs.Selection.{selected_items}
use Rattle.bw_model.specs.Total.{is_aggregate}
use Rattle.bw_rowwise.specs.Accumulator.{value_for}
use Rattle.bw_rowwise.specs.Columns.{HaveRows, IsAt, numbers_of, row_at, row_in, values_in}
use Rattle.bw_rowwise.specs.declared.columns.Columns.{Columns}
use Rattle.bw_rowwise.proofs.ColumnLemmas.{row_had}
use Rattle.bw_rowwise.proofs.PlacedLemmas.{value_at_place}
use Rattle.bw_aggregate.specs.Gathered.{Reads}

-- one lane more, which selects its row, or none
pub one_selected : (lanes : List Bool) (rows : List (List Value)) → length lanes < length rows
    → selected_items (lanes ++ true ∷ []) rows ≡ selected_items lanes rows ++ get_or rows (length lanes) [] ∷ []
one_selected [] [] below = absurd (omega (arith, below))
one_selected [] (row ∷ rows) below = refl
one_selected (lane ∷ lanes) [] below = absurd (omega (arith, below))
one_selected (true ∷ lanes) (row ∷ rows) below = ap (λ (l : List (List Value)). row ∷ l) (one_selected lanes rows (omega (arith, below)))
one_selected (false ∷ lanes) (row ∷ rows) below = one_selected lanes rows (omega (arith, below))

pub not_selected : (lanes : List Bool) (rows : List (List Value)) → selected_items (lanes ++ false ∷ []) rows ≡ selected_items lanes rows
not_selected [] [] = refl
not_selected [] (row ∷ rows) = refl
not_selected (lane ∷ lanes) [] = refl
not_selected (true ∷ lanes) (row ∷ rows) = ap (λ (l : List (List Value)). row ∷ l) (not_selected lanes rows)
not_selected (false ∷ lanes) (row ∷ rows) = not_selected lanes rows

-- the value of the aggregate's column in a lane is that of the lane's row
pub value_read : (item : Item) (rows : List (List Value)) (columns : Columns) (place lane : ℕ) → Reads (numbers_of columns) item place → lane < 512 → HaveRows rows columns
    → (item ≡ CountAll → ⊥) → value_in (row_in columns lane) place ≡ value_for item (row_at rows lane)
value_read (Plain column) rows columns place lane at within have other = ap (λ (l : List Value). value_in l place) (row_had rows columns lane within have) ∙ value_at_place (numbers_of columns) column place (row_at rows lane) (at column refl)
value_read CountAll rows columns place lane at within have other = absurd (other refl)
value_read (Count column) rows columns place lane at within have other = ap (λ (l : List Value). value_in l place) (row_had rows columns lane within have) ∙ value_at_place (numbers_of columns) column place (row_at rows lane) (at column refl)
value_read (Sum column) rows columns place lane at within have other = ap (λ (l : List Value). value_in l place) (row_had rows columns lane within have) ∙ value_at_place (numbers_of columns) column place (row_at rows lane) (at column refl)
value_read (Min column) rows columns place lane at within have other = ap (λ (l : List Value). value_in l place) (row_had rows columns lane within have) ∙ value_at_place (numbers_of columns) column place (row_at rows lane) (at column refl)
value_read (Max column) rows columns place lane at within have other = ap (λ (l : List Value). value_in l place) (row_had rows columns lane within have) ∙ value_at_place (numbers_of columns) column place (row_at rows lane) (at column refl)

-- which is there
pub read_within : (item : Item) (numbers : List ℕ) (place : ℕ) → (item ≡ CountAll → ⊥) → Reads numbers item place → place < length numbers
read_within (Plain column) numbers place other at = (at column refl).0
read_within CountAll numbers place other at = absurd (other refl)
read_within (Count column) numbers place other at = (at column refl).0
read_within (Sum column) numbers place other at = (at column refl).0
read_within (Min column) numbers place other at = (at column refl).0
read_within (Max column) numbers place other at = (at column refl).0

pub aggregates : (item : Item) → ((column : ℕ) → item ≡ Plain column → ⊥) → is_aggregate item ≡ true
aggregates (Plain column) other = absurd (other column refl)
aggregates _ other = refl

-- how many are selected, with one lane more
pub counted_one : (lanes : List Bool) → count_by (λ lane. lane) (lanes ++ true ∷ []) ≡ count_by (λ lane. lane) lanes + 1
counted_one lanes = sum_by-append (λ b. cond b 1 0) lanes (true ∷ [])

pub counted_none : (lanes : List Bool) → count_by (λ lane. lane) (lanes ++ false ∷ []) ≡ count_by (λ lane. lane) lanes
counted_none lanes = sum_by-append (λ b. cond b 1 0) lanes (false ∷ []) ∙ omega arith
