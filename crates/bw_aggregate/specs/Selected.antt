-- The selected lanes of a segment, and their values.
use Rattle.std.specs.Prelude.{◌≡◌, ℕ, ℤ, ◌≤◌, Bool, false, not, ◌&&◌, List, map, slice_index_or, []}
use Rattle.std.specs.Prelude.{◌∷◌, length}
use Rattle.std.specs.Simd.Lanes.{zip2}
use Rattle.bw_model.specs.Code.{value_at}
use Rattle.bw_model.specs.Row.{Value}
use Rattle.bw_model.specs.Selection.{selected_items}
use Rattle.bw_model.specs.Total.{total}
use Rattle.bw_segment.specs.Meaning.{Meaning, null_bits}
use Rattle.bw_segment.specs.Selected.{codes_in}
use Rattle.bw_rowwise.specs.Accumulator.{Tally, tally_joined}

-- no lane past the first `rows` is 1
abbrev pub IsWithin : ℕ → List Bool → Type 0
IsWithin rows lanes = (row : ℕ) → rows ≤ row → slice_index_or lanes row false ≡ false

-- the selected lanes whose row isn't null in a column
unfoldable pub present_lanes : Meaning → ℕ → List Bool → List Bool
present_lanes meaning column lanes = zip2 (λ a b. a && b) lanes
    (map not (null_bits meaning.rows column))

-- the values of a column's codes in the lanes that are 1
abbrev pub values_in : Meaning → ℕ → List Bool → List ℤ
values_in meaning column lanes = map (value_at meaning.columns column)
    (codes_in meaning column lanes)

-- the selected rows of a segment
abbrev pub selected_rows : Meaning → List Bool → List (List Value)
selected_rows meaning lanes = selected_items lanes meaning.rows

-- a tally with these selected rows more: if there are none, it stays as it is
abbrev pub with_selected : Tally → List (List Value) → Tally
with_selected tally [] = tally
with_selected tally (row ∷ rows) = tally_joined tally (length (row ∷ rows))
    (total tally.item (row ∷ rows))
