-- The places of columns among others.
use Rattle.std.specs.Prelude.{◌≡◌, ◌<◌, ℕ, List, length, slice_index, slice_index_or}
use Rattle.bw_aggregate.specs.Gathered.{Reads}
use Rattle.bw_model.specs.declared.query.Item.{Item}
use Rattle.bw_model.specs.declared.query.Item.TheVariants.{CountAll}
use Rattle.bw_rowwise.specs.Columns.{IsAt}

-- the columns of the listed numbers are at these places
pub record AreAt (numbers listed places : List ℕ) : Type 0 where
  pub many : length places ≡ length listed
  pub each : (i : ℕ) → i < length listed → IsAt numbers (slice_index listed i) (slice_index places i)

-- the column of each of these aggregates is at its place
pub record AreRead (numbers : List ℕ) (items : List Item) (places : List ℕ) : Type 0 where
  pub many : length places ≡ length items
  pub each : (i : ℕ) → i < length items
      → Reads numbers (slice_index_or items i CountAll) (slice_index places i)
