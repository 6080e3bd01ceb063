-- The result of totals, by the segments that were added.
use Rattle.std.specs.Prelude.{ℕ}
use Rattle.bw_rowwise.specs.Accumulator.{Tally}

-- the tally of the selected rows, and the number of rows of the segments
pub record TotalsSoFar : Type 0 where
  pub selected : Tally
  pub rows : ℕ
