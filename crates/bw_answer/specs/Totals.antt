-- Totals to which rows are added.
use Rattle.std.specs.Prelude.{ℕ, Bool, ◌&&◌, nat_le}
use Rattle.bw_model.specs.Total.{item_within}
use Rattle.bw_rowwise.specs.Accumulator.{Tally}

-- the total is of one of the first `width` columns, and of at most `rows` rows
abbrev pub is_of : ℕ → ℕ → Tally → Bool
is_of width rows tally = item_within width tally.item && nat_le tally.count rows
