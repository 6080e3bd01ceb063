use Rattle.std.proofs.Common.{◌≡◌, ◌<◌, ℕ, not, cond, length, get_or}
use Rattle.bw_model.specs.Truth.{is_truth}
use Rattle.bw_model.specs.declared.cond.Truth.TheVariants.{No, Yes}
use Rattle.bw_rowwise.specs.Columns.{value_at}
use Rattle.bw_rowwise.specs.Numbers.{among_numbers}
use Rattle.bw_rowwise.proofs.column_lanes.ColumnLanes.among.Given as goal

-- a byte for each lane so far: 1 if the value is among the numbers, and 1 if it may be
abbrev pub invariant-loop-lane : goal.invariant-loop-lane
invariant-loop-lane l = record {
  room : length l.yes ≡ 512;
  room_maybe : length l.maybe ≡ 512;
  yes : (lane : ℕ) → lane < l.lane → get_or l.yes lane 0 ≡ cond (is_truth (among_numbers (value_at l.self lane) l.numbers.sorted.items) Yes) 1 0;
  maybe : (lane : ℕ) → lane < l.lane → get_or l.maybe lane 0 ≡ cond (not (is_truth (among_numbers (value_at l.self lane) l.numbers.sorted.items) No)) 1 0;
}
