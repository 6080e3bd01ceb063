-- The range has the values of the groups so far.
use Rattle.std.proofs.Common.{ℕ, ◌<◌, ◌≤◌, IsTrue, slice_index_or}
use Rattle.bw_model.specs.Row.{Value}
use Rattle.bw_ranges.specs.ColumnRange.{has_value, only_null}
use Rattle.bw_memory.proofs.column_ranges.wide_range.Given as goal

abbrev pub invariant-loop-group : goal.invariant-loop-group
invariant-loop-group l = record {
  from : l.first < l.group;
  has : (group : ℕ) → l.first ≤ group → group < l.group → (v : Value) → IsTrue (has_value (slice_index_or l.ranges group only_null) v) → IsTrue (has_value l.range v);
}
