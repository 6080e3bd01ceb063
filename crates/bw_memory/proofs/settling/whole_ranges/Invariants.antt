-- The ranges of the columns so far.
use Rattle.std.proofs.Common.{◌≡◌, map, take}
use Rattle.bw_ranges.specs.ColumnRange.{range_of_column}
use Rattle.bw_memory.proofs.settling.whole_ranges.Given as goal

abbrev pub invariant-loop-column : goal.invariant-loop-column
invariant-loop-column l = record {
  ranges : l.ranges.items ≡ map range_of_column (take l.column-index l.columns);
}
