-- The ranges are those of the groups so far.
use Rattle.std.proofs.Common.{◌≡◌, length}
use Rattle.bw_memory.specs.Ranges.{AreRangesOf}
use Rattle.bw_memory.proofs.column_ranges.column_ranges.Given as goal

abbrev pub invariant-loop-group : goal.invariant-loop-group
invariant-loop-group g l = record {
  each : length l.ranges.items ≡ l.group;
  ranges : AreRangesOf 4 l.table l.col l.ranges.items;
}
