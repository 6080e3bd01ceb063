-- The range has the values of the segments so far.
use Rattle.std.proofs.Common.{ℕ, ◌<◌, ◌≤◌}
use Rattle.bw_memory.specs.MemoryTable.{meaning_numbered}
use Rattle.bw_memory.specs.Ranges.{HasRange}
use Rattle.bw_memory.proofs.column_ranges.group_range.Given as goal

abbrev pub invariant-loop-number : goal.invariant-loop-number
invariant-loop-number g l = record {
  from : l.first < l.number;
  range : (number : ℕ) → l.first ≤ number → number < l.number → HasRange l.range l.col (meaning_numbered l.table number).rows;
}
