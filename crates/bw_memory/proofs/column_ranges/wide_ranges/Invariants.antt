-- The ranges are those of the wide groups so far.
use Rattle.std.proofs.Common.{◌≡◌, ℕ, length}
use Rattle.bw_memory.specs.declared.table.MemoryTable.{MemoryTable}
use Rattle.bw_memory.specs.Ranges.{AreRangesOf}
use Rattle.bw_memory.proofs.column_ranges.wide_ranges.Given as goal

abbrev pub invariant-loop-number : goal.invariant-loop-number
invariant-loop-number l = record {
  each : length l.wide.items ≡ l.number;
  wide : (table : MemoryTable) (column : ℕ) → AreRangesOf 4 table column l.ranges → AreRangesOf 64 table column l.wide.items;
}
