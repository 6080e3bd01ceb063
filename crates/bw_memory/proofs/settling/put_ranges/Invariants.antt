-- The ranges of the columns so far are the group's.
use Rattle.std.proofs.Common.{◌≡◌, ℕ, false, length}
use Rattle.bw_ranges.specs.ColumnRange.{range_in}
use Rattle.bw_memory.specs.declared.table.MemoryTable.{MemoryTable}
use Rattle.bw_memory.specs.Ranges.{HasRangeInTable, HaveRanges, is_named}
use Rattle.bw_memory.proofs.SettleLemmas.{FitFrom}
use Rattle.bw_memory.proofs.settling.put_ranges.Given as goal

abbrev pub invariant-loop-column : goal.invariant-loop-column
invariant-loop-column l = record {
  long : length l.ranges ≡ length l.initial.ranges;
  others : (column : ℕ) → is_named l.columns column ≡ false → range_in l.ranges column ≡ range_in l.initial.ranges column;
  group : (size : ℕ) (table : MemoryTable) → HaveRanges size table l.kept → ((column : ℕ) → HasRangeInTable table column (range_in l.whole column))
      → ((column : ℕ) → is_named l.columns column ≡ false → HasRangeInTable table column (range_in l.initial.ranges column)) → FitFrom size table l.columns l.group l.ranges l.column-index;
}
