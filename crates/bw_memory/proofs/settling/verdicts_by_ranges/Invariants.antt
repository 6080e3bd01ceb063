-- The verdicts on the groups so far hold, and that on the last wide group if it isn't past; the columns that aren't named have whole ranges.
use Rattle.std.proofs.Common.{◌≡◌, ℕ, ◌/◌, ◌%◌, false, length}
use Rattle.bw_ranges.specs.ColumnRange.{range_in}
use Rattle.bw_memory.specs.Ranges.{HasRangeInTable, is_named}
use Rattle.bw_memory.specs.Settled.{HaveVerdicts, HoldsOnGroup}
use Rattle.bw_memory.proofs.settling.verdicts_by_ranges.Given as goal

abbrev pub invariant-loop-group : goal.invariant-loop-group
invariant-loop-group l = record {
  long : length l.ranges.items ≡ length l.whole;
  whole : (column : ℕ) → is_named l.columns column ≡ false → HasRangeInTable l.table column (range_in l.ranges.items column);
  each : length l.verdicts.items ≡ l.group;
  verdicts : HaveVerdicts l.cond l.table l.verdicts.items;
  wide : (l.group % 16 ≡ 0 → ⊥) → HoldsOnGroup l.cond 64 l.table (l.group / 16) l.on_wide;
}
