-- The columns so far have no range.
use Rattle.std.proofs.Common.{◌≡◌, ℕ, [], length}
use Rattle.bw_memory.specs.Ranges.{ranges_kept}
use Rattle.bw_memory.proofs.file_columns.no_ranges.Given as goal

abbrev pub invariant-loop : goal.invariant-loop
invariant-loop l = record {
  each : length l.kept.items ≡ l.counter;
  none : (column : ℕ) → ranges_kept l.kept.items column ≡ [];
}
