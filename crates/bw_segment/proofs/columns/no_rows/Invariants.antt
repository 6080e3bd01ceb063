use Rattle.std.proofs.Common.{◌≡◌, ◌<◌, ℕ, length}
use Rattle.bw_segment.specs.Columns.{kept_at}
use Rattle.bw_segment.proofs.ColumnLemmas.{IsEmpty}
use Rattle.bw_segment.proofs.columns.no_rows.Given as goal

abbrev pub invariant-loop : goal.invariant-loop
invariant-loop l = record {
  all : length l.kept.items ≡ l.counter;
  empty : (col : ℕ) → col < l.counter → IsEmpty (kept_at l.kept.items col);
}
