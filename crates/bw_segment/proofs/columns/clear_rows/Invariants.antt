use Rattle.std.proofs.Common.{◌<◌, ℕ}
use Rattle.bw_segment.specs.Columns.{kept_at}
use Rattle.bw_segment.proofs.ColumnLemmas.{IsEmpty}
use Rattle.bw_segment.proofs.columns.clear_rows.Given as goal

abbrev pub invariant-loop-column : goal.invariant-loop-column
invariant-loop-column l = (col : ℕ) → col < l.column-index → IsEmpty (kept_at l.kept col)
