use Rattle.std.proofs.Common.{◌≡◌, ◌<◌, ◌≤◌, ℕ}
use Rattle.bw_model.specs.Row.{values_of}
use Rattle.bw_segment.specs.Columns.{kept_at}
use Rattle.bw_segment.proofs.ColumnLemmas.{HasPut}
use Rattle.bw_segment.proofs.columns.keep_row.Given as goal

-- the row is kept in the columns so far, and the others are as they were
abbrev pub invariant-loop-col : goal.invariant-loop-col
invariant-loop-col l = record {
  put : (col : ℕ) → col < l.col → HasPut l.schema.columns.items (values_of l.row) l.lane col (kept_at l.initial.kept col) (kept_at l.kept col);
  rest : (col : ℕ) → l.col ≤ col → kept_at l.kept col ≡ kept_at l.initial.kept col;
}
