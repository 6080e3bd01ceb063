use Rattle.std.proofs.Common.{◌≡◌, ◌<◌, ◌≤◌, ℕ, List, [], ◌∷◌, ◌++◌, get_or, length, map}
use Rattle.bw_model.specs.Row.{Value, values_of}
use Rattle.bw_rowwise.specs.Columns.{HasColumn}
use Rattle.bw_rowwise.specs.declared.columns.LaneColumn.{LaneColumn}
use Rattle.bw_rowwise.proofs.columns.put_in_all.Given as goal

-- the columns so far have the row, and the others are as they were
abbrev pub invariant-loop-column : goal.invariant-loop-column
invariant-loop-column l = record {
  same : map (λ (column : LaneColumn). column.number) l.columns ≡ map (λ (column : LaneColumn). column.number) l.fn.columns;
  many : length l.columns ≡ length l.fn.columns;
  rest : (k : ℕ) (d : LaneColumn) → l.column-index ≤ k → get_or l.columns k d ≡ get_or l.fn.columns k d;
  done : (k : ℕ) (d : LaneColumn) → k < l.column-index → (rows : List (List Value)) → length rows ≡ l.lane
      → HasColumn rows (get_or l.fn.columns k d).number (get_or l.fn.columns k d).lanes → HasColumn (rows ++ values_of l.row ∷ []) (get_or l.columns k d).number (get_or l.columns k d).lanes;
}
