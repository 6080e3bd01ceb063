-- Columns in lanes, and the rows that they have.
use Rattle.std.proofs.Common.{◌≡◌, ◌≢◌, ◌∙◌, ◌<◌, ◌≤◌, ◌+◌, ◌++◌, ◌∷◌, [], ℕ, zero, suc, List, arith}
use Rattle.std.proofs.Common.{All, get_or, length, map, refl, set, subst, sym, ap, inl, inr}
use Rattle.std.proofs.lemmas.Bool.{cases_eq}
use Rattle.std.proofs.lemmas.List.{get_or-set_other, get_or-set_same}
use Rattle.bw_model.specs.Row.{Value, value_in}
use Rattle.bw_rowwise.specs.Columns.{HasColumn, HaveRows, numbers_of, row_at, row_in, value_at}
use Rattle.bw_rowwise.specs.Columns.{values_in}
use Rattle.bw_rowwise.specs.declared.column_lanes.ColumnLanes.{ColumnLanes}
use Rattle.bw_rowwise.specs.declared.columns.Columns.{Columns}
use Rattle.bw_rowwise.specs.declared.columns.LaneColumn.{LaneColumn}

-- the values in a lane are those of the lane's row
rows_in : (rows : List (List Value)) (columns : List LaneColumn) (lane : ℕ) → lane < 512 → All (λ (column : LaneColumn). HasColumn rows column.number column.lanes) columns
    → map (λ (column : LaneColumn). value_at column.lanes lane) columns ≡ map (value_in (row_at rows lane)) (map (λ (column : LaneColumn). column.number) columns)
rows_in rows [] lane within have = refl
rows_in rows (column ∷ columns) lane within have = λ i. have 0 column (omega arith) lane within i ∷ rows_in rows columns lane within (λ k d below. have (suc k) d (omega arith)) i

pub row_had : (rows : List (List Value)) (columns : Columns) (lane : ℕ) → lane < 512 → HaveRows rows columns → row_in columns lane ≡ values_in (numbers_of columns) (row_at rows lane)
row_had rows columns lane within have = rows_in rows columns.columns.items lane within have

-- the row that is put, and the others
row_put : (rows : List (List Value)) (row : List Value) → row_at (rows ++ row ∷ []) (length rows) ≡ row
row_put [] row = refl
row_put (first ∷ rows) row = row_put rows row

row_kept : (rows : List (List Value)) (row : List Value) (lane : ℕ) → lane ≢ length rows → row_at (rows ++ row ∷ []) lane ≡ row_at rows lane
row_kept [] row zero other = absurd (other refl)
row_kept [] row (suc lane) other = refl
row_kept (first ∷ rows) row zero other = refl
row_kept (first ∷ rows) row (suc lane) other = row_kept rows row lane (λ e. other (ap suc e))

-- with the value of one more row in it, the lanes have that row too
pub row_added : (rows : List (List Value)) (row : List Value) (old new : ColumnLanes) (number at : ℕ) → length rows ≡ at → HasColumn rows number old
    → value_at new at ≡ value_in row number → ((other : ℕ) → other < 512 → other ≢ at → value_at new other ≡ value_at old other)
    → HasColumn (rows ++ row ∷ []) number new
row_added rows row old new number at long has same others = λ lane within. elim (cases_eq lane at) [
  | inl here ↦ rw here (same ∙ sym (ap (λ (l : List Value). value_in l number) (rw (sym long) (row_put rows row))))
  | inr elsewhere ↦ others lane within elsewhere ∙ has lane within ∙ ap (λ (l : List Value). value_in l number) (sym (row_kept rows row lane (λ e. elsewhere (e ∙ long))))
]

-- in a loop over columns the column at hand is done too
pub done_more : (P : ℕ → LaneColumn → Type 0) (columns : List LaneColumn) (i : ℕ) (column : LaneColumn) → i < length columns
    → ((k : ℕ) (d : LaneColumn) → k < i → P k (get_or columns k d)) → P i column → (k : ℕ) (d : LaneColumn) → k < i + 1 → P k (get_or (set columns i column) k d)
done_more P columns i column within before here = λ k d below. elim (cases_eq k i) [
  | inl same ↦ subst (λ n. P n (get_or (set columns i column) n d)) (sym same) (subst (P i) (sym (get_or-set_same columns i column d within)) here)
  | inr other ↦ subst (P k) (sym (get_or-set_other columns i k column d other)) (before k d (omega (arith, below, other)))
]
