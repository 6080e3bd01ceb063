-- Rows stored by columns: for each column its stored codes and its null bits, in 512 lanes.
use Rattle.std.specs.Prelude.{◌≡◌, ℕ, ◌<◌, List, [], length, map, slice_index_or, if◌then◌else◌}
use Rattle.bw_model.specs.declared.column.Column.{Column}
use Rattle.bw_model.specs.Row.{Value}
use Rattle.bw_segment.specs.declared.columns.ColumnCodes.{ColumnCodes}
use Rattle.bw_segment.specs.Meaning.{null_bits, stored_codes}

-- the stored codes of the column of this number
abbrev pub kept_at : List ColumnCodes → ℕ → ColumnCodes
kept_at kept column = slice_index_or kept column (record { codes = []; nulls = [] })

-- These rows, at most 512, are stored. For each column, the lane of a row has its stored code, and
-- 1 if the row is null there, else 0. The lanes past the last row have zeros.
pub record KeepRows (columns : List Column) (rows : List (List Value))
    (kept : List ColumnCodes) : Type 0 where
  pub all : length kept ≡ length columns
  pub codes : (column : ℕ) → column < length columns → (kept_at kept column).codes
      ≡ stored_codes columns rows column
  pub nulls : (column : ℕ) → column < length columns → (kept_at kept column).nulls
      ≡ map (λ null. if null then 1 else 0) (null_bits rows column)
