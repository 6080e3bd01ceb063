-- The rows of a table of which some columns were read.
use Rattle.std.specs.Prelude.{◌≡◌, ℕ, Bool, List, Some, length, map, true, if◌then◌else◌}
use Rattle.std.specs.List.{range_with_len}
use Rattle.bw_model.specs.declared.column.Column.{Column}
use Rattle.bw_model.specs.Code.{value_at}
use Rattle.bw_model.specs.Row.{Value, value_in}

-- the row, with the column's minimum in place of each value of a column that wasn't read
abbrev pub read_row : List Column → (ℕ → Bool) → List Value → List Value
read_row columns read row =
    map (λ column. if read column then value_in row column else Some (value_at columns column 0))
    (range_with_len 0 (length columns))

-- the rows, with the column's minimum in place of the values of some columns, but of none of which
-- `wanted` is true
pub record AreReadRows (columns : List Column) (wanted : ℕ → Bool) (rows stored : List (List Value))
    : Type 0 where
  pub read : ℕ → Bool
  pub wide : (column : ℕ) → wanted column ≡ true → read column ≡ true
  pub are : stored ≡ map (read_row columns read) rows
