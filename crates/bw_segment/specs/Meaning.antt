-- The meaning of a segment: a table's name and columns, and 1 to 512 rows that the columns admit.
use Rattle.std.specs.Prelude.{◌≡◌, ℕ, ◌≤◌, Bool, true, false, List, ◌++◌, ◌-◌, length, map}
use Rattle.std.specs.Prelude.{replicate}
use Rattle.std.specs.List.{list_all}
use Rattle.bw_model.specs.declared.column.Column.{Column}
use Rattle.bw_model.specs.Row.{Value, value_in, values_of}
use Rattle.bw_model.specs.Column.{admits_values}
use Rattle.bw_model.specs.Groups.{group_size, lanes_of}
use Rattle.bw_model.specs.StoredCodes.{stored_at, byte_spelled}
use Rattle.bw_model.specs.Truth.{is_null}
use Rattle.bw_model.specs.declared.row.Row.{Row}
use Rattle.bw_model.specs.declared.schema.Schema.{Schema}

pub record Meaning : Type 0 where
  pub name : List ℕ
  pub columns : List Column
  pub rows : List (List Value)

-- the rows are those of one group, each admitted by the columns
pub record IsGroup (meaning : Meaning) : Type 0 where
  pub nonempty : 1 ≤ length meaning.rows
  pub within_limit : length meaning.rows ≤ group_size
  pub admitted : list_all (admits_values meaning.columns) meaning.rows ≡ true

-- the bit of a variable in each of the group's 512 lanes
abbrev pub variable_lanes : Meaning → ℕ → List Bool
variable_lanes meaning variable = map (λ bits. bits variable)
    (lanes_of meaning.columns meaning.rows)

-- the byte `slice` of a column's padded code in each lane; byte 0 is the least
abbrev pub byte_lanes : Meaning → ℕ → ℕ → List ℕ
byte_lanes meaning column slice = map (byte_spelled meaning.columns column slice)
    (lanes_of meaning.columns meaning.rows)

-- the stored code of a column in each of the 512 lanes of these rows; null and padding rows have 0
unfoldable pub stored_codes : List Column → List (List Value) → ℕ → List ℕ
stored_codes columns rows column =
    map (λ row. stored_at columns column (value_in row column)) rows
    ++ replicate (group_size - length rows) 0

-- the stored code of a column in each lane of a group
abbrev pub code_lanes : Meaning → ℕ → List ℕ
code_lanes meaning column = stored_codes meaning.columns meaning.rows column

-- for each of the 512 lanes, whether its row is null in a column; past the last row none is
unfoldable pub null_bits : List (List Value) → ℕ → List Bool
null_bits rows column = map (λ row. is_null (value_in row column)) rows
    ++ replicate (group_size - length rows) false

-- the meaning of rows of a table of this schema
abbrev pub meaning_of : Schema → List Row → Meaning
meaning_of schema rows = record {
  name = schema.name;
  columns = schema.columns.items;
  rows = map values_of rows;
}
