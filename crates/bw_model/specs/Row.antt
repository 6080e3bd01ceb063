-- Values and rows.
use Rattle.std.specs.Prelude.{ℕ, ℤ, List, Option, None, slice_index_or}
use Rattle.bw_model.specs.declared.row.Row.{Row}

-- null, or a whole number
abbrev pub Value : Type 0
Value = Option ℤ

-- the values of a row, one for each column
abbrev pub values_of : Row → List Value
values_of row = row.values.items

-- the value of a row in a column
abbrev pub value_in : List Value → ℕ → Value
value_in values column = slice_index_or values column None
