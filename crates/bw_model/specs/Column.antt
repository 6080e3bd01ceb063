-- Columns, and the rows that they admit.
use Rattle.std.specs.Prelude.{ℕ, Bool, true, false, List, [], ◌∷◌, map, Option, Some, None, ◌&&◌}
use Rattle.std.specs.Prelude.{int_le}
use Rattle.std.specs.List.{position}
use Rattle.bw_model.specs.declared.column.Column.{Column}
use Rattle.bw_model.specs.Row.{Value}
use Rattle.bw_text.specs.Text.{same_text}

abbrev pub names_of : List Column → List (List ℕ)
names_of columns = map (λ column. column.name) columns

-- the number of the column of this name, ignoring case
unfoldable pub column_named : List Column → List ℕ → Option ℕ
column_named columns text = position (λ column. same_text column.name text) columns

-- a nullable column admits null, and every column the numbers from lo to hi
abbrev pub admits_value : Column → Value → Bool
admits_value column None = column.nullable
admits_value column (Some n) = int_le column.lo n && int_le n column.hi

-- columns admit a row if it has one value for each, and each column admits its value
abbrev pub admits_values : List Column → List Value → Bool
admits_values [] [] = true
admits_values [] (value ∷ values) = false
admits_values (column ∷ columns) [] = false
admits_values (column ∷ columns) (value ∷ values) = admits_value column value
    && admits_values columns values
