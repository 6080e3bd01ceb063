-- The schema that is inferred from a CSV text: the columns of its heading, as narrow as their
-- values.
use Rattle.std.specs.Prelude.{◌≡◌, ℕ, ℤ, suc, pos, ◌<◌, Bool, not, List, [], ◌∷◌, length, Option}
use Rattle.std.specs.Prelude.{Some, None, Result, Ok, Err, slice_index_or}
use Rattle.std.specs.List.{list_any}
use Rattle.bw_model.specs.FaultTable.{SCHEMA_RANGE, NO_HEADING}
use Rattle.bw_model.specs.declared.column.Column.{Column}
use Rattle.bw_model.specs.declared.fault.Fault.{Fault}
use Rattle.bw_model.specs.declared.query.Item.TheVariants.{Min, Max}
use Rattle.bw_model.specs.Fault.{at_record, ◌>>=◌, refused_if}
use Rattle.bw_model.specs.Row.{Value, value_in}
use Rattle.bw_model.specs.SchemaText.{ColumnShape, SchemaShape, shape, is_range}
use Rattle.bw_model.specs.Total.{total}
use Rattle.bw_model.specs.Truth.{is_null}
use Rattle.bw_csv.specs.Bare.{bare_rows, records_of}
use Rattle.bw_csv.specs.Rows.{rows_of}
use Rattle.bw_csv_calls.specs.Heading.{heading_names}

-- the bound if there is one, else 0
abbrev pub or_zero : Option ℤ → ℤ
or_zero None = pos 0
or_zero (Some n) = n

-- a row has null in the column
abbrev pub has_null : ℕ → List (List Value) → Bool
has_null column rows = list_any (λ row. is_null (value_in row column)) rows

-- the column of this name, from the minimum to the maximum of its values in the rows, nullable if
-- one of them is null
abbrev pub column_over : List (List Value) → ℕ → List ℕ → ColumnShape
column_over rows column name =
    shape name (or_zero (total (Min column) rows)) (or_zero (total (Max column) rows))
    (has_null column rows)

-- the columns of these names, the first of which has this number
unfoldable pub columns_over : List (List Value) → ℕ → List (List ℕ) → List ColumnShape
columns_over rows column [] = []
columns_over rows column (name ∷ names) = column_over rows column name
    ∷ columns_over rows (suc column) names

-- a column, unless its bounds are 2^63 or more apart, which is an error at the heading; and columns
abbrev pub ranged_column : ColumnShape → Result ColumnShape Fault
ranged_column column = refused_if (not (is_range column.lo column.hi)) (at_record SCHEMA_RANGE 0)
    (Ok column)

unfoldable pub check_bounds : List ColumnShape → Result (List ColumnShape) Fault
check_bounds [] = Ok []
check_bounds (column ∷ columns) = ranged_column column >>= λ first. check_bounds columns
    >>= λ rest. Ok (first ∷ rest)

abbrev pub table_of : List ℕ → List ColumnShape → SchemaShape
table_of table columns = record { name = table; columns = columns }

-- the schema of rows of columns of these names
abbrev pub schema_over : List ℕ → List (List ℕ) → List (List Value) → Result SchemaShape Fault
schema_over table names rows = check_bounds (columns_over rows 0 names)
    >>= λ columns. Ok (table_of table columns)

-- the schema of records, the first of which is the heading and has number 0, or their first error:
-- the heading, the records after it, and then the bounds
unfoldable pub inferred_after : List ℕ → List (List (List ℕ)) → Result SchemaShape Fault
inferred_after table [] = Err (at_record NO_HEADING 0)
inferred_after table (heading ∷ more) =
    heading_names heading >>= λ names. bare_rows (length names) 1 more
    >>= λ rows. schema_over table names rows

-- the schema that is inferred from a text, with this table name and without the byte order mark at
-- its start, if it has one; or the first error
abbrev pub infer_schema : List ℕ → List ℕ → Result SchemaShape Fault
infer_schema table text = inferred_after table (records_of text)

-- a column is as narrow as its values in the rows
pub record IsNarrowest (rows : List (List Value)) (number : ℕ) (column : Column) : Type 0 where
  pub lo : column.lo ≡ or_zero (total (Min number) rows)
  pub hi : column.hi ≡ or_zero (total (Max number) rows)
  pub nullable : column.nullable ≡ has_null number rows

-- a text has rows under the columns, without an error, and each column is as narrow as its values
pub record IsExact (columns : List Column) (text : List ℕ) : Type 0 where
  pub rows : List (List Value)
  pub spelled : rows_of columns text ≡ Ok rows
  pub narrow : (number : ℕ) (column : Column) → number < length columns
      → IsNarrowest rows number (slice_index_or columns number column)
