-- The table of a coded CSV text.
use Rattle.std.specs.Prelude.{◌≡◌, ◌<◌, ◌+◌, ℕ, zero, suc, Bool, List, [], ◌∷◌, ◌++◌, length, map}
use Rattle.std.specs.Prelude.{None, slice_index_or}
use Rattle.std.specs.Fmt.{decimal}
use Rattle.std.specs.List.{list_any}
use Rattle.bw_model.specs.declared.column.Column.{Column}
use Rattle.bw_model.specs.declared.schema.Schema.{Schema}
use Rattle.bw_model.specs.Column.{names_of}
use Rattle.bw_model.specs.Row.{Value}
use Rattle.bw_model.specs.Truth.{is_null}
use Rattle.bw_encode.specs.Column.{Encoding, Numbers, values_in}
use Rattle.bw_encode.specs.Seen.{AreBounds}

-- the table's name, t
abbrev pub table_name : List ℕ
table_name = 116 ∷ []

-- the name of a column by its place: c1 is that of place 0
abbrev pub column_name : ℕ → List ℕ
column_name place = 99 ∷ decimal (place + 1)

-- the names of the first columns
unfoldable pub column_names : ℕ → List (List ℕ)
column_names zero = []
column_names (suc n) = column_names n ++ column_name n ∷ []

-- a column is as narrow as its values: from their least number to their greatest, and nullable if
-- one of them is null
pub record IsNarrowest (values : List Value) (column : Column) : Type 0 where
  pub has_number : Bool
  pub bounds : AreBounds values column.lo column.hi has_number
  pub nullable : column.nullable ≡ list_any is_null values

-- the schema of encoded columns
pub record IsSchemaOf (encodings : List Encoding) (schema : Schema) : Type 0 where
  pub table : schema.name ≡ table_name
  pub names : names_of schema.columns.items ≡ column_names (length encodings)
  pub narrow : (place : ℕ) (column : Column) → place < length encodings
      → IsNarrowest (values_in (slice_index_or encodings place (Numbers [])))
      (slice_index_or schema.columns.items place column)

-- a row has the value of each column at its place
abbrev pub row_at : List Encoding → ℕ → List Value
row_at encodings row = map (λ encoding. slice_index_or (values_in encoding) row None) encodings

-- the first rows of encoded columns
unfoldable pub rows_upto : List Encoding → ℕ → List (List Value)
rows_upto encodings zero = []
rows_upto encodings (suc n) = rows_upto encodings n ++ row_at encodings n ∷ []
