-- A CSV text by columns, and its columns coded.
use Rattle.std.specs.Prelude.{◌≡◌, ◌<◌, ◌≤◌, ℕ, List, [], length, map, All, slice_index_or}
use Rattle.bw_model.specs.Limits.{most_columns, most_rows}
use Rattle.bw_encode.specs.declared.coded_table.CodedTable.{CodedTable}
use Rattle.bw_encode.specs.declared.coded_table.TextColumns.{TextColumns}
use Rattle.bw_encode.specs.Coded.{IsCoded, encoding_of, fields_in}
use Rattle.bw_encode.specs.Column.{Encoding, Numbers, IsEncodingOf}
use Rattle.bw_encode.specs.Rows.{AreColumnsOf, FieldRows, column_of}

-- the columns have these rows, of 1 to 64 fields, and at most 2^24 of them
pub record HasRows (columns : TextColumns) (table : FieldRows) : Type 0 where
  pub columns_are : AreColumnsOf table.width table.rows columns.columns.items
  pub rows_within : length table.rows ≤ most_rows
  pub nonempty : 1 ≤ table.width
  pub within : table.width ≤ most_columns

-- how many bytes of the text were read
abbrev pub bytes_in : TextColumns → ℕ
bytes_in columns = columns.bytes_read

abbrev pub encodings_in : CodedTable → List Encoding
encodings_in table = map encoding_of table.columns.items

abbrev pub rows_in : CodedTable → ℕ
rows_in table = table.rows

-- 1 to 64 columns are coded, and each has the same number of rows, at most 2^24
pub record IsCodedTable (table : CodedTable) : Type 0 where
  pub coded : All IsCoded table.columns.items
  pub tall : All (λ column. length (fields_in column) ≡ table.rows) table.columns.items
  pub nonempty : 1 ≤ length table.columns.items
  pub within : length table.columns.items ≤ most_columns
  pub rows_within : table.rows ≤ most_rows

-- each column of rows has an encoding, in order
pub record AreEncodingsOf (table : FieldRows) (encodings : List Encoding) : Type 0 where
  pub count : length encodings ≡ table.width
  pub each : (column : ℕ) → column < table.width
      → IsEncodingOf (column_of table.rows column) (slice_index_or encodings column (Numbers []))
