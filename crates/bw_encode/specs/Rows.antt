-- The rows of a CSV text: the records after its heading, or its first error.
use Rattle.std.specs.Prelude.{◌≡◌, ◌<◌, ◌+◌, ◌&&◌, ◌||◌, ◌++◌, ℕ, Bool, not, List, [], ◌∷◌}
use Rattle.std.specs.Prelude.{length, map, nat_le, nat_lt, Option, Result, Ok, Err, slice_index_or}
use Rattle.csv.specs.Reading.{strip_bom}
use Rattle.csv.specs.declared.parser.State.TheVariants as st
use Rattle.bw_model.specs.declared.fault.Fault.{Fault}
use Rattle.bw_model.specs.Fault.{at_record, ◌>>=◌, refused_if}
use Rattle.bw_model.specs.FaultTable.{NO_HEADING, COLUMN_COUNT, RECORD_LENGTH, TOO_MANY_ROWS}
use Rattle.bw_model.specs.FaultTable.{CSV_FAULT}
use Rattle.bw_model.specs.Limits.{most_columns, most_rows}
use Rattle.bw_io.specs.Sink.{is_write_fault}
use Rattle.bw_io.specs.Source.{is_read_fault}
use Rattle.bw_encode.specs.declared.dialect.Dialect.{Dialect}
use Rattle.bw_encode.specs.declared.selection.Selection.{Selection}
use Rattle.bw_encode.specs.Dialect.{is_at, loose_in, records_of}
use Rattle.bw_encode.specs.Selection.{Places, are_there, count_in, has_length, row_of, up_to}

-- the number of columns, and the fields of each row
pub record FieldRows : Type 0 where
  pub width : ℕ
  pub rows : List (List (List ℕ))

abbrev pub field_rows : ℕ → List (List (List ℕ)) → FieldRows
field_rows width rows = record { width = width; rows = rows }

-- a row, followed by the rows after it
abbrev pub with_row : List (List ℕ) → Result (List (List (List ℕ))) Fault
    → Result (List (List (List ℕ))) Fault
with_row row more = more >>= λ rows. Ok (row ∷ rows)

-- a record of this number, or its first error: it is rejected for its quotation marks, has a wrong
-- number of fields, or is past 2^24
abbrev pub record_checked : Bool → Bool → ℕ → Result (Unit {0}) Fault
record_checked is_rejected is_right number =
    refused_if is_rejected (at_record CSV_FAULT number)
    (refused_if (not is_right) (at_record RECORD_LENGTH number)
    (refused_if (nat_lt most_rows number) (at_record TOO_MANY_ROWS number) (Ok tt)))

-- the rows of records, the first of which has this number, or the first error
unfoldable pub rows_from : Selection → ℕ → Option ℕ → ℕ → List (List (List ℕ))
    → Result (List (List (List ℕ))) Fault
rows_from selection width loose number [] = Ok []
rows_from selection width loose number (fields ∷ more) =
    record_checked (is_at loose number) (has_length selection.is_filled (length fields) width)
    number
    >>= λ _. with_row (row_of selection width fields)
    (rows_from selection width loose (number + 1) more)

-- a heading of this many fields, or its first error: it is rejected for its quotation marks; the
-- columns aren't 1 to 64, or one of them isn't there
abbrev pub heading_checked : Places → Bool → ℕ → Result (Unit {0}) Fault
heading_checked places is_rejected width =
    refused_if is_rejected (at_record CSV_FAULT 0)
    (refused_if (not (nat_le 1 (count_in places width) && nat_le (count_in places width)
    most_columns && are_there places width)) (at_record COLUMN_COUNT 0) (Ok tt))

-- the rows of records, the first of which is the heading, or the first error: there is no record,
-- and then those of the heading and of the records after it, up to the limit of rows
unfoldable pub rows_after : Selection → Option ℕ → List (List (List ℕ)) → Result FieldRows Fault
rows_after selection loose [] = Err (at_record NO_HEADING 0)
rows_after selection loose (heading ∷ more) =
    heading_checked selection.columns (is_at loose 0) (length heading)
    >>= λ _. rows_from selection (length heading) loose 1 (up_to selection.rows more)
    >>= λ rows. Ok (field_rows (count_in selection.columns (length heading)) rows)

-- the rows of a text, without the byte order mark at its start, if it has one, or its first error
abbrev pub rows_of : Dialect → Selection → List ℕ → Result FieldRows Fault
rows_of dialect selection text =
    rows_after selection (loose_in dialect 0 st.StartRecord (strip_bom text))
    (records_of dialect text)

-- the field of each row in a column
abbrev pub column_of : List (List (List ℕ)) → ℕ → List (List ℕ)
column_of rows column = map (λ row. slice_index_or row column []) rows

-- these are the columns of rows
pub record AreColumnsOf (width : ℕ) (rows columns : List (List (List ℕ))) : Type 0 where
  pub count : length columns ≡ width
  pub each : (column : ℕ) → column < width
      → slice_index_or columns column [] ≡ column_of rows column

-- each column has one field more, that of a record
pub record AddsRow (row : List (List ℕ)) (old new : List (List (List ℕ))) : Type 0 where
  pub count : length new ≡ length old
  pub each : (column : ℕ) → column < length old
      → slice_index_or new column []
      ≡ slice_index_or old column [] ++ slice_index_or row column [] ∷ []

-- the error is one of a source or a sink
abbrev pub is_device_fault : Fault → Bool
is_device_fault fault = is_read_fault fault || is_write_fault fault
