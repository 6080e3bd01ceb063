-- What a call that encodes a CSV text did, by what its source yielded.
use Rattle.std.specs.Prelude.{◌≡◌, ◌+◌, ◌++◌, ℕ, false, List, length, Result, Ok, Err}
use Rattle.std.specs.Io.KnownBytes.{Appends}
use Rattle.bw_model.specs.declared.fault.Fault.{Fault}
use Rattle.bw_model.specs.declared.schema.Schema.{Schema}
use Rattle.bw_model.specs.Fault.{is_memory, nowhere}
use Rattle.bw_model.specs.FaultTable.{CSV_TOO_LONG, WRITE_FAILED}
use Rattle.bw_model.specs.Row.{Value}
use Rattle.bw_io.specs.Sink.{GoesOut, SinkState, TookPart, is_write_fault}
use Rattle.bw_io.specs.Source.{Arrival, NotReached, Whole, TooLong, Failed}
use Rattle.bw_encode.specs.declared.dialect.Dialect.{Dialect}
use Rattle.bw_encode.specs.declared.selection.Selection.{Selection}
use Rattle.bw_encode.specs.CodedTable.{AreEncodingsOf}
use Rattle.bw_encode.specs.Column.{Encoding}
use Rattle.bw_encode.specs.FieldsText.{end_bytes, fields_text}
use Rattle.bw_encode.specs.Rest.{bytes_read}
use Rattle.bw_encode.specs.Rows.{FieldRows, rows_of}
use Rattle.bw_encode.specs.Table.{IsSchemaOf, rows_upto}

-- the bytes are those of a table of encoded columns, as narrow as their values
pub record IsMadeTable (bytes_of : Schema → List (List Value) → List ℕ)
    (encodings : List Encoding) (rows : ℕ) (bytes : List ℕ) : Type 0 where
  pub schema : Schema
  pub narrow : IsSchemaOf encodings schema
  pub made : bytes ≡ bytes_of schema (rows_upto encodings rows)

-- A CSV text's rows are encoded column by column. One text says what the codes stand for, and
-- where the rows end if they have a limit; the other is the table of the values.
pub record Encodes (dialect : Dialect) (selection : Selection)
    (bytes_of : Schema → List (List Value) → List ℕ) (csv fields table : List ℕ) : Type 0 where
  pub rows : FieldRows
  pub read : rows_of dialect selection csv ≡ Ok rows
  pub encodings : List Encoding
  pub encoded : AreEncodingsOf rows encodings
  pub listed : fields ≡ fields_text encodings
      ++ end_bytes selection.rows (bytes_read dialect selection.rows csv)
  pub made : IsMadeTable bytes_of encodings (length rows.rows) table

-- A CSV is refused by this error, by what its source yielded: a text by its first error, and one
-- that is too long or couldn't be read by that error.
abbrev pub IsRefusedBy : Dialect → Selection → Arrival → Fault → Type 0
IsRefusedBy dialect selection NotReached fault = ⊥
IsRefusedBy dialect selection (Whole text) fault = rows_of dialect selection text ≡ Err fault
IsRefusedBy dialect selection TooLong fault = fault ≡ nowhere CSV_TOO_LONG
IsRefusedBy dialect selection (Failed failed) fault = fault ≡ failed

-- a sink is as it was, as far as its state tells
pub record IsUntouched (old new : SinkState) : Type 0 where
  pub taken : new.taken ≡ old.taken
  pub failures : new.failures ≡ old.failures

-- What a call wrote. Either nothing, since the CSV is refused or memory was; or a beginning of the
-- first text, and then a write failed; or all of the first text, and then the second, completely or
-- up to a failed write.
pub data EncodeOutcome (dialect : Dialect) (selection : Selection)
    (bytes_of : Schema → List (List Value) → List ℕ) (csv : Arrival)
    (fields_old fields_new table_old table_new : SinkState)
    : Result (Unit {0}) Fault → Type 0 where
  nothing : {fault : Fault} → is_write_fault fault ≡ false →
      (is_memory fault ≡ false → IsRefusedBy dialect selection csv fault) →
      IsUntouched fields_old fields_new → IsUntouched table_old table_new →
      EncodeOutcome dialect selection bytes_of csv fields_old fields_new table_old table_new
      (Err fault)
  beginning : (text fields table : List ℕ) → csv ≡ Whole text →
      Encodes dialect selection bytes_of text fields table →
      TookPart fields_old.taken fields_new.taken fields →
      fields_new.failures ≡ fields_old.failures + 1 →
      IsUntouched table_old table_new →
      EncodeOutcome dialect selection bytes_of csv fields_old fields_new table_old table_new
      (Err (nowhere WRITE_FAILED))
  both : {result : Result (Unit {0}) Fault} (text fields table : List ℕ) → csv ≡ Whole text →
      Encodes dialect selection bytes_of text fields table →
      Appends fields_old.taken fields_new.taken fields → fields_new.failures ≡ fields_old.failures →
      GoesOut table_old table_new table result →
      EncodeOutcome dialect selection bytes_of csv fields_old fields_new table_old table_new result
