-- The expected result of a query over a table file, by the bytes that its source yielded.
use Rattle.std.specs.Prelude.{◌≡◌, ◌⊎◌, ℕ, ◌+◌, ◌||◌, Bool, true, false, IsTrue, List, [], length}
use Rattle.std.specs.Prelude.{map, Option, Result, Ok, Err}
use Rattle.std.specs.Io.KnownBytes.{Appends}
use Rattle.std.specs.List.{range_with_len}
use Rattle.bw_model.specs.declared.fault.Fault.{Fault}
use Rattle.bw_model.specs.declared.query.Item.TheVariants.{Plain}
use Rattle.bw_model.specs.declared.query.Query.{Query}
use Rattle.bw_model.specs.declared.schema.Schema.{Schema}
use Rattle.bw_model.specs.Fault.{is_memory}
use Rattle.bw_model.specs.Column.{names_of}
use Rattle.bw_model.specs.Cond.{is_match}
use Rattle.bw_model.specs.Row.{Value}
use Rattle.bw_model.specs.SchemaText.{schema_shape}
use Rattle.bw_sql.specs.Statement.{IsReadAs}
use Rattle.bw_answer.specs.Answer.{csv_text, meaning}
use Rattle.bw_io.specs.Sink.{is_write_fault}
use Rattle.bw_io.specs.Source.{is_read_fault, is_input_fault, failed_by}
use Rattle.bw_file.specs.declared.layout.Layout.{Layout}
use Rattle.bw_file.specs.FileBytes.{IsFileBytes}
use Rattle.bw_file.specs.Reading.{State, HasConsumed, GoesOn, Fails, give}
use Rattle.bw_file.specs.TableReading.{HeaderShape, Found, header}
use Rattle.bw_file.specs.TableReader.{AreUnfinished, HasFirstFault, NoneToSpare, ReadWhole}
use Rattle.bw_file.specs.TableReader.{ReadProgress, header_stated, version_in}
use Rattle.bw_file.specs.declared.table_reader.TableReader.{TableReader}
use Rattle.bw_query.specs.Scan.{IsScanFault, IsUsable}

-- the header of the file was read, and states this schema
pub record IsHeaderOf (start after : State) (schema : Schema) : Type 0 where
  pub stated : HeaderShape
  pub read : GoesOn header start (give stated) after
  pub shape : schema_shape schema ≡ stated.schema

-- a reader has read the header, which is at the start of its file, and nothing after it
pub record HasReadHeader (start now : State) (reader : TableReader) : Type 0 where
  pub so_far : ReadProgress start now reader []
  pub stated : GoesOn header start (give (header_stated (version_in reader) reader)) now

-- all bytes of the file were consumed, and they are the table file of these rows under this schema
pub record IsWholeTable (start now : State) (schema : Schema) (rows : List (List Value)) : Type
    0 where
  pub found : Found
  pub read : ReadWhole start now found
  pub shape : found.schema ≡ schema_shape schema
  pub same : found.rows ≡ rows
  pub text : IsFileBytes read.bytes found.layout schema rows

-- the text is that of the query's meaning over the rows of the table
pub record TableText (asks : Schema → Result Query Fault → Type 0) (start now : State)
    (text : List ℕ) : Type 0 where
  pub schema : Schema
  pub rows : List (List Value)
  pub query : Query
  pub table : IsWholeTable start now schema rows
  pub asked : asks schema (Ok query)
  pub is : text ≡ csv_text (meaning (names_of schema.columns.items) query rows)

-- the bytes are the table file of these rows, and a sink consumed the text of the query's meaning
-- over them
pub record AnswersFile (asks : Schema → Result Query Fault → Type 0) (bytes : List ℕ)
    (old new : Option (List ℕ)) : Type 0 where
  pub layout : Layout
  pub schema : Schema
  pub rows : List (List Value)
  pub query : Query
  pub file : IsFileBytes bytes layout schema rows
  pub asked : asks schema (Ok query)
  pub text : Appends old new (csv_text (meaning (names_of schema.columns.items) query rows))

-- only the header was read, and the query was rejected, or memory ran out
pub record HasRejectedQuery (asks : Schema → Result Query Fault → Type 0) (start now : State)
    (fault : Fault) : Type 0 where
  pub schema : Schema
  pub head : IsHeaderOf start now schema
  pub asked : is_memory fault ≡ false → asks schema (Err fault)

-- The header was read, and the query accepted. Then there was an error, after no more bytes than it
-- took to find it: a read failed; memory ran out; or it is the file's first error after the header.
pub record HasFailedAtSegment (asks : Schema → Result Query Fault → Type 0) (start now : State)
    (fault : Fault) : Type 0 where
  pub schema : Schema
  pub query : Query
  pub after : State
  pub head : IsHeaderOf start after schema
  pub asked : asks schema (Ok query)
  pub bytes : List ℕ
  pub took : HasConsumed start now bytes
  pub needed : NoneToSpare bytes fault
  pub unfinished : is_read_fault fault ≡ true → AreUnfinished bytes
  pub first : is_input_fault fault ≡ false → HasFirstFault now bytes fault

-- The text of the query's meaning over the table file's rows, or the first error in the order of
-- the header, the query and the segments. A failed read is the error in its place in that order.
-- Out of memory may be the error at any time. No more was consumed than was needed to find it.
abbrev pub IsTableAnswer : (Schema → Result Query Fault → Type 0) → State → State
    → Result (List ℕ) Fault → Type 0
IsTableAnswer asks start now (Ok text) = TableText asks start now text
IsTableAnswer asks start now (Err fault) =
    Fails header start now fault ⊎ HasRejectedQuery asks start now fault
    ⊎ HasFailedAtSegment asks start now fault

-- so it is, by what a source yielded, whose failures rose if and only if the error is a failed read
pub record IsTableResult (asks : Schema → Result Query Fault → Type 0) (start now : State)
    (given : Result (List ℕ) Fault) : Type 0 where
  pub failures : now.failures ≡ start.failures + failed_by given
  pub answer : IsTableAnswer asks start now given

-- a statement spells a query, and a program file has an error for its condition
pub record HasRejectedProgram (file : Option (List ℕ)) (sql : List ℕ) (schema : Schema)
    (fault : Fault) : Type 0 where
  pub query : Query
  pub asked : IsReadAs schema sql (Ok query)
  pub refused : IsScanFault file schema.columns.items query.cond fault

-- What a statement and a program file, or none, ask for: the query that the statement spells, if
-- the file is accepted for its condition; else the statement's error, or else the file's.
abbrev pub by_statement : Option (List ℕ) → List ℕ → Schema → Result Query Fault → Type 0
by_statement file sql schema (Ok query) = IsReadAs schema sql (Ok query)
    × IsUsable file schema.columns.items query.cond
by_statement file sql schema (Err fault) = IsReadAs schema sql (Err fault)
    ⊎ HasRejectedProgram file sql schema fault

-- the query for all rows and all columns
pub record IsEveryRow (schema : Schema) (query : Query) : Type 0 where
  pub columns : query.items.items ≡ map Plain (range_with_len 0 (length schema.columns.items))
  pub rows : (row : List Value) → IsTrue (is_match query.cond row)

abbrev pub by_dump : Schema → Result Query Fault → Type 0
by_dump schema (Ok query) = IsEveryRow schema query
by_dump schema (Err fault) = ⊥

-- an error that depends on no bytes and no statement: a failed read, a failed write, or out of
-- memory
abbrev pub is_no_verdict : Fault → Bool
is_no_verdict fault = is_input_fault fault || is_write_fault fault
