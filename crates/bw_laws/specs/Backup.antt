-- The text of a dump, and the table file that a load writes of it.
use Rattle.std.specs.Prelude.{◌≡◌, ◌⊎◌, ℕ, ◌+◌, ◌*◌, List, ◌∷◌, map, Some, Result, Ok, Err, IsTrue}
use Rattle.std.specs.Prelude.{slice_index}
use Rattle.bw_model.specs.declared.fault.Fault.{Fault}
use Rattle.bw_model.specs.declared.schema.Schema.{Schema}
use Rattle.bw_model.specs.Column.{names_of}
use Rattle.bw_model.specs.Limits.{longest_csv, longest_schema}
use Rattle.bw_model.specs.Row.{Value}
use Rattle.bw_model.specs.SchemaText.{IsSchemaText, schema_shape}
use Rattle.bw_answer.specs.Answer.{csv_text, value_text}
use Rattle.bw_csv_calls.specs.Load.{IsFile}
use Rattle.bw_io.specs.Source.{Arrival, is_input_fault, source_state}
use Rattle.bw_file.specs.declared.layout.Layout.{Layout}
use Rattle.bw_file.specs.FileBytes.{version_for}
use Rattle.bw_file.specs.Reading.{State, state_at}
use Rattle.bw_csv_calls.specs.Info.{TellsHeader}
use Rattle.bw_laws.specs.OneAnswer.{IsArrivalOf}

-- a table as a CSV text: the names of its columns, and then the values of each row
abbrev pub table_text : Schema → List (List Value) → List ℕ
table_text schema rows = csv_text (names_of schema.columns.items ∷ map (map value_text) rows)

-- the maximal length of the CSV text of a table of so many columns and rows: 63 bytes for each
-- name, 20 for each value, and one after each
abbrev pub longest_dump : ℕ → ℕ → ℕ
longest_dump columns rows = columns * 64 + rows * (columns * 21)

-- a table file's version: the byte after the eight of the magic
abbrev pub version_told : List ℕ → ℕ
version_told bytes = slice_index bytes 8

-- a table file is of version 1; or version 1 can't hold a column of its table, so that it needs
-- version 2
abbrev pub IsOfNeededVersion : List ℕ → Schema → Type 0
IsOfNeededVersion bytes schema = (version_told bytes ≡ 1) ⊎ (version_for schema.columns.items ≡ 2)

-- info writes this of a source that has these bytes
pub record IsTold (bytes text : List ℕ) : Type 0 where
  pub failures : ℕ
  pub now : State
  pub header : TellsHeader (state_at (source_state (Some bytes) failures) 0) now text

-- a call yields this file, unless a read fails or memory runs out
abbrev pub IsThatFile : List ℕ → Result (List ℕ) Fault → Type 0
IsThatFile file (Ok bytes) = bytes ≡ file
IsThatFile file (Err fault) = IsTrue (is_input_fault fault)

-- a load yields this file, if its sources have a schema text and a CSV text
abbrev pub Loads : Layout → List ℕ → List ℕ → List ℕ → Type 0
Loads layout schema csv file =
    (schema_came csv_came : Arrival) (given : Result (List ℕ) Fault)
    → IsArrivalOf longest_schema schema schema_came → IsArrivalOf longest_csv csv csv_came
    → IsFile layout schema_came csv_came given → IsThatFile file given

-- the same under every schema text that spells this schema
abbrev pub LoadsUnder : Layout → Schema → List ℕ → List ℕ → Type 0
LoadsUnder layout schema csv file = (text : List ℕ) → IsSchemaText text (schema_shape schema)
    → Loads layout text csv file
