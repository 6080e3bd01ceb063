-- The meaning of a schema and of a CSV, by what their sources yielded.
use Rattle.std.specs.Prelude.{◌≡◌, ℕ, List, Result, Ok, Err}
use Rattle.bw_model.specs.FaultTable.{SCHEMA_TOO_LONG}
use Rattle.bw_model.specs.declared.fault.Fault.{Fault}
use Rattle.bw_model.specs.declared.schema.Schema.{Schema}
use Rattle.bw_model.specs.Fault.{nowhere}
use Rattle.bw_model.specs.SchemaText.{schema_of, schema_shape, IsSchemaText}
use Rattle.bw_io.specs.Source.{Arrival, NotReached, Whole, TooLong, Failed}
use Rattle.bw_csv.specs.Bare.{records_of}
use Rattle.bw_csv.specs.Rows.{StopsUnder}

-- What a schema's source is read as, by what it yielded. If the text was read completely, it is a
-- schema that the text spells, or the text's first error. If the text is too long, or the source
-- failed, it is that error. A source that wasn't reached is read as nothing.
abbrev pub IsSchemaFrom : Arrival → Result Schema Fault → Type 0
IsSchemaFrom NotReached outcome = ⊥
IsSchemaFrom (Whole text) (Ok schema) = IsSchemaText text (schema_shape schema)
IsSchemaFrom (Whole text) (Err fault) = schema_of text ≡ Err fault
IsSchemaFrom TooLong outcome = outcome ≡ Err (nowhere SCHEMA_TOO_LONG)
IsSchemaFrom (Failed fault) outcome = outcome ≡ Err fault

-- a schema text was read completely, and spells this schema
pub record HasReadSchema (came : Arrival → Type 0) (schema : Schema) : Type 0 where
  pub text : List ℕ
  pub whole : came (Whole text)
  pub spelled : IsSchemaText text (schema_shape schema)

-- A CSV text was read completely, and the reader's own error is at the heading, or at the record
-- after those that have rows.
pub record StopsInCsv (came : Arrival → Type 0) (schema : Schema) (fault : Fault) : Type 0 where
  pub text : List ℕ
  pub whole : came (Whole text)
  pub stops : StopsUnder schema.columns.items (records_of text) fault
