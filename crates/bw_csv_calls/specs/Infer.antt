-- The expected text of a call that infers a schema, by what the CSV's source yielded.
use Rattle.std.specs.Prelude.{◌≡◌, ◌||◌, ◌&&◌, Bool, ℕ, List, length, nat_le, not, Option, Result}
use Rattle.std.specs.Prelude.{Ok}
use Rattle.std.specs.Io.KnownBytes.{Appends}
use Rattle.bw_model.specs.FaultTable.{SCHEMA_NAME, COLUMN_COUNT}
use Rattle.bw_model.specs.declared.fault.Fault.{Fault}
use Rattle.bw_model.specs.declared.schema.Schema.{Schema}
use Rattle.bw_model.specs.Fault.{nowhere, ◌>>=◌, refused_if}
use Rattle.bw_model.specs.Name.{is_name}
use Rattle.bw_model.specs.SchemaText.{schema_shape, IsSchemaText}
use Rattle.bw_io.specs.Source.{Arrival}
use Rattle.bw_csv.specs.Bare.{bare_rows, records_of}
use Rattle.bw_csv.specs.Input.{IsMadeAfter}
use Rattle.bw_csv.specs.Rows.{Stops, StopsAfter, is_rows_fault}
use Rattle.bw_csv_calls.specs.PrintedSchema.{schema_text}
use Rattle.bw_csv_calls.specs.Heading.{heading_names}
use Rattle.bw_csv_calls.specs.InferredSchema.{infer_schema, IsExact}

-- the text of the schema that is inferred from a CSV text, or the CSV text's first error
abbrev pub inferred_text : List ℕ → List ℕ → Result (List ℕ) Fault
inferred_text table csv = infer_schema table csv >>= λ schema. Ok (schema_text schema)

-- The text of the schema, or the first error, by what the CSV's source yielded. If the table's name
-- is invalid, the CSV isn't reached.
abbrev pub IsTextFrom : List ℕ → Arrival → Result (List ℕ) Fault → Type 0
IsTextFrom table csv given =
    IsMadeAfter (refused_if (not (is_name table)) (nowhere SCHEMA_NAME) (Ok table)) inferred_text
    csv given

-- an error of the reader's own is at the heading, or at a record after a valid heading and records
-- that have rows
abbrev pub StopsInferring : List ℕ → Fault → Type 0
StopsInferring csv =
    Stops (λ heading more fault. (names : List (List ℕ)) × (heading_names heading ≡ Ok names)
    × StopsAfter (bare_rows (length names)) more fault) (records_of csv)

-- a text spells a schema that is exact for a CSV text
pub record SpellsExactly (text csv : List ℕ) : Type 0 where
  pub schema : Schema
  pub spelled : IsSchemaText text (schema_shape schema)
  pub exact : IsExact schema.columns.items csv

-- a sink consumed such a text for the bytes of a CSV
pub record InfersExactly (csv : List ℕ) (old new : Option (List ℕ)) : Type 0 where
  pub text : List ℕ
  pub took : Appends old new text
  pub exact : SpellsExactly text csv

-- the error is one of a heading or of the bounds (102 to 105), or of a CSV text
abbrev pub is_inferring_fault : Fault → Bool
is_inferring_fault fault = (nat_le SCHEMA_NAME fault.code && nat_le fault.code COLUMN_COUNT)
    || is_rows_fault fault
