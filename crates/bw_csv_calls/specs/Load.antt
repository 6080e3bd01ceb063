-- The expected bytes of a load, by what the schema's and the CSV's sources yielded.
use Rattle.std.specs.Prelude.{ℕ, List, Result, Ok}
use Rattle.bw_model.specs.declared.fault.Fault.{Fault}
use Rattle.bw_model.specs.declared.schema.Schema.{Schema}
use Rattle.bw_model.specs.Fault.{◌>>=◌}
use Rattle.bw_model.specs.Row.{Value}
use Rattle.bw_io.specs.Source.{Arrival}
use Rattle.bw_csv.specs.Rows.{rows_of}
use Rattle.bw_file.specs.declared.layout.Layout.{Layout}
use Rattle.bw_file.specs.declared.order.FileOrder.{FileOrder}
use Rattle.bw_file.specs.declared.order.FileOrder.TheVariants.{ByRows}
use Rattle.bw_file.specs.Columnar.{bytes_in_order}
use Rattle.bw_csv.specs.Input.{IsMadeAfter}
use Rattle.bw_csv_calls.specs.ReadInputs.{IsSchemaFrom}

-- the file of the rows that a CSV text spells, or the text's first error
abbrev pub file_in : FileOrder → Layout → Schema → List ℕ → Result (List ℕ) Fault
file_in order layout schema csv = rows_of schema.columns.items csv
    >>= λ rows. Ok (bytes_in_order order layout schema rows)

-- so it is for a table file
abbrev pub file_of : Layout → Schema → List ℕ → Result (List ℕ) Fault
file_of = file_in ByRows

-- The file, or the first error in the order of the schema and the CSV. If the schema is rejected,
-- the CSV isn't reached.
abbrev pub IsFileIn : FileOrder → Layout → Arrival → Arrival → Result (List ℕ) Fault → Type 0
IsFileIn order layout came csv given =
    (schema : Result Schema Fault) × IsSchemaFrom came schema
    × IsMadeAfter schema (file_in order layout) csv given

-- so it is for a table file
abbrev pub IsFile : Layout → Arrival → Arrival → Result (List ℕ) Fault → Type 0
IsFile layout came csv given = IsFileIn ByRows layout came csv given
