-- The table whose codes were replaced.
use Rattle.std.specs.Prelude.{◌≡◌, ◌⊎◌, ℕ, List, [], ◌∷◌, map, length, Option, Some, None}
use Rattle.std.specs.Prelude.{slice_index_or, Result, Ok, Err, true, Vec}
use Rattle.std.specs.declared.alloc.Global.{Global}
use Rattle.std.specs.Option.{option_map}
use Rattle.bw_text.specs.Lines.{cut_lines}
use Rattle.bw_model.specs.declared.column.Column.{Column}
use Rattle.bw_model.specs.declared.fault.Fault.{Fault}
use Rattle.bw_model.specs.declared.schema.Schema.{Schema}
use Rattle.bw_model.specs.Code.{code_at, code_of}
use Rattle.bw_model.specs.Column.{admits_values}
use Rattle.bw_model.specs.Row.{Value}
use Rattle.bw_model.specs.SchemaText.{schema_of, schema_shape, IsSchemaText}
use Rattle.bw_io.specs.Source.{source_state}
use Rattle.bw_file.specs.declared.layout.Layout.{Layout}
use Rattle.bw_file.specs.declared.order.FileOrder.{FileOrder}
use Rattle.bw_file.specs.Columnar.{bytes_in_order}
use Rattle.bw_file.specs.FileBytes.{IsFileBytes}
use Rattle.bw_file.specs.Reading.{State, Fails, GoesOn, give, state_at}
use Rattle.bw_file.specs.TableReader.{layout_in, schema_in}
use Rattle.bw_file.specs.TableReading.{HeaderShape, IsReadAs, found_as, header}
use Rattle.bw_file.specs.declared.table_reader.TableReader.{TableReader}
use Rattle.bw_recode.specs.Numbers.{Replacement, replacements_from}

-- a list's entry for a code; null has no code, and stays null
abbrev pub entry_of : List Value → Option ℕ → Value
entry_of values None = None
entry_of values (Some code) = slice_index_or values code None

-- the value that a column's value becomes
abbrev pub replaced : Column → Replacement → Value → Value
replaced column None value = value
replaced column (Some values) value = entry_of values (code_of column value)

-- the value that a value of the column of this number becomes
abbrev pub replaced_at : List Column → ℕ → Replacement → Value → Value
replaced_at columns col None value = value
replaced_at columns col (Some values) value = entry_of values (code_at columns col value)

-- the row that a row becomes
unfoldable pub replaced_row : List Column → List Replacement → List Value → List Value
replaced_row (column ∷ columns) (replacement ∷ replacements) (value ∷ values) =
    replaced column replacement value ∷ replaced_row columns replacements values
replaced_row _ _ _ = []

-- the replacements that a text of numbers spells, for a table and the new schema
abbrev pub replacements_of : List Column → List Column → List ℕ → Result (List Replacement) Fault
replacements_of olds news numbers = replacements_from olds news 1 (cut_lines numbers)

-- Each column has a replacement, and rows that the old columns admit become rows that the new ones
-- admit.
pub record IsReplacing (olds news : List Column) (replacements : List Replacement) : Type 0 where
  pub each : length replacements ≡ length olds
  pub admitted : (row : List Value) → admits_values olds row ≡ true
      → admits_values news (replaced_row olds replacements row) ≡ true

-- the replacements that the code stores
abbrev pub replacements_in : List (Option (Vec Value Global)) → List Replacement
replacements_in = map (option_map (λ values. values.items))

-- the state of a source of a table's bytes, of which none was read
abbrev pub start_of : List ℕ → State
start_of table = state_at (source_state (Some table) 0) 0

-- the table begins with a header, which states this schema
pub record HasHeader (table : List ℕ) (schema : Schema) : Type 0 where
  pub after : State
  pub stated : HeaderShape
  pub read : GoesOn header (start_of table) (give stated) after
  pub shape : stated.schema ≡ schema_shape schema

-- The bytes are the file of the new schema, by rows or by columns, whose rows are the table's,
-- replaced, in the table's layout.
pub record IsRecodedUnder (order : FileOrder) (new : Schema) (table numbers bytes : List ℕ) : Type 0 where
  pub layout : Layout
  pub old : Schema
  pub rows : List (List Value)
  pub file : IsFileBytes table layout old rows
  pub replacements : List Replacement
  pub spelled : replacements_of old.columns.items new.columns.items numbers ≡ Ok replacements
  pub is : bytes
      ≡ bytes_in_order order layout new (map (replaced_row old.columns.items replacements) rows)

-- the table's header has this error
pub record HasHeaderFault (table : List ℕ) (fault : Fault) : Type 0 where
  pub now : State
  pub fails : Fails header (start_of table) now fault

-- the header is accepted, and the text of numbers has this error
pub record HasNumbersFault (new : Schema) (table numbers : List ℕ) (fault : Fault) : Type 0 where
  pub old : Schema
  pub head : HasHeader table old
  pub refused : replacements_of old.columns.items new.columns.items numbers ≡ Err fault

-- header and numbers are accepted, and the table has this error after its header
pub record HasSegmentFault (new : Schema) (table numbers : List ℕ) (fault : Fault) : Type 0 where
  pub old : Schema
  pub head : HasHeader table old
  pub replacements : List Replacement
  pub spelled : replacements_of old.columns.items new.columns.items numbers ≡ Ok replacements
  pub read : IsReadAs table (Err fault)

-- the first error under a schema: the table's header's, that of the text of numbers, or the table's
-- segments'
abbrev pub IsRefusedUnder : Schema → List ℕ → List ℕ → Fault → Type 0
IsRefusedUnder new table numbers fault =
    HasHeaderFault table fault ⊎ HasNumbersFault new table numbers fault
    ⊎ HasSegmentFault new table numbers fault

-- The recoded table under the schema that a text spells; or the text's first error, or else the
-- first one under that schema.
abbrev pub IsRecoding : FileOrder → List ℕ → List ℕ → List ℕ → Result (List ℕ) Fault → Type 0
IsRecoding order table schema numbers (Ok bytes) =
    (new : Schema) × IsSchemaText schema (schema_shape new)
    × IsRecodedUnder order new table numbers bytes
IsRecoding order table schema numbers (Err fault) =
    (schema_of schema ≡ Err fault)
    ⊎ ((new : Schema) × IsSchemaText schema (schema_shape new)
    × IsRefusedUnder new table numbers fault)

-- The table is read as the layout and the schema that a reader states, with some rows, and the
-- bytes are the file of these rows, replaced, under another schema.
pub record IsEncoded (order : FileOrder) (table : List ℕ) (reader : TableReader) (schema : Schema)
    (replacements : List Replacement) (bytes : List ℕ) : Type 0 where
  pub rows : List (List Value)
  pub read : IsReadAs table
      (Ok (found_as (layout_in reader) (schema_shape (schema_in reader)) rows))
  pub is : bytes ≡ bytes_in_order order (layout_in reader) schema
      (map (replaced_row (schema_in reader).columns.items replacements) rows)
