-- The file by columns whose codes were replaced.
use Rattle.std.specs.Prelude.{◌≡◌, ◌⊎◌, ℕ, List, map, Some, Result, Ok, Err, true}
use Rattle.bw_model.specs.declared.fault.Fault.{Fault}
use Rattle.bw_model.specs.declared.schema.Schema.{Schema}
use Rattle.bw_model.specs.Row.{Value}
use Rattle.bw_model.specs.SchemaText.{schema_of, schema_shape, IsSchemaText}
use Rattle.bw_file.specs.declared.layout.Layout.{Layout}
use Rattle.bw_file.specs.declared.order.FileOrder.{FileOrder}
use Rattle.bw_file.specs.Columnar.{IsColumnarFile, bytes_in_order}
use Rattle.bw_memory.specs.declared.columnar.ColumnarTable.{ColumnarTable}
use Rattle.bw_memory.specs.Columnar.{HasDamage, HasOpenFault, IsOpened, table_in}
use Rattle.bw_memory.specs.MemoryTable.{schema_of as schema_in}
use Rattle.bw_recode.specs.Numbers.{Replacement}
use Rattle.bw_recode.specs.Recode.{replaced_row, replacements_of}

-- The bytes are the file of the new schema, by rows or by columns, whose rows are those of the file
-- by columns, replaced, in its layout.
pub record IsRecodedColumns (order : FileOrder) (new : Schema) (table numbers bytes : List ℕ)
    : Type 0 where
  pub layout : Layout
  pub old : Schema
  pub rows : List (List Value)
  pub file : IsColumnarFile table layout old rows
  pub replacements : List Replacement
  pub spelled : replacements_of old.columns.items new.columns.items numbers ≡ Ok replacements
  pub is : bytes
      ≡ bytes_in_order order layout new (map (replaced_row old.columns.items replacements) rows)

-- header and length are accepted, and the text of numbers has this error
pub record HasNumbersFault (new : Schema) (table numbers : List ℕ) (fault : Fault) : Type 0 where
  pub columnar : ColumnarTable
  pub opened : IsOpened (Some table) columnar
  pub refused : replacements_of (schema_in (table_in columnar)).columns.items new.columns.items
      numbers ≡ Err fault

-- and so is the text of numbers, and a column has this error, the first
pub record HasColumnsFault (new : Schema) (table numbers : List ℕ) (fault : Fault) : Type 0 where
  pub columnar : ColumnarTable
  pub opened : IsOpened (Some table) columnar
  pub replacements : List Replacement
  pub spelled : replacements_of (schema_in (table_in columnar)).columns.items new.columns.items
      numbers ≡ Ok replacements
  pub damage : HasDamage (Some table) (λ _. true) columnar fault

-- the first error under a schema: that of the header or the length, that of the text of numbers, or
-- a column's
abbrev pub IsRefusedColumns : Schema → List ℕ → List ℕ → Fault → Type 0
IsRefusedColumns new table numbers fault =
    HasOpenFault table fault ⊎ HasNumbersFault new table numbers fault
    ⊎ HasColumnsFault new table numbers fault

-- The recoded file under the schema that a text spells; or the text's first error, or else the
-- first one under that schema.
abbrev pub IsColumnarRecoding : FileOrder → List ℕ → List ℕ → List ℕ → Result (List ℕ) Fault
    → Type 0
IsColumnarRecoding order table schema numbers (Ok bytes) =
    (new : Schema) × IsSchemaText schema (schema_shape new)
    × IsRecodedColumns order new table numbers bytes
IsColumnarRecoding order table schema numbers (Err fault) =
    (schema_of schema ≡ Err fault)
    ⊎ ((new : Schema) × IsSchemaText schema (schema_shape new)
    × IsRefusedColumns new table numbers fault)
