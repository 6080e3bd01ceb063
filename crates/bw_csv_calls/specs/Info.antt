-- The header of a table file, as text.
use Rattle.std.specs.Prelude.{◌≡◌, ℕ, ◌+◌, ◌*◌, ◌/◌, ◌||◌, Bool, List, [], ◌∷◌, ◌++◌, length, codes}
use Rattle.std.specs.Prelude.{Option, Result, Ok, Err}
use Rattle.std.specs.Fmt.{decimal}
use Rattle.std.specs.Io.KnownBytes.{Appends}
use Rattle.bw_model.specs.declared.fault.Fault.{Fault}
use Rattle.bw_model.specs.declared.schema.Schema.{Schema}
use Rattle.bw_model.specs.Row.{Value}
use Rattle.bw_model.specs.SchemaText.{IsSchemaText, schema_shape}
use Rattle.bw_io.specs.Sink.{is_write_fault}
use Rattle.bw_io.specs.Source.{failed_by, is_input_fault}
use Rattle.bw_file.specs.declared.layout.Layout.{Layout}
use Rattle.bw_file.specs.declared.layout.Layout.TheVariants.{Planes, Slices}
use Rattle.bw_file.specs.declared.order.FileOrder.TheVariants.{ByRows}
use Rattle.bw_file.specs.Blocks.{segment_size}
use Rattle.bw_file.specs.FileBytes.{header_bytes}
use Rattle.bw_file.specs.Reading.{State, GoesOn, Fails, give}
use Rattle.bw_file.specs.TableReading.{HeaderShape, header}
use Rattle.bw_memory.specs.declared.columnar.ColumnarTable.{ColumnarTable}
use Rattle.bw_memory.specs.Columnar.{IsOpened, IsOpenFault, columnar_size, table_in}
use Rattle.bw_memory.specs.MemoryTable.{layout_of, rows_of, schema_of}
use Rattle.bw_text.specs.Printing.{line_text}
use Rattle.bw_csv_calls.specs.PrintedSchema.{schema_text}

-- the number of segments of this many rows
abbrev pub segment_count : ℕ → ℕ
segment_count rows = (rows + 511) / 512

-- the number of bytes of a table's file: those of its header, and those of each segment
abbrev pub file_size : ℕ → Layout → Schema → ℕ → ℕ
file_size version layout schema rows =
    length (header_bytes ByRows version layout schema.name schema.columns.items rows)
    + segment_count rows * segment_size layout schema.columns.items

abbrev pub layout_word : Layout → List ℕ
layout_word Planes = codes "planes"
layout_word Slices = codes "slices"

-- a comment line of a word and a value
abbrev pub comment : List ℕ → List ℕ → List ℕ
comment word value = line_text (codes "#" ∷ word ∷ value ∷ [])

-- the header's numbers beside the schema, a comment line each
abbrev pub facts_text : ℕ → Layout → ℕ → ℕ → List ℕ
facts_text version layout rows size =
    comment (codes "rows") (decimal rows)
    ++ (comment (codes "segments") (decimal (segment_count rows))
    ++ (comment (codes "layout") (layout_word layout)
    ++ (comment (codes "version") (decimal version)
    ++ comment (codes "bytes") (decimal size))))

-- the schema's text, then the comments, for a file of so many bytes
unfoldable pub info_text : ℕ → Layout → Schema → ℕ → ℕ → List ℕ
info_text version layout schema rows size = schema_text (schema_shape schema)
    ++ facts_text version layout rows size

-- The header of a file was read, and this is its text. It is a schema text, which spells the
-- table's schema.
pub record TellsHeader (start now : State) (text : List ℕ) : Type 0 where
  pub told : HeaderShape
  pub schema : Schema
  pub read : GoesOn header start (give told) now
  pub shape : told.schema ≡ schema_shape schema
  pub is : text ≡ info_text told.version told.layout schema told.rows
      (file_size told.version told.layout schema told.rows)
  pub spelled : IsSchemaText text (schema_shape schema)

-- the text of the header; or the header's first error, or a failed read before the header's end; or
-- out of memory, with no more read than the header needs
abbrev pub IsInfo : State → State → Result (List ℕ) Fault → Type 0
IsInfo start now (Ok text) = TellsHeader start now text
IsInfo start now (Err fault) = Fails header start now fault

-- so it is, by what a source yielded, whose failures rose if and only if the error is a failed read
pub record IsInfoResult (start now : State) (given : Result (List ℕ) Fault) : Type 0 where
  pub failures : now.failures ≡ start.failures + failed_by given
  pub info : IsInfo start now given

-- The bytes are a table file's of these rows, and a sink consumed the text of its header, with the
-- number of all bytes.
pub record TellsFile (bytes : List ℕ) (layout : Layout) (schema : Schema) (rows : List (List Value))
    (old new : Option (List ℕ)) : Type 0 where
  pub version : ℕ
  pub size : length bytes ≡ file_size version layout schema (length rows)
  pub text : Appends old new (info_text version layout schema (length rows) (length bytes))

-- the error depends on no bytes: a failed read, a failed write, or out of memory
abbrev pub is_no_verdict : Fault → Bool
is_no_verdict fault = is_input_fault fault || is_write_fault fault

-- A file by columns was opened, and this is the text of its header, with the number of its bytes.
pub record TellsColumnar (known : Option (List ℕ)) (text : List ℕ) : Type 0 where
  pub columnar : ColumnarTable
  pub opened : IsOpened known columnar
  pub is : text ≡ info_text 2 (layout_of (table_in columnar)) (schema_of (table_in columnar))
      (length (rows_of (table_in columnar))) (columnar_size columnar)
  pub spelled : IsSchemaText text (schema_shape (schema_of (table_in columnar)))

-- the text of the header; or the error of a file that couldn't be opened, a failed read, or out of
-- memory
abbrev pub IsColumnarInfo : Option (List ℕ) → Result (List ℕ) Fault → Type 0
IsColumnarInfo known (Ok text) = TellsColumnar known text
IsColumnarInfo known (Err fault) = IsOpenFault known fault
