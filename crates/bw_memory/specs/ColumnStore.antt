-- Where the columns of a table come from: they are in memory, or each is read from a file by columns
-- when it is needed.
use Rattle.std.specs.Prelude.{◌≡◌, ◌⊎◌, ◌<◌, ℕ, Bool, List, [], Option, IfSome, true, drop, length, take}
use Rattle.bw_model.specs.declared.column.Column.{Column}
use Rattle.bw_model.specs.declared.fault.Fault.{Fault}
use Rattle.bw_model.specs.declared.schema.Schema.{Schema}
use Rattle.bw_model.specs.Row.{Value}
use Rattle.bw_segment.specs.Packing.{block_bytes}
use Rattle.bw_file.specs.Blocks.{block_size, form_of}
use Rattle.bw_file.specs.Columnar.{block_place}
use Rattle.bw_file.specs.declared.layout.Layout.{Layout}
use Rattle.bw_memory.specs.Columnar.{IsColumnFault, head_size, table_in}
use Rattle.bw_memory.specs.Columns.{block_in}
use Rattle.bw_memory.specs.MemoryTable.{layout_of, rows_of, schema_of, segments_in}
use Rattle.bw_memory.specs.declared.columnar.ColumnarTable.{ColumnarTable}
use Rattle.bw_memory.specs.declared.table.MemoryTable.{MemoryTable}

-- what the header of a file by columns tells: the numbers of rows and segments, and of the header's
-- own bytes, among others
pub record FileHeader : Type 0 where
  pub layout : Layout
  pub schema : Schema
  pub rows : ℕ
  pub segments : ℕ
  pub head : ℕ

abbrev pub header_of : ColumnarTable → FileHeader
header_of columnar =
    record {
      layout = layout_of (table_in columnar);
      schema = schema_of (table_in columnar);
      rows = (table_in columnar).rows;
      segments = segments_in (table_in columnar);
      head = head_size columnar;
    }

-- a table in memory, or a file by columns: its bytes, if they are known, and its header
pub data ColumnSource : Type 0 where
  in_memory : MemoryTable → ColumnSource
  in_file : Option (List ℕ) → FileHeader → ColumnSource

-- a column of a table is the one in memory, or has in each segment the file's block, if the file's
-- bytes are known
abbrev pub HasColumn : ColumnSource → MemoryTable → ℕ → Type 0
HasColumn (in_memory whole) table column = table ≡ whole
HasColumn (in_file known header) table column = (number : ℕ) → number < header.segments
    → IfSome known (λ bytes. block_in table number column
    ≡ take (block_size header.layout header.schema.columns.items column)
    (drop (block_place header.layout header.schema.columns.items header.head header.segments column
    number) bytes))

-- a column has the block of no rows in each segment: so each row has its minimum
abbrev pub IsBlankColumn : MemoryTable → ℕ → Type 0
IsBlankColumn table column = (number : ℕ) → number < segments_in table → block_in table number column
    ≡ block_bytes (form_of (layout_of table)) (schema_of table).columns.items column []

-- a table has the header of the file, and of each column the file's blocks, or blank ones
pub record IsFileTable (known : Option (List ℕ)) (header : FileHeader) (table : MemoryTable)
    : Type 0 where
  pub layout : layout_of table ≡ header.layout
  pub schema : schema_of table ≡ header.schema
  pub rows : table.rows ≡ header.rows
  pub segments : segments_in table ≡ header.segments
  pub each : (column : ℕ) → column < length header.schema.columns.items
      → HasColumn (in_file known header) table column ⊎ IsBlankColumn table column

-- a table is the one in memory, or one of the file
abbrev pub IsTableOf : ColumnSource → MemoryTable → Type 0
IsTableOf (in_memory whole) table = table ≡ whole
IsTableOf (in_file known header) table = IsFileTable known header table

-- the file has this error in a column, or can't be read, or memory was refused
abbrev pub HasColumnFault : ColumnSource → ℕ → Fault → Type 0
HasColumnFault (in_memory whole) column fault = ⊥
HasColumnFault (in_file known header) column fault = ∥ ((columnar : ColumnarTable)
    × (header_of columnar ≡ header) × IsColumnFault known columnar column fault) ∥₁

-- the columns
abbrev pub columns_of : ColumnSource → List Column
columns_of (in_memory whole) = (schema_of whole).columns.items
columns_of (in_file known header) = header.schema.columns.items

-- A table of this source has the columns before one of a number of which `read` is true.
pub record HasColumnsBefore (source : ColumnSource) (read : ℕ → Bool) (table : MemoryTable)
    (count : ℕ) : Type 0 where
  pub is : IsTableOf source table
  pub columns : (column : ℕ) → column < count → read column ≡ true → HasColumn source table column

-- Some table of this source has all columns of which `read` is true, and these are its rows.
pub record HasRows (source : ColumnSource) (read : ℕ → Bool) (rows : List (List Value))
    : Type 0 where
  pub table : MemoryTable
  pub columns : HasColumnsBefore source read table (length (columns_of source))
  pub are : rows ≡ rows_of table

-- Of the columns of which `read` is true one has this error, and those before it have none.
pub record HasFirstFault (source : ColumnSource) (read : ℕ → Bool) (fault : Fault) : Type 0 where
  pub column : ℕ
  pub within : column < length (columns_of source)
  pub needed : read column ≡ true
  pub table : MemoryTable
  pub before : HasColumnsBefore source read table column
  pub is : HasColumnFault source column fault
