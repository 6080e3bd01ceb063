-- A table of a file by columns, of which some columns have been read.
use Rattle.std.specs.Prelude.{◌≡◌, ◌≢◌, ◌⊎◌, ◌*◌, ◌<◌, ◌≤◌, ℕ, Bool, List, [], Option, None, IfSome, Ok, Err, true, false, drop}
use Rattle.std.specs.Prelude.{length, slice_index_or, take}
use Rattle.bw_model.specs.declared.fault.Fault.{Fault}
use Rattle.bw_model.specs.Fault.{at_byte, is_memory}
use Rattle.bw_model.specs.FaultTable.{BYTES_AFTER_END, TRUNCATED}
use Rattle.bw_model.specs.SchemaText.{schema_shape}
use Rattle.bw_io.specs.Source.{is_input_fault}
use Rattle.bw_file.specs.declared.order.FileOrder.TheVariants.{ByColumns}
use Rattle.bw_segment.specs.Packing.{block_bytes}
use Rattle.bw_file.specs.Blocks.{block_fault, block_size, form_of}
use Rattle.bw_file.specs.Columnar.{block_place, columnar_length}
use Rattle.bw_file.specs.Reading.{tail}
use Rattle.bw_file.specs.TableReading.{HeaderShape, header_in}
use Rattle.bw_memory.specs.declared.columnar.ColumnarTable.{ColumnarTable}
use Rattle.bw_memory.specs.declared.table.MemoryTable.{MemoryTable}
use Rattle.bw_memory.specs.Columns.{IsFirstFault, block_in}
use Rattle.bw_memory.specs.Filling.{IsFillFault}
use Rattle.bw_memory.specs.MemoryTable.{layout_of, schema_of, segments_in}
use Rattle.bw_memory.specs.StoredSegments.{piece_of, rows_numbered}

-- the table, in which a column that wasn't read has its minimum in each row
abbrev pub table_in : ColumnarTable → MemoryTable
table_in columnar = columnar.table

-- the number of bytes of the header
abbrev pub head_size : ColumnarTable → ℕ
head_size columnar = columnar.head

-- the header that the file states
abbrev pub columnar_header : ℕ → ColumnarTable → HeaderShape
columnar_header version columnar =
    record {
      version = version;
      layout = layout_of columnar.table;
      rows = columnar.table.rows;
      schema = schema_shape (schema_of columnar.table);
    }

-- the number of bytes that the header demands
abbrev pub columnar_size : ColumnarTable → ℕ
columnar_size columnar = columnar_length (layout_of columnar.table)
    (schema_of columnar.table).columns.items columnar.head (segments_in columnar.table)

-- the bytes begin with this header
abbrev pub StatesHeader : ColumnarTable → List ℕ → Type 0
StatesHeader columnar bytes = (version : ℕ)
    × (header_in ByColumns (tail 0 bytes) ≡ Ok (
      columnar_header version columnar,
      tail (head_size columnar) (drop (head_size columnar) bytes),
    ))

-- and are as many as it demands
pub record StatesTable (columnar : ColumnarTable) (bytes : List ℕ) : Type 0 where
  pub header : StatesHeader columnar bytes
  pub size : length bytes ≡ columnar_length (layout_of columnar.table)
      (schema_of columnar.table).columns.items (head_size columnar) (segments_in columnar.table)

-- where a column's block in the segment of a number begins in the file
abbrev pub place_in : ColumnarTable → ℕ → ℕ → ℕ
place_in columnar column number =
    block_place (layout_of columnar.table) (schema_of columnar.table).columns.items
    (head_size columnar) (segments_in columnar.table) column number

-- the bytes have this block of a column in the segment of a number
abbrev pub HasBlock : ColumnarTable → ℕ → ℕ → List ℕ → List ℕ → Type 0
HasBlock columnar column number block bytes =
    block ≡ take (block_size (layout_of columnar.table) (schema_of columnar.table).columns.items
    column) (drop (place_in columnar column number) bytes)

-- the same table, as far as its header tells
pub record SameHeader (old new : ColumnarTable) : Type 0 where
  pub layout : layout_of (table_in new) ≡ layout_of (table_in old)
  pub schema : schema_of (table_in new) ≡ schema_of (table_in old)
  pub rows : (table_in new).rows ≡ (table_in old).rows
  pub segments : segments_in (table_in new) ≡ segments_in (table_in old)
  pub head : head_size new ≡ head_size old

-- a column was read: its blocks are those of the file, if its bytes are known, and those of the
-- others are as they were
pub record HasReadColumn (known : Option (List ℕ)) (old new : ColumnarTable) (column : ℕ) : Type
    0 where
  pub same : SameHeader old new
  pub others : (other : ℕ) → other ≢ column → (number : ℕ)
      → block_in (table_in new) number other ≡ block_in (table_in old) number other
  pub blocks : (number : ℕ) → number < segments_in (table_in old)
      → IfSome known (HasBlock old column number (block_in (table_in new) number column))

-- Of the first `count` columns, those of which `read` is true have the file's blocks, if its bytes
-- are known. Each other column has the block of no rows in each segment: so each row has its minimum.
pub record HasColumns (known : Option (List ℕ)) (columnar : ColumnarTable) (read : ℕ → Bool)
    (count : ℕ) : Type 0 where
  pub blocks : (column : ℕ) → column < count → read column ≡ true → (number : ℕ)
      → number < segments_in (table_in columnar)
      → IfSome known (HasBlock columnar column number (block_in (table_in columnar) number column))
  pub blank : (column : ℕ) → column < length (schema_of (table_in columnar)).columns.items
      → (count ≤ column) ⊎ (read column ≡ false) → (number : ℕ)
      → number < segments_in (table_in columnar) → block_in (table_in columnar) number column
      ≡ block_bytes (form_of (layout_of (table_in columnar)))
      (schema_of (table_in columnar)).columns.items column []

-- A column has an error: that of its first block that has one, each block being the file's if its
-- bytes are known; the device ended too early, or a read failed; or out of memory.
pub record IsBlockFault (known : Option (List ℕ)) (columnar : ColumnarTable) (column : ℕ)
    (fault : Fault) : Type 0 where
  pub blocks : ℕ → List ℕ
  pub are : (number : ℕ) → number < segments_in (table_in columnar)
      → IfSome known (HasBlock columnar column number (blocks number))
  pub first : IsFirstFault (table_in columnar) column blocks (place_in columnar column 0) fault

abbrev pub IsColumnFault : Option (List ℕ) → ColumnarTable → ℕ → Fault → Type 0
IsColumnFault known columnar column fault =
    IsBlockFault known columnar column fault ⊎ (is_memory fault ≡ true)
    ⊎ IsFillFault known (place_in columnar column 0) (segments_in (table_in columnar)
    * block_size (layout_of (table_in columnar)) (schema_of (table_in columnar)).columns.items column)
    fault

-- these blocks, back to back, are valid ones of a column in the first `count` segments
abbrev pub AreValidBlocks : ColumnarTable → ℕ → ℕ → List ℕ → Type 0
AreValidBlocks columnar column count blocks = (number : ℕ) → number < count
    → block_fault (layout_of (table_in columnar)) (schema_of (table_in columnar)).columns.items column
    (rows_numbered (table_in columnar).rows number) (piece_of blocks
    (block_size (layout_of (table_in columnar)) (schema_of (table_in columnar)).columns.items column)
    number) ≡ None

-- they are that many, and those of the file, if its bytes are known
pub record AreFirstBlocks (known : Option (List ℕ)) (columnar : ColumnarTable) (column count : ℕ)
    (blocks : List ℕ) : Type 0 where
  pub long : length blocks ≡ count
      * block_size (layout_of (table_in columnar)) (schema_of (table_in columnar)).columns.items column
  pub valid : AreValidBlocks columnar column count blocks
  pub are : (number : ℕ) → number < count → IfSome known (HasBlock columnar column number
      (piece_of blocks (block_size (layout_of (table_in columnar))
      (schema_of (table_in columnar)).columns.items column) number))

-- they are those of all segments
abbrev pub AreFileBlocks : Option (List ℕ) → ColumnarTable → ℕ → List ℕ → Type 0
AreFileBlocks known columnar column blocks =
    AreFirstBlocks known columnar column (segments_in (table_in columnar)) blocks

-- the number of columns
abbrev pub column_count : ColumnarTable → ℕ
column_count columnar = length (schema_of (table_in columnar)).columns.items

-- a column is one of those that are wanted
abbrev pub is_wanted : List Bool → ℕ → Bool
is_wanted wanted column = slice_index_or wanted column false

-- the columns before one of a number that are to be read were read, and it has an error
pub record HasDamage (known : Option (List ℕ)) (read : ℕ → Bool) (columnar : ColumnarTable)
    (fault : Fault) : Type 0 where
  pub column : ℕ
  pub within : column < column_count columnar
  pub needed : read column ≡ true
  pub before : HasColumns known columnar read column
  pub is : IsColumnFault known columnar column fault

-- a file by columns was opened
abbrev pub IsOpened : Option (List ℕ) → ColumnarTable → Type 0
IsOpened known columnar = IfSome known (StatesTable columnar)

-- The first bytes of a file have an error of the header; or they state a table, and the file has
-- another length.
pub data HasOpenFault (bytes : List ℕ) : Fault → Type 0 where
  header : {fault : Fault} → header_in ByColumns (tail 0 (take 20000 bytes)) ≡ Err fault
      → HasOpenFault bytes fault
  shorter : (columnar : ColumnarTable) → StatesHeader columnar bytes
      → length bytes < columnar_length (layout_of (table_in columnar))
      (schema_of (table_in columnar)).columns.items (head_size columnar)
      (segments_in (table_in columnar)) → HasOpenFault bytes (at_byte TRUNCATED (length bytes))
  longer : (columnar : ColumnarTable) → StatesHeader columnar bytes
      → columnar_length (layout_of (table_in columnar))
      (schema_of (table_in columnar)).columns.items (head_size columnar)
      (segments_in (table_in columnar)) < length bytes
      → HasOpenFault bytes (at_byte BYTES_AFTER_END (columnar_length (layout_of (table_in columnar))
      (schema_of (table_in columnar)).columns.items (head_size columnar)
      (segments_in (table_in columnar))))

-- what opening a file may fail by
abbrev pub IsOpenFault : Option (List ℕ) → Fault → Type 0
IsOpenFault known fault = (is_input_fault fault ≡ true)
    ⊎ IfSome known (λ bytes. HasOpenFault bytes fault)

-- the error of a file by columns that couldn't be opened, or of a column that was to be read
abbrev pub IsReadFault : Option (List ℕ) → (ℕ → Bool) → Fault → Type 0
IsReadFault known read fault = IsOpenFault known fault
    ⊎ ((columnar : ColumnarTable) × IsOpened known columnar × HasDamage known read columnar fault)
