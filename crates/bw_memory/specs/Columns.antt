-- The blocks of one column of a table in memory.
use Rattle.std.specs.Prelude.{◌≡◌, ◌⊎◌, ◌+◌, ◌*◌, ◌<◌, ℕ, List, [], Option, Some, None, IfSome, true}
use Rattle.std.specs.Prelude.{length}
use Rattle.bw_model.specs.declared.fault.Fault.{Fault}
use Rattle.bw_model.specs.Fault.{at_byte, is_memory}
use Rattle.bw_segment.specs.ColumnBlocks.{block_numbered}
use Rattle.bw_segment.specs.Packing.{block_bytes}
use Rattle.bw_file.specs.Blocks.{block_fault, block_size, form_of}
use Rattle.bw_file.specs.TableReading.{fault_place}
use Rattle.bw_memory.specs.declared.table.MemoryTable.{MemoryTable}
use Rattle.bw_memory.specs.Filling.{AreBytesAt, IsFillFault}
use Rattle.bw_memory.specs.MemoryTable.{layout_of, schema_of, segments_in}
use Rattle.bw_memory.specs.StoredSegments.{piece_of, rows_numbered}

-- the block of a column in the segment of a number
abbrev pub block_in : MemoryTable → ℕ → ℕ → List ℕ
block_in table number column = block_numbered table.columns.items number column

-- each column has the block of no rows in each segment
abbrev pub IsBlank : MemoryTable → Type 0
IsBlank table = (column : ℕ) → column < length (schema_of table).columns.items → (number : ℕ)
    → number < segments_in table → block_in table number column
    ≡ block_bytes (form_of (layout_of table)) (schema_of table).columns.items column []

-- the first error of a column's blocks, the first of which is at this place of a file
pub record IsFirstFault (table : MemoryTable) (column : ℕ) (blocks : ℕ → List ℕ) (at : ℕ)
    (fault : Fault) : Type 0 where
  pub number : ℕ
  pub within : number < segments_in table
  pub before : (earlier : ℕ) → earlier < number
      → block_fault (layout_of table) (schema_of table).columns.items column
      (rows_numbered table.rows earlier) (blocks earlier) ≡ None
  pub code : ℕ
  pub here : block_fault (layout_of table) (schema_of table).columns.items column
      (rows_numbered table.rows number) (blocks number) ≡ Some code
  pub is : fault ≡ at_byte code (at
      + number * block_size (layout_of table) (schema_of table).columns.items column
      + fault_place (layout_of table) (schema_of table).columns.items (rows_numbered table.rows number)
      column (blocks number) code)

-- the blocks of a column from a place of a device on, if its bytes are known, have a first error
pub record IsDamagedAt (known : Option (List ℕ)) (table : MemoryTable) (column at : ℕ)
    (fault : Fault) : Type 0 where
  pub bytes : List ℕ
  pub long : length bytes ≡ segments_in table
      * block_size (layout_of table) (schema_of table).columns.items column
  pub there : IfSome known (AreBytesAt at bytes)
  pub first : IsFirstFault table column (piece_of bytes
      (block_size (layout_of table) (schema_of table).columns.items column)) at fault

-- They have an error; the device ended too early, or a read failed; or out of memory.
abbrev pub IsBlocksFault : Option (List ℕ) → MemoryTable → ℕ → ℕ → Fault → Type 0
IsBlocksFault known table column at fault =
    IsDamagedAt known table column at fault ⊎ (is_memory fault ≡ true)
    ⊎ IsFillFault known at (segments_in table
    * block_size (layout_of table) (schema_of table).columns.items column) fault
