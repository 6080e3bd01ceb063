-- Some segments of a file by columns, one after another, and what those before an end spell.
use Rattle.std.specs.Prelude.{◌≡◌, ◌+◌, ◌*◌, ◌/◌, ◌<◌, ◌≤◌, ℕ, Bool, List, [], Option, IfSome, None}
use Rattle.std.specs.Prelude.{false, true, if◌then◌else◌, length, map, max, sum}
use Rattle.std.specs.List.{flat_map, range_with_len}
use Rattle.bw_model.specs.Row.{Value}
use Rattle.bw_segment.specs.Packing.{block_bytes}
use Rattle.bw_file.specs.Blocks.{block_fault, block_size, form_of, rows_spelled}
use Rattle.bw_memory.specs.declared.columnar.ColumnarTable.{ColumnarTable}
use Rattle.bw_memory.specs.declared.segment_window.SegmentWindow.{SegmentWindow}
use Rattle.bw_memory.specs.declared.table.MemoryTable.{MemoryTable}
use Rattle.bw_memory.specs.Columnar.{HasBlock, column_count, table_in}
use Rattle.bw_memory.specs.Columns.{block_in}
use Rattle.bw_memory.specs.MemoryTable.{layout_of, placement_of, schema_of, segments_in}
use Rattle.bw_memory.specs.StoredSegments.{rows_numbered}

-- the table of a window, and the number of segments before it
abbrev pub window_in : SegmentWindow → MemoryTable
window_in window = window.table

abbrev pub first_in : SegmentWindow → ℕ
first_in window = window.first

-- the number of segments before its end
abbrev pub end_of : SegmentWindow → ℕ
end_of window = window.first + segments_in window.table

-- the most segments that it has
abbrev pub most_in : SegmentWindow → ℕ
most_in window = window.most

-- the sum of a number of each of the first `count` columns of which `read` is true
abbrev pub sum_read : (ℕ → Bool) → (ℕ → ℕ) → ℕ → ℕ
sum_read read number count =
    sum (map (λ column. if read column then number column else 0) (range_with_len 0 count))

-- The most segments of a window: as many as have 128 KiB in the columns that are read, or 8 KiB for
-- each of these columns if that is more; and at least one.
abbrev pub most_at_once : ColumnarTable → (ℕ → Bool) → ℕ
most_at_once columnar read =
    let table = table_in columnar in
    let size = sum_read read (block_size (layout_of table) (schema_of table).columns.items)
    (column_count columnar) in
    max (max 131072 (8192 * sum_read read (λ _. 1) (column_count columnar)) / max size 8) 1

-- A table has as many rows in each segment as the file in the segment that many further on.
pub record IsPart (columnar : ColumnarTable) (first : ℕ) (table : MemoryTable) : Type 0 where
  pub layout : layout_of table ≡ layout_of (table_in columnar)
  pub placement : placement_of table ≡ placement_of (table_in columnar)
  pub within : first + segments_in table ≤ segments_in (table_in columnar)
  pub rows : (number : ℕ) → number < segments_in table
      → rows_numbered table.rows number ≡ rows_numbered (table_in columnar).rows (first + number)

-- Of its first `count` columns, those of which `read` is true have the file's blocks, if its bytes
-- are known. Each column of which `read` is false has the block of no rows in each segment.
pub record HasPartsBefore (known : Option (List ℕ)) (columnar : ColumnarTable) (read : ℕ → Bool)
    (first : ℕ) (table : MemoryTable) (count : ℕ) : Type 0 where
  pub part : IsPart columnar first table
  pub blocks : (column : ℕ) → column < count → read column ≡ true → (number : ℕ)
      → number < segments_in table
      → IfSome known (HasBlock columnar column (first + number) (block_in table number column))
  pub blank : (column : ℕ) → column < column_count columnar → read column ≡ false → (number : ℕ)
      → number < segments_in table → block_in table number column
      ≡ block_bytes (form_of (layout_of table)) (schema_of table).columns.items column []

-- a window has the file's segments from its first one on, with the columns that are read
abbrev pub IsWindow : Option (List ℕ) → ColumnarTable → (ℕ → Bool) → SegmentWindow → Type 0
IsWindow known columnar read window =
    HasPartsBefore known columnar read window.first window.table (column_count columnar)

-- Each column has a valid block in the segment of a number. In the columns of which `read` is true it
-- is the file's, if its bytes are known, and in each other one that of no rows.
pub record IsSegmentRead (known : Option (List ℕ)) (columnar : ColumnarTable) (read : ℕ → Bool)
    (number : ℕ) (blocks : ℕ → List ℕ) : Type 0 where
  pub sizes : (column : ℕ) → column < column_count columnar → length (blocks column)
      ≡ block_size (layout_of (table_in columnar)) (schema_of (table_in columnar)).columns.items
      column
  pub valid : (column : ℕ) → column < column_count columnar
      → block_fault (layout_of (table_in columnar)) (schema_of (table_in columnar)).columns.items
      column (rows_numbered (table_in columnar).rows number) (blocks column) ≡ None
  pub there : (column : ℕ) → column < column_count columnar → read column ≡ true
      → IfSome known (HasBlock columnar column number (blocks column))
  pub blank : (column : ℕ) → column < column_count columnar → read column ≡ false → blocks column
      ≡ block_bytes (form_of (layout_of (table_in columnar)))
      (schema_of (table_in columnar)).columns.items column []

-- the rows that a segment's blocks spell
abbrev pub group_spelled : ColumnarTable → (ℕ → ℕ → List ℕ) → ℕ → List (List Value)
group_spelled columnar blocks number =
    rows_spelled (layout_of (table_in columnar)) (schema_of (table_in columnar)).columns.items
    (rows_numbered (table_in columnar).rows number)
    (flat_map (blocks number) (range_with_len 0 (column_count columnar)))

-- these are the groups of rows of the first `count` segments
pub record HasGroups (known : Option (List ℕ)) (columnar : ColumnarTable) (read : ℕ → Bool)
    (count : ℕ) (groups : List (List (List Value))) : Type 0 where
  pub blocks : ℕ → ℕ → List ℕ
  pub are : (number : ℕ) → number < count → IsSegmentRead known columnar read number (blocks number)
  pub is : groups ≡ map (group_spelled columnar blocks) (range_with_len 0 count)
