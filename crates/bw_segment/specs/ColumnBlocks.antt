-- The blocks of a table, stored by columns: those of each column back to back.
use Rattle.std.specs.Prelude.{◌≡◌, ℕ, ◌+◌, ◌*◌, ◌<◌, ◌≤◌, Bool, ◌&&◌, nat_le, nat_lt, List, [], length}
use Rattle.std.specs.Prelude.{map, slice_index, slice_index_or, slice_range}
use Rattle.std.specs.List.{flat_map, range_with_len}
use Rattle.std.specs.Str.{bytes_eq}
use Rattle.bw_model.specs.declared.column.Column.{Column}
use Rattle.bw_segment.specs.declared.column_blocks.ColumnBlocks.{ColumnBlocks}
use Rattle.bw_segment.specs.Packing.{Packing, block_bytes, block_size}

-- the number of bytes of each block of a column, and the bytes of all its blocks
abbrev pub size_kept : List ColumnBlocks → ℕ → ℕ
size_kept kept column = slice_index (map (λ blocks. blocks.size) kept) column

-- from the first byte of a block of a column to that of the next
abbrev pub stride_kept : List ColumnBlocks → ℕ → ℕ
stride_kept kept column = slice_index (map (λ blocks. blocks.stride) kept) column

abbrev pub bytes_kept : List ColumnBlocks → ℕ → List ℕ
bytes_kept kept column = slice_index_or (map (λ blocks. blocks.bytes.items) kept) column []

-- the place at which the block of a segment begins in its column
abbrev pub block_start : List ColumnBlocks → ℕ → ℕ → ℕ
block_start kept number column = number * stride_kept kept column

-- the block of a column in the segment of this number, and all blocks of that segment, in the order
-- of the columns
unfoldable pub block_numbered : List ColumnBlocks → ℕ → ℕ → List ℕ
block_numbered kept number column =
    let start = block_start kept number column in
    slice_range (bytes_kept kept column) start (start + size_kept kept column)

unfoldable pub segment_numbered : List ColumnBlocks → ℕ → List ℕ
segment_numbered kept number = flat_map (block_numbered kept number)
    (range_with_len 0 (length kept))

-- the block of a column is between these two places of that segment's bytes
unfoldable pub stands_numbered : List ColumnBlocks → ℕ → ℕ → ℕ → ℕ → Bool
stands_numbered kept number column start end =
    nat_lt column (length kept)
    && nat_le (block_start kept number column + size_kept kept column)
    (length (bytes_kept kept column))
    && bytes_eq (slice_range (segment_numbered kept number) start end)
    (block_numbered kept number column)

-- each column has a block for each of `count` segments
pub record HasBlocks (packing : Packing) (columns : List Column) (count : ℕ)
    (kept : List ColumnBlocks) : Type 0 where
  pub all : length kept ≡ length columns
  pub sizes : (column : ℕ) → column < length columns → size_kept kept column
      ≡ block_size packing columns column
  pub room : (column : ℕ) → column < length columns → (number : ℕ) → number < count
      → block_start kept number column + block_size packing columns column
      ≤ length (bytes_kept kept column)

-- each column has one block for all segments, that of no rows
pub record AreBlank (packing : Packing) (columns : List Column) (kept : List ColumnBlocks) : Type
    0 where
  pub all : length kept ≡ length columns
  pub sizes : (column : ℕ) → column < length columns → size_kept kept column
      ≡ block_size packing columns column
  pub strides : (column : ℕ) → column < length columns → stride_kept kept column ≡ 0
  pub bytes : (column : ℕ) → column < length columns → bytes_kept kept column
      ≡ block_bytes packing columns column []

-- each column has the blocks of `count` segments, back to back, and no other bytes
pub record StoresBlocks (packing : Packing) (columns : List Column) (count : ℕ)
    (kept : List ColumnBlocks) : Type 0 where
  pub all : length kept ≡ length columns
  pub sizes : (column : ℕ) → column < length columns → size_kept kept column
      ≡ block_size packing columns column
  pub strides : (column : ℕ) → column < length columns → stride_kept kept column
      ≡ block_size packing columns column
  pub long : (column : ℕ) → column < length columns
      → length (bytes_kept kept column) ≡ count * block_size packing columns column
