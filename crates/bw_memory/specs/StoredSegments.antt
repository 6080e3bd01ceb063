-- The segments of a table, stored column by column.
use Rattle.std.specs.Prelude.{◌≡◌, ℕ, ◌-◌, ◌*◌, ◌+◌, ◌<◌, ◌≤◌, min, List, length, map, take, drop}
use Rattle.std.specs.List.{range_with_len}
use Rattle.bw_model.specs.declared.column.Column.{Column}
use Rattle.bw_model.specs.Groups.{group_size}
use Rattle.bw_model.specs.Row.{Value}
use Rattle.bw_segment.specs.declared.column_blocks.ColumnBlocks.{ColumnBlocks}
use Rattle.bw_segment.specs.ColumnBlocks.{HasBlocks, StoresBlocks, segment_numbered}
use Rattle.bw_file.specs.declared.layout.Layout.{Layout}
use Rattle.bw_file.specs.declared.segments.AnySegment.{AnySegment}
use Rattle.bw_file.specs.AnySegment.{any_layout, any_meaning}
use Rattle.bw_file.specs.Blocks.{IsSound, form_of, rows_spelled}

-- the number of rows of the segment of a number, in a table of this many rows
abbrev pub rows_numbered : ℕ → ℕ → ℕ
rows_numbered rows number = min group_size (rows - group_size * number)

-- The columns store this many rows in this many segments. Each segment has rows, and its blocks are
-- valid.
pub record StoresSegments (layout : Layout) (columns : List Column) (rows count : ℕ)
    (kept : List ColumnBlocks) : Type 0 where
  pub blocks : HasBlocks (form_of layout) columns count kept
  pub all : rows ≤ group_size * count
  pub nonempty : (number : ℕ) → number < count → group_size * number < rows
  pub sound : (number : ℕ) → number < count
      → IsSound layout columns (rows_numbered rows number) (segment_numbered kept number)

-- the block of a number among blocks of `size` bytes that are back to back
abbrev pub piece_of : List ℕ → ℕ → ℕ → List ℕ
piece_of blocks size number = take size (drop (number * size) blocks)

-- the rows of the segment of a number, and those of each segment
abbrev pub stored_group : Layout → List Column → ℕ → List ColumnBlocks → ℕ → List (List Value)
stored_group layout columns rows kept number =
    rows_spelled layout columns (rows_numbered rows number) (segment_numbered kept number)

unfoldable pub stored_groups : Layout → List Column → ℕ → ℕ → List ColumnBlocks
    → List (List (List Value))
stored_groups layout columns rows count kept =
    map (stored_group layout columns rows kept) (range_with_len 0 count)

-- The blocks of a segment, of these bytes, were appended to those of the segments that the columns
-- stored before.
pub record AddsSegment (layout : Layout) (columns : List Column) (bytes : List ℕ)
    (old new : List ColumnBlocks) : Type 0 where
  pub keep : (count : ℕ) → StoresBlocks (form_of layout) columns count old
      → StoresBlocks (form_of layout) columns (count + 1) new
  pub last : (count : ℕ) → StoresBlocks (form_of layout) columns count old
      → segment_numbered new count ≡ bytes
  pub others : (count number : ℕ) → StoresBlocks (form_of layout) columns count old → number < count
      → segment_numbered new number ≡ segment_numbered old number

-- the bytes are those of a segment that was read
pub record AreBytesOf (segment : AnySegment) (bytes : List ℕ) : Type 0 where
  pub sound : IsSound (any_layout segment) (any_meaning segment).columns
      (length (any_meaning segment).rows) bytes
  pub rows : rows_spelled (any_layout segment) (any_meaning segment).columns
      (length (any_meaning segment).rows) bytes ≡ (any_meaning segment).rows
