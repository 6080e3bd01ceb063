-- Ranges of the values that the columns of a table have in groups of segments.
use Rattle.std.specs.Prelude.{◌≡◌, ◌==◌, ◌<◌, ◌/◌, ℕ, Bool, List, [], IsTrue, Vec, length, map}
use Rattle.std.specs.Prelude.{slice_index_or}
use Rattle.std.specs.declared.alloc.Global.{Global}
use Rattle.std.specs.List.{list_all, list_any}
use Rattle.bw_model.specs.Row.{Value, value_in}
use Rattle.bw_ranges.specs.declared.column_range.ColumnRange.{ColumnRange}
use Rattle.bw_ranges.specs.ColumnRange.{has_value, only_null, range_in}
use Rattle.bw_memory.specs.MemoryTable.{meaning_numbered, segments_in}
use Rattle.bw_memory.specs.declared.table.MemoryTable.{MemoryTable}

-- in each of these rows a column's value is in the range
abbrev pub HasRange : ColumnRange → ℕ → List (List Value) → Type 0
HasRange range column rows =
    IsTrue (list_all (λ row. has_value range (value_in row column)) rows)

-- each value of these rows is in its column's range
abbrev pub AreWithin : List ColumnRange → List (List Value) → Type 0
AreWithin ranges rows = (column : ℕ) → HasRange (range_in ranges column) column rows

-- The ranges are those of a column's values in the first groups of so many segments, one for each: in
-- each row of a segment of the group its value is in the range.
abbrev pub AreRangesOf : ℕ → MemoryTable → ℕ → List ColumnRange → Type 0
AreRangesOf size table column ranges = (number : ℕ) → number < segments_in table
    → number / size < length ranges
    → HasRange (slice_index_or ranges (number / size) only_null) column
    (meaning_numbered table number).rows

-- the ranges that are kept of a column, of which there may be none
abbrev pub ranges_kept : List (Vec ColumnRange Global) → ℕ → List ColumnRange
ranges_kept kept column = slice_index_or (map (λ ranges. ranges.items) kept) column []

-- they are those of each column
abbrev pub HaveRanges : ℕ → MemoryTable → List (Vec ColumnRange Global) → Type 0
HaveRanges size table kept = (column : ℕ) → AreRangesOf size table column (ranges_kept kept column)

-- a column's value is in the range in each row of a table, or of a group of so many of its segments
abbrev pub HasRangeInTable : MemoryTable → ℕ → ColumnRange → Type 0
HasRangeInTable table column range = (number : ℕ) → number < segments_in table
    → HasRange range column (meaning_numbered table number).rows

abbrev pub HasRangeInGroup : ℕ → MemoryTable → ℕ → ℕ → ColumnRange → Type 0
HasRangeInGroup size table group column range = (number : ℕ) → number < segments_in table
    → number / size ≡ group → HasRange range column (meaning_numbered table number).rows

-- the column is one of these
abbrev pub is_named : List ℕ → ℕ → Bool
is_named columns column = list_any (λ named. named == column) columns
