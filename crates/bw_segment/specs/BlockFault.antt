-- The first error of a column's block, by its number. 308: a bit of a padding row is 1. 307: a null
-- row has a code that isn't 0. 306: a code is above the column's maximum.
use Rattle.std.specs.Prelude.{◌≡◌, ℕ, zero, suc, ◌+◌, ◌-◌, ◌<◌, ◌≤◌, Bool, true, false, not, ◌&&◌}
use Rattle.std.specs.Prelude.{◌||◌, ◌==◌, nat_lt, List, length, slice_index, slice_index_or, Option}
use Rattle.std.specs.Prelude.{Some, None, if◌then◌else◌}
use Rattle.bw_model.specs.FaultTable.{CODE_TOO_LARGE, NULL_WITH_CODE, PADDING}
use Rattle.bw_model.specs.declared.column.Column.{Column}
use Rattle.bw_model.specs.Code.{span_at}
use Rattle.bw_model.specs.Groups.{group_size}
use Rattle.bw_segment.specs.Packing.{Packing, bytes_before, block_at, block_nulls, block_codes}

-- the first error, or else the second
abbrev pub or_else : Option ℕ → Option ℕ → Option ℕ
or_else None other = other
or_else (Some fault) other = Some fault

-- the error of a padding row's null bit and code
abbrev pub padding_fault : Bool → ℕ → Option ℕ
padding_fault null code = if null || not (code == 0) then Some PADDING else None

-- the error of a row's null bit and code, in a column with this maximum code
abbrev pub row_fault : ℕ → Bool → ℕ → Option ℕ
row_fault span null code =
    if null && not (code == 0) then Some NULL_WITH_CODE
    else (if nat_lt span code then Some CODE_TOO_LARGE else None)

-- the first error among the first rows: that of the rows before the last one, or else the last
-- one's
abbrev pub first_fault : (ℕ → Option ℕ) → ℕ → Option ℕ
first_fault fault zero = None
first_fault fault (suc row) = or_else (first_fault fault row) (fault row)

-- the first error of 512 lanes, of which `count` are rows: that of the padding, or else of the rows
unfoldable pub lanes_fault : ℕ → ℕ → List Bool → List ℕ → Option ℕ
lanes_fault span count nulls codes =
    or_else (first_fault (λ row. padding_fault (slice_index_or nulls (count + row) false)
    (slice_index codes (count + row))) (group_size - count))
    (first_fault (λ row. row_fault span (slice_index_or nulls row false) (slice_index codes row))
    count)

-- the first error of a column's block
unfoldable pub block_fault : Packing → List Column → ℕ → ℕ → List ℕ → Option ℕ
block_fault packing columns column count block =
    lanes_fault (span_at columns column) count (block_nulls columns column block)
    (block_codes packing columns column block)

-- In padding and null lanes, the bit states whether the code isn't 0.
pub record TellsCodes (count : ℕ) (nulls : List Bool) (codes : List ℕ)
    (used : List Bool) : Type 0 where
  pub padding : (row : ℕ) → count ≤ row → row < group_size → slice_index_or used row false
      ≡ not (slice_index codes row == 0)
  pub null : (row : ℕ) → row < group_size → slice_index_or nulls row false ≡ true
      → slice_index_or used row false
      ≡ not (slice_index codes row == 0)

-- The bytes are the first `blocks` blocks of a segment of `count` rows: as long, and each valid.
pub record AreSound (packing : Packing) (columns : List Column) (count blocks : ℕ)
    (bytes : List ℕ) : Type 0 where
  pub size : length bytes ≡ bytes_before packing columns blocks
  pub without : (column : ℕ) → column < blocks → block_fault packing columns column count
      (block_at packing columns column bytes) ≡ None

-- The bytes are those of a segment of this many rows: each block is valid.
abbrev pub IsSound : Packing → List Column → ℕ → List ℕ → Type 0
IsSound packing columns count bytes = AreSound packing columns count (length columns) bytes
