-- Segments as bytes: one block for each column. A block has the column's null plane, in 64 bytes,
-- if it is nullable, and then its codes, in one of two layouts.
use Rattle.std.specs.Prelude.{◌≡◌, ℕ, zero, suc, ◌+◌, ◌<◌, ◌^◌, Bool, false, List, [], ◌++◌, length}
use Rattle.std.specs.Prelude.{map, take, drop, replicate, slice_index, slice_index_or, Some, None}
use Rattle.std.specs.Prelude.{if◌then◌else◌, All}
use Rattle.std.specs.List.{flat_map, range_with_len}
use Rattle.bw_lanes.specs.Lanes.{bytes_of_lanes, lanes_of_bytes}
use Rattle.bw_model.specs.declared.column.Column.{Column}
use Rattle.bw_model.specs.declared.schema.Schema.{Schema}
use Rattle.bw_model.specs.Row.{Value}
use Rattle.bw_model.specs.Code.{width_at, value_at}
use Rattle.bw_model.specs.Groups.{group_size}
use Rattle.bw_model.specs.Variable.{is_nullable}
use Rattle.bw_segment.specs.Meaning.{Meaning, null_bits, stored_codes}

-- How the codes of 512 lanes are packed, by the number of their binary digits: the number of their
-- bytes, the bytes of codes, and the codes that bytes spell.
pub record Packing : Type 0 where
  pub size : ℕ → ℕ
  pub bytes : ℕ → List ℕ → List ℕ
  pub codes : ℕ → List ℕ → List ℕ

-- The bytes of codes spell these codes, and codes that bytes spell have these bytes.
pub record IsPacking (packing : Packing) : Type 0 where
  pub bytes_length : (width : ℕ) (codes : List ℕ) → length codes ≡ group_size
      → length (packing.bytes width codes)
      ≡ packing.size width
  pub codes_length : (width : ℕ) (bytes : List ℕ) → length bytes ≡ packing.size width
      → length (packing.codes width bytes) ≡ group_size
  pub text_spells : (width : ℕ) (codes : List ℕ) → length codes ≡ group_size
      → All (λ code. code < 2 ^ width) codes
      → packing.codes width (packing.bytes width codes) ≡ codes
  pub codes_spelled : (width : ℕ) (bytes : List ℕ) → length bytes ≡ packing.size width
      → All (λ byte. byte < 2 ^ 8) bytes → packing.bytes width (packing.codes width bytes) ≡ bytes

-- the number of bytes of a column's null plane
abbrev pub null_size : List Column → ℕ → ℕ
null_size columns column = if is_nullable columns column then 64 else 0

-- the number of bytes of a column's block, and of those before it
abbrev pub block_size : Packing → List Column → ℕ → ℕ
block_size packing columns column = null_size columns column + packing.size
    (width_at columns column)

abbrev pub bytes_before : Packing → List Column → ℕ → ℕ
bytes_before packing columns zero = 0
bytes_before packing columns (suc column) = bytes_before packing columns column
    + block_size packing columns column

-- the number of bytes of a segment
abbrev pub segment_size : Packing → List Column → ℕ
segment_size packing columns = bytes_before packing columns (length columns)

-- the block of a column of these rows, which are at most 512
unfoldable pub block_bytes : Packing → List Column → ℕ → List (List Value) → List ℕ
block_bytes packing columns column rows =
    (if is_nullable columns column then bytes_of_lanes (null_bits rows column) else [])
    ++ packing.bytes (width_at columns column) (stored_codes columns rows column)

-- the bytes of these rows, which are at most 512: the blocks of the columns, in order
unfoldable pub segment_bytes : Packing → List Column → List (List Value) → List ℕ
segment_bytes packing columns rows = flat_map (λ column. block_bytes packing columns column rows)
    (range_with_len 0 (length columns))

-- the block of a column among the bytes of a segment
abbrev pub block_at : Packing → List Column → ℕ → List ℕ → List ℕ
block_at packing columns column bytes = take (block_size packing columns column)
    (drop (bytes_before packing columns column) bytes)

-- the null bits of the 512 lanes of a block, and their codes
unfoldable pub block_nulls : List Column → ℕ → List ℕ → List Bool
block_nulls columns column block = if is_nullable columns column then lanes_of_bytes
    (take 64 block) else replicate group_size false

unfoldable pub block_codes : Packing → List Column → ℕ → List ℕ → List ℕ
block_codes packing columns column block =
    packing.codes (width_at columns column) (drop (null_size columns column) block)

-- the value of a null bit and a code
abbrev pub value_held : List Column → ℕ → Bool → ℕ → Value
value_held columns column null code = if null then None else Some (value_at columns column code)

-- the value of a row in a block of a column
abbrev pub value_in_block : Packing → List Column → ℕ → List ℕ → ℕ → Value
value_in_block packing columns column block row =
    value_held columns column (slice_index_or (block_nulls columns column block) row false)
    (slice_index (block_codes packing columns column block) row)

-- this many rows, with the values that the blocks among these bytes spell
unfoldable pub rows_spelled : Packing → List Column → ℕ → List ℕ → List (List Value)
rows_spelled packing columns count bytes =
    map (λ row. map (λ column. value_in_block packing columns column
    (block_at packing columns column bytes) row)
    (range_with_len 0 (length columns))) (range_with_len 0 count)

-- the meaning of this many rows, spelled by bytes
abbrev pub meaning_spelled : Packing → Schema → ℕ → List ℕ → Meaning
meaning_spelled packing schema count bytes =
    record {
      name = schema.name;
      columns = schema.columns.items;
      rows = rows_spelled packing schema.columns.items count bytes;
    }
