-- A file by columns: a header, then for each column its blocks in all segments, and nothing else.
use Rattle.std.specs.Prelude.{◌≡◌, ℕ, ◌+◌, ◌*◌, List, ◌++◌, length, take, drop}
use Rattle.std.specs.List.{flat_map, range_with_len}
use Rattle.bw_model.specs.declared.column.Column.{Column}
use Rattle.bw_model.specs.declared.schema.Schema.{Schema}
use Rattle.bw_model.specs.Groups.{groups_of}
use Rattle.bw_model.specs.Row.{Value}
use Rattle.bw_model.specs.Schema.{IsSchema}
use Rattle.bw_model.specs.SchemaText.{schema_shape}
use Rattle.bw_segment.specs.Packing.{block_bytes}
use Rattle.bw_file.specs.declared.layout.Layout.{Layout}
use Rattle.bw_file.specs.declared.order.FileOrder.{FileOrder}
use Rattle.bw_file.specs.declared.order.FileOrder.TheVariants.{ByRows, ByColumns}
use Rattle.bw_file.specs.Blocks.{block_size, bytes_before, form_of, segment_size}
use Rattle.bw_file.specs.FileBytes.{AreRows, file_bytes, header_bytes}

-- the blocks of a column, one for each group of 512 rows
unfoldable pub column_blocks : Layout → List Column → List (List Value) → ℕ → List ℕ
column_blocks layout columns rows column =
    flat_map (λ group. block_bytes (form_of layout) columns column group) (groups_of rows)

-- the file by columns of a table; its version is always 2
unfoldable pub columnar_bytes : Layout → Schema → List (List Value) → List ℕ
columnar_bytes layout schema rows =
    header_bytes ByColumns 2 layout schema.name schema.columns.items (length rows)
    ++ flat_map (column_blocks layout schema.columns.items rows)
    (range_with_len 0 (length schema.columns.items))

-- a table as a file, by rows or by columns
abbrev pub bytes_in_order : FileOrder → Layout → Schema → List (List Value) → List ℕ
bytes_in_order ByRows = file_bytes
bytes_in_order ByColumns = columnar_bytes

-- the bytes are the file by columns of these rows under this schema
pub record IsColumnarFile (bytes : List ℕ) (layout : Layout) (schema : Schema)
    (rows : List (List Value)) : Type 0 where
  pub under : IsSchema (schema_shape schema)
  pub admitted : AreRows schema.columns.items rows
  pub text : bytes ≡ columnar_bytes layout schema rows

-- where a column's block in the segment of a number begins, among `segments` segments after a
-- header of `head` bytes
abbrev pub block_place : Layout → List Column → ℕ → ℕ → ℕ → ℕ → ℕ
block_place layout columns head segments column number =
    head + segments * bytes_before layout columns column + number * block_size layout columns column

-- the number of bytes of the file
abbrev pub columnar_length : Layout → List Column → ℕ → ℕ → ℕ
columnar_length layout columns head segments = head + segments * segment_size layout columns

-- of pieces of `size` bytes, the first of which begins at `at`, the first `count` bytes of one
abbrev pub piece_from : List ℕ → ℕ → ℕ → ℕ → ℕ → List ℕ
piece_from bytes at size count number = take count (drop (at + number * size) bytes)
