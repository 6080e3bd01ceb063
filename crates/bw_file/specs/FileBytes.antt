-- The bytes of a table file: a header, and the segments of the table's rows.
use Rattle.std.specs.Prelude.{◌≡◌, ℕ, ℤ, pos, ◌^◌, ◌≤◌, ◌-ℤ◌, Bool, true, false, ◌&&◌, ◌⊎◌, List}
use Rattle.std.specs.Prelude.{[], ◌∷◌, ◌++◌, length, codes, int_le, int_lt, if◌then◌else◌, ◌==◌}
use Rattle.std.specs.Int.{w16, w32, w64, to_le_bytes, cast_unsigned}
use Rattle.std.specs.List.{flat_map, list_all}
use Rattle.bw_model.specs.declared.column.Column.{Column}
use Rattle.bw_model.specs.declared.schema.Schema.{Schema}
use Rattle.bw_model.specs.Column.{admits_values}
use Rattle.bw_model.specs.Groups.{groups_of}
use Rattle.bw_model.specs.Limits.{most_rows}
use Rattle.bw_model.specs.Row.{Value}
use Rattle.bw_model.specs.Schema.{IsSchema}
use Rattle.bw_model.specs.SchemaText.{schema_shape}
use Rattle.bw_file.specs.declared.layout.Layout.{Layout}
use Rattle.bw_file.specs.declared.layout.Layout.TheVariants.{Planes, Slices}
use Rattle.bw_file.specs.declared.order.FileOrder.{FileOrder}
use Rattle.bw_file.specs.declared.order.FileOrder.TheVariants.{ByRows, ByColumns}
use Rattle.bw_file.specs.Blocks.{segment_bytes}

-- the first eight bytes of a file, by the order of its blocks
unfoldable pub magic : FileOrder → List ℕ
magic ByRows = codes "BWCOLUMN"
magic ByColumns = codes "BWBYCOLS"

-- the byte of a layout
abbrev pub layout_byte : Layout → ℕ
layout_byte Planes = 0
layout_byte Slices = 1

abbrev pub flag_byte : Bool → ℕ
flag_byte false = 0
flag_byte true = 1

-- Numbers are little-endian. The first sixteen bytes are the magic, a byte for the version, one for
-- the layout, the number of columns in two bytes and that of rows in four.
unfoldable pub front_bytes : FileOrder → ℕ → Layout → ℕ → ℕ → List ℕ
front_bytes order version layout columns rows =
    magic order ++ (version ∷ layout_byte layout ∷ []) ++ to_le_bytes w16 columns ++ to_le_bytes w32 rows

-- a name, preceded by a byte for its length
abbrev pub name_bytes : List ℕ → List ℕ
name_bytes name = length name ∷ name

-- a bound in eight bytes, in two's complement
abbrev pub bound_bytes : ℤ → List ℕ
bound_bytes n = to_le_bytes w64 (cast_unsigned w64 n)

-- a column: its name, its bounds, and 1 if it is nullable, else 0
unfoldable pub column_bytes : List ℕ → ℤ → ℤ → Bool → List ℕ
column_bytes name lo hi nullable =
    name_bytes name ++ (bound_bytes lo ++ bound_bytes hi) ++ flag_byte nullable ∷ []

-- the header of a table of `rows` rows
unfoldable pub header_bytes : FileOrder → ℕ → Layout → List ℕ → List Column → ℕ → List ℕ
header_bytes order version layout name columns rows =
    front_bytes order version layout (length columns) rows ++ name_bytes name
    ++ flat_map (λ column. column_bytes column.name column.lo column.hi column.nullable) columns

-- the segments of the rows, in groups of 512
unfoldable pub segments_bytes : Layout → List Column → List (List Value) → List ℕ
segments_bytes layout columns rows = flat_map (segment_bytes layout columns) (groups_of rows)

-- a table as a file of a version
unfoldable pub bytes_of_version : ℕ → Layout → List ℕ → List Column → List (List Value) → List ℕ
bytes_of_version version layout name columns rows =
    header_bytes ByRows version layout name columns (length rows)
    ++ segments_bytes layout columns rows

-- bounds in order, and less than 2^32 apart in version 1, less than 2^63 in version 2
abbrev pub bits_of_version : ℕ → ℕ
bits_of_version version = if version == 1 then 32 else 63

unfoldable pub are_bounds : ℕ → ℤ → ℤ → Bool
are_bounds version lo hi = int_le lo hi && int_lt (hi -ℤ lo) (pos (2 ^ bits_of_version version))

-- version 1 if every column fits it, else version 2
abbrev pub version_for : List Column → ℕ
version_for columns = if list_all (λ column. are_bounds 1 column.lo column.hi) columns then 1 else 2

-- the bytes of a table, and the same table's bytes in version 2
abbrev pub file_bytes : Layout → Schema → List (List Value) → List ℕ
file_bytes layout schema rows =
    bytes_of_version (version_for schema.columns.items) layout schema.name schema.columns.items rows

abbrev pub file_bytes2 : Layout → Schema → List (List Value) → List ℕ
file_bytes2 layout schema rows = bytes_of_version 2 layout schema.name schema.columns.items rows

-- the rows are at most 2^24, and the columns admit them
pub record AreRows (columns : List Column) (rows : List (List Value)) : Type 0 where
  pub within_limit : length rows ≤ most_rows
  pub admitted : list_all (admits_values columns) rows ≡ true

-- the bytes are those of the table of these rows under this schema, in version 1 or 2
pub record IsFileBytes (bytes : List ℕ) (layout : Layout) (schema : Schema)
    (rows : List (List Value)) : Type 0 where
  pub under : IsSchema (schema_shape schema)
  pub admitted : AreRows schema.columns.items rows
  pub text : (bytes ≡ file_bytes layout schema rows) ⊎ (bytes ≡ file_bytes2 layout schema rows)
