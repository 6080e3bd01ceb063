-- The table that the bytes of a file spell, or their first error: field by field, then block by
-- block.
use Rattle.std.specs.Prelude.{◌≡◌, ℕ, ℤ, zero, suc, ◌+◌, ◌-◌, ◌*◌, ◌%◌, min, Bool, true, false}
use Rattle.std.specs.Prelude.{◌&&◌, ◌||◌, not, List, [], ◌∷◌, ◌++◌, length, take, drop, slice_index}
use Rattle.std.specs.Prelude.{Option, Some, None, Result, Ok, Err, if◌then◌else◌, ◌==◌, nat_lt}
use Rattle.std.specs.Prelude.{nat_le, IsTrue}
use Rattle.std.specs.Int.{w16, w32, w64, bit_at, from_le_bytes, cast_signed}
use Rattle.std.specs.List.{list_any, range_with_len}
use Rattle.std.specs.Str.{bytes_eq}
use Rattle.bw_model.specs.FaultTable.{MAGIC, VERSION, LAYOUT, HEADER, PADDING, BYTES_AFTER_END}
use Rattle.bw_model.specs.FaultTable.{ROW_COUNT}
use Rattle.bw_model.specs.declared.column.Column.{Column}
use Rattle.bw_model.specs.declared.fault.Fault.{Fault}
use Rattle.bw_model.specs.declared.schema.Schema.{Schema}
use Rattle.bw_model.specs.Fault.{at_byte, refused_if}
use Rattle.bw_model.specs.Groups.{group_size, together}
use Rattle.bw_model.specs.Limits.{most_columns, most_rows}
use Rattle.bw_model.specs.Name.{is_name}
use Rattle.bw_model.specs.Row.{Value}
use Rattle.bw_model.specs.SchemaText.{ColumnShape, SchemaShape, shape, shape_names, schema_shape}
use Rattle.bw_text.specs.Text.{same_text}
use Rattle.bw_io.specs.Source.{is_input_fault}
use Rattle.bw_segment.specs.Packing.{null_size}
use Rattle.bw_file.specs.declared.fields.Bounds.{Bounds}
use Rattle.bw_file.specs.declared.layout.Layout.{Layout}
use Rattle.bw_file.specs.declared.layout.Layout.TheVariants.{Planes, Slices}
use Rattle.bw_file.specs.declared.order.FileOrder.{FileOrder}
use Rattle.bw_file.specs.declared.order.FileOrder.TheVariants.{ByRows, ByColumns}
use Rattle.bw_file.specs.Blocks.{block_size, block_fault, rows_spelled}
use Rattle.bw_file.specs.FileBytes.{magic, are_bounds}
use Rattle.bw_file.specs.Reading.{Tail, tail, Reading, ◌>>=◌, give, field, parsed_at, read_field}

-- the magic; any other is 301
unfoldable pub parse_magic : FileOrder → List ℕ → Result (Unit {0}) ℕ
parse_magic order bytes = if bytes_eq bytes (magic order) then Ok tt else Err MAGIC

-- the version, which is 1 or 2, and 2 in a file by columns; any other is 302
abbrev pub is_version : FileOrder → ℕ → Bool
is_version ByRows version = (version == 1) || (version == 2)
is_version ByColumns version = version == 2

unfoldable pub parse_version : FileOrder → List ℕ → Result ℕ ℕ
parse_version order bytes =
    let version = slice_index bytes 0 in
    if is_version order version then Ok version else Err VERSION

-- the layout; an unknown one is 303
unfoldable pub parse_layout : List ℕ → Result Layout ℕ
parse_layout bytes =
    if slice_index bytes 0 == 0 then Ok Planes
    else (if slice_index bytes 0 == 1 then Ok Slices else Err LAYOUT)

-- the number of columns; none, or more than 64, is 304
unfoldable pub parse_count : List ℕ → Result ℕ ℕ
parse_count bytes =
    let count = from_le_bytes w16 bytes in
    if (count == 0) || nat_lt most_columns count then Err HEADER else Ok count

-- the number of rows; more than 2^24 is 310
unfoldable pub parse_row_count : List ℕ → Result ℕ ℕ
parse_row_count bytes =
    let rows = from_le_bytes w32 bytes in if nat_lt most_rows rows then Err ROW_COUNT else Ok rows

-- the bounds of a column, in a file of this version; if they are out of order or too far apart, 304
abbrev pub bound_in : List ℕ → ℤ
bound_in bytes = cast_signed w64 (from_le_bytes w64 bytes)

unfoldable pub parse_bounds : ℕ → List ℕ → Result Bounds ℕ
parse_bounds version bytes =
    let lo = bound_in (take 8 bytes) in
    let hi = bound_in (take 8 (drop 8 bytes)) in
    if are_bounds version lo hi then Ok (record { lo = lo; hi = hi }) else Err HEADER

-- whether a column is nullable; a byte other than 0 and 1 is 304
unfoldable pub parse_nullable : List ℕ → Result Bool ℕ
parse_nullable bytes =
    if slice_index bytes 0 == 0 then Ok false
    else (if slice_index bytes 0 == 1 then Ok true else Err HEADER)

-- a name that follows these; an invalid one, or one of these, ignoring case, is 304
unfoldable pub parse_name : List (List ℕ) → List ℕ → Result (List ℕ) ℕ
parse_name before text =
    if not (is_name text) || list_any (λ name. same_text name text) before then Err HEADER
    else Ok text

-- a name, preceded by a byte for its length, at which its error is once all its bytes are there
unfoldable pub name : List (List ℕ) → Reading (List ℕ)
name before t =
    (field 1 >>= λ size.
    field (slice_index size 0) >>= λ text.
    parsed_at t.at (parse_name before text)) t

-- a column that follows others of these names: its name, its bounds, and whether it is nullable
unfoldable pub column : ℕ → List (List ℕ) → Reading ColumnShape
column version before =
    name before >>= λ text.
    read_field 16 (parse_bounds version) >>= λ bounds.
    read_field 1 parse_nullable >>= λ nullable.
    give (shape text bounds.lo bounds.hi nullable)

-- `count` columns more
unfoldable pub columns : ℕ → List ColumnShape → ℕ → Reading (List ColumnShape)
columns version before zero = give before
columns version before (suc count) =
    column version (shape_names before) >>= λ next. columns version (before ++ next ∷ []) count

-- the first sixteen bytes
pub record FrontShape : Type 0 where
  pub version : ℕ
  pub layout : Layout
  pub columns : ℕ
  pub rows : ℕ

abbrev pub front_of : ℕ → Layout → ℕ → ℕ → FrontShape
front_of version layout columns rows =
    record { version = version; layout = layout; columns = columns; rows = rows }

unfoldable pub front : FileOrder → Reading FrontShape
front order =
    read_field 8 (parse_magic order) >>= λ _.
    read_field 1 (parse_version order) >>= λ version.
    read_field 1 parse_layout >>= λ layout.
    read_field 2 parse_count >>= λ count.
    read_field 4 parse_row_count >>= λ rows.
    give (front_of version layout count rows)

-- the fields of a header
pub record HeaderShape : Type 0 where
  pub version : ℕ
  pub layout : Layout
  pub rows : ℕ
  pub schema : SchemaShape

abbrev pub header_of : FrontShape → List ℕ → List ColumnShape → HeaderShape
header_of first text found =
    record {
      version = first.version;
      layout = first.layout;
      rows = first.rows;
      schema = record { name = text; columns = found };
    }

-- the header of a file whose blocks are in this order, and that of a table file
unfoldable pub header_in : FileOrder → Reading HeaderShape
header_in order =
    front order >>= λ first.
    name [] >>= λ text.
    columns first.version [] first.columns >>= λ found.
    give (header_of first text found)

abbrev pub header : Reading HeaderShape
header = header_in ByRows

-- In the byte at this place of a plane, a bit of row `rows` or a later one is 1. The byte has the
-- bits of eight rows, that of the first one in its least bit.
unfoldable pub plane_has_padding : ℕ → ℕ → ℕ → Bool
plane_has_padding rows place byte =
    list_any (λ bit. nat_le rows (8 * place + bit) && (bit_at byte bit == 1)) (range_with_len 0 8)

-- The byte at this place of a block, counted from the block's start, has such a bit. Planes have 64
-- bytes each. Slices, after the null plane, have 512 each, one for each row.
unfoldable pub has_padding : Layout → List Column → ℕ → ℕ → ℕ → ℕ → Bool
has_padding Planes schema rows number place byte = plane_has_padding rows (place % 64) byte
has_padding Slices schema rows number place byte =
    let nulls = null_size schema number in
    if nat_lt place nulls then plane_has_padding rows place byte
    else nat_le rows ((place - nulls) % 512) && not (byte == 0)

-- the place of the first such byte among these, the first of which is at this place; their end if
-- there is none
unfoldable pub padding_from : Layout → List Column → ℕ → ℕ → List ℕ → ℕ → ℕ
padding_from layout schema rows number [] at = at
padding_from layout schema rows number (byte ∷ bytes) at =
    if has_padding layout schema rows number at byte then at
    else padding_from layout schema rows number bytes (at + 1)

-- the place of a block's error, from the block's start: for 308 the first byte with a bit of a
-- padding row, for any other error 0
unfoldable pub fault_place : Layout → List Column → ℕ → ℕ → List ℕ → ℕ → ℕ
fault_place layout schema rows number block code =
    if code == PADDING then padding_from layout schema rows number block 0 else 0

-- a block, or its error
abbrev pub sound_at : ℕ → Layout → List Column → ℕ → ℕ → List ℕ → Option ℕ → Reading (List ℕ)
sound_at at layout schema rows number block None t = Ok (block, t)
sound_at at layout schema rows number block (Some code) t =
    Err (at_byte code (at + fault_place layout schema rows number block code))

-- the result of validating a block, by its error, if it has one
abbrev pub IsValidAt : ℕ → Layout → List Column → ℕ → ℕ → List ℕ → Option ℕ
    → Result (Unit {0}) Fault → Type 0
IsValidAt at layout schema rows number block None result = result ≡ Ok tt
IsValidAt at layout schema rows number block (Some code) result =
    result ≡ Err (at_byte code (at + fault_place layout schema rows number block code))

-- the block of the column of this number, in a segment of `rows` rows
unfoldable pub one_block : Layout → List Column → ℕ → ℕ → Reading (List ℕ)
one_block layout schema rows number t =
    (field (block_size layout schema number) >>= λ bytes.
    sound_at t.at layout schema rows number bytes (block_fault layout schema number rows bytes)) t

-- the blocks of this many columns from this number on, in a segment of `rows` rows, after the bytes
-- that were read before
unfoldable pub blocks : Layout → List Column → ℕ → ℕ → ℕ → List ℕ → Reading (List ℕ)
blocks layout schema rows number zero before = give before
blocks layout schema rows number (suc more) before =
    one_block layout schema rows number >>= λ bytes.
    blocks layout schema rows (suc number) more (before ++ bytes)

-- the rows of a segment of `rows` rows
unfoldable pub segment : Layout → List Column → ℕ → Reading (List (List Value))
segment layout schema rows =
    blocks layout schema rows 0 (length schema) [] >>= λ bytes.
    give (rows_spelled layout schema rows bytes)

-- the sizes of the groups of `rows` rows, at most `most` of them
abbrev pub sizes_within : ℕ → ℕ → List ℕ
sizes_within zero rows = []
sizes_within (suc most) zero = []
sizes_within (suc most) (suc rows) =
    min group_size (suc rows) ∷ sizes_within most (suc rows - group_size)

unfoldable pub group_sizes : ℕ → List ℕ
group_sizes rows = sizes_within rows rows

-- the end of the file; another byte is 309
abbrev pub has_bytes : List ℕ → Bool
has_bytes [] = false
has_bytes (byte ∷ bytes) = true

unfoldable pub end : Reading (Unit {0})
end t = refused_if (has_bytes t.bytes) (at_byte BYTES_AFTER_END t.at) (Ok (tt, t))

-- what follows the groups that were read before: groups of these sizes, and the end
unfoldable pub body : Layout → List Column → List ℕ → List (List (List Value))
    → Reading (List (List (List Value)))
body layout schema [] before = end >>= λ _. give before
body layout schema (size ∷ sizes) before =
    segment layout schema size >>= λ group. body layout schema sizes (before ++ group ∷ [])

-- a table that was read
pub record Found : Type 0 where
  pub layout : Layout
  pub schema : SchemaShape
  pub rows : List (List Value)

-- the table of a layout, a schema and rows; and that of groups one after the other
abbrev pub found_as : Layout → SchemaShape → List (List Value) → Found
found_as layout schema rows = record { layout = layout; schema = schema; rows = rows }

abbrev pub found_in : Layout → SchemaShape → Result (List (List (List Value)) × Tail) Fault
    → Result Found Fault
found_in layout schema (Ok x) = Ok (found_as layout schema (together x.0))
found_in layout schema (Err fault) = Err fault

-- What bytes are read as: a table, or their first error. The header comes first. What follows is
-- read with columns that are those of the header.
abbrev pub IsReadAfter : Result (HeaderShape × Tail) Fault → Result Found Fault → Type 0
IsReadAfter (Ok x) read =
    (schema : Schema) × (schema_shape schema ≡ x.0.schema)
    × (read ≡ found_in x.0.layout x.0.schema
    (body x.0.layout schema.columns.items (group_sizes x.0.rows) [] x.1))
IsReadAfter (Err fault) read = read ≡ Err fault

abbrev pub IsReadAs : List ℕ → Result Found Fault → Type 0
IsReadAs bytes read = IsReadAfter (header (tail 0 bytes)) read

-- the errors of calls that read a table file: 301 to 310, a failed read, or out of memory
abbrev pub is_table_fault : Fault → Bool
is_table_fault fault = (nat_le MAGIC fault.code && nat_le fault.code ROW_COUNT)
    || is_input_fault fault

abbrev pub IsTableFault : Fault → Type 0
IsTableFault fault = IsTrue (is_table_fault fault)
