-- The two layouts of segments, by the names of table files.
use Rattle.std.specs.Prelude.{ℕ, ◌+◌, List, Option, slice_range}
use Rattle.bw_model.specs.declared.column.Column.{Column}
use Rattle.bw_model.specs.Row.{Value}
use Rattle.bw_planes.specs.Planes.{plane_packing}
use Rattle.bw_slices.specs.Slices.{slice_packing}
use Rattle.bw_segment.specs.BlockFault as faults
use Rattle.bw_segment.specs.Packed as packed
use Rattle.bw_segment.specs.Packing as kept
use Rattle.bw_segment.specs.declared.placement.Placement.{Placement}
use Rattle.bw_file.specs.declared.layout.Layout.{Layout}
use Rattle.bw_file.specs.declared.layout.Layout.TheVariants.{Planes, Slices}

-- how a layout packs the codes of 512 lanes
unfoldable pub form_of : Layout → kept.Packing
form_of Planes = plane_packing
form_of Slices = slice_packing

-- the number of bytes of a column's block
abbrev pub block_size : Layout → List Column → ℕ → ℕ
block_size layout columns column = kept.block_size (form_of layout) columns column

abbrev pub bytes_before : Layout → List Column → ℕ → ℕ
bytes_before layout columns column = kept.bytes_before (form_of layout) columns column

-- the block of a column that begins at this place among the bytes
abbrev pub block_from : Layout → List Column → ℕ → ℕ → List ℕ → List ℕ
block_from layout columns column start bytes = slice_range bytes start
    (start + block_size layout columns column)

abbrev pub segment_size : Layout → List Column → ℕ
segment_size layout columns = kept.segment_size (form_of layout) columns

-- a placement has each block where it begins in a segment of the layout
abbrev pub IsPlaced : Layout → Placement → Type 0
IsPlaced layout shape = packed.IsPlaced (form_of layout) shape

-- the first error of a block, in a segment of `count` rows
abbrev pub block_fault : Layout → List Column → ℕ → ℕ → List ℕ → Option ℕ
block_fault layout columns column count block =
    faults.block_fault (form_of layout) columns column count block

-- the bytes are the first `blocks` blocks of a segment of `count` rows, each valid; and all of them
abbrev pub AreSound : Layout → List Column → ℕ → ℕ → List ℕ → Type 0
AreSound layout columns count blocks bytes =
    faults.AreSound (form_of layout) columns count blocks bytes

abbrev pub IsSound : Layout → List Column → ℕ → List ℕ → Type 0
IsSound layout columns count bytes = faults.IsSound (form_of layout) columns count bytes

-- the bytes of a group's rows, the blocks of all columns in order
abbrev pub segment_bytes : Layout → List Column → List (List Value) → List ℕ
segment_bytes layout columns rows = kept.segment_bytes (form_of layout) columns rows

-- the rows that the bytes of a segment of this many rows spell
abbrev pub rows_spelled : Layout → List Column → ℕ → List ℕ → List (List Value)
rows_spelled layout columns count bytes = kept.rows_spelled (form_of layout) columns count bytes
