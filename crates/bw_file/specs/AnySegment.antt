-- The meaning of a segment in either layout, and its layout.
use Rattle.bw_io.specs.Shared.{bytes_in}
use Rattle.bw_planes.specs.Planes.{plane_packing}
use Rattle.bw_slices.specs.Slices.{slice_packing}
use Rattle.bw_segment.specs.Meaning.{Meaning, IsGroup}
use Rattle.bw_segment.specs.Packing.{meaning_spelled}
use Rattle.bw_file.specs.declared.segments.AnySegment.{AnySegment}
use Rattle.bw_file.specs.declared.segments.AnySegment.TheVariants.{Planes, Slices}
use Rattle.bw_file.specs.declared.layout.Layout.{Layout}
use Rattle.bw_file.specs.declared.layout.Layout.TheVariants as layouts

unfoldable pub any_meaning : AnySegment → Meaning
any_meaning (Planes segment) =
    meaning_spelled plane_packing segment.placement.value.schema segment.rows
    (bytes_in segment.bytes)
any_meaning (Slices segment) =
    meaning_spelled slice_packing segment.placement.value.schema segment.rows
    (bytes_in segment.bytes)

-- which is the rows of one group
pub any_is_group : (segment : AnySegment) → IsGroup (any_meaning segment)
unfolding any_meaning
any_is_group (Planes segment) = segment.packed.group
any_is_group (Slices segment) = segment.packed.group

-- the layout of the segment
abbrev pub any_layout : AnySegment → Layout
any_layout (Planes segment) = layouts.Planes
any_layout (Slices segment) = layouts.Slices
