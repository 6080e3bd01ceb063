use Rattle.std.proofs.Common.{◌∙◌, sym, ap, not}
use Rattle.std.specs.List.{list_all}
use Rattle.bw_segment.proofs.LaneValues.{codes_within, put_in_lane, put_in_full}
use Rattle.bw_segment.proofs.values.values_in_lanes.Goals as goal

pub put_all-requires : goal.put_all-requires
put_all-requires g c =
    let read = rw c.schema.ensures.columns at c.index-column.ensures in
    rw c.codes.ensures (codes_within (g.S.Segment.meaning c.args.segment.now) c.args.col c.index-column.result.now c.requires read)

pub put_values-requires : goal.put_values-requires
put_values-requires g c =
    let read = rw c.schema.ensures.columns at c.index-column.ensures in
    rw c.codes.ensures (codes_within (g.S.Segment.meaning c.args.segment.now) c.args.col c.index-column.result.now c.requires read)

pub returns-then-is_zero : goal.returns-then-is_zero
returns-then-is_zero g c = λ lane there.
    let meaning = g.S.Segment.meaning c.args.segment.now in
    let group = g.met.S.Segment.is_group c.args.segment.now in
    let read = rw c.schema.ensures.columns at c.index-column.ensures in
    let full = ap (list_all not) (sym c.no_values-none.ensures) ∙ sym c.is_zero.ensures ∙ c.if-is_zero.true in
    let put = rw c.codes.ensures at (c.put_all.ensures lane there) in
    put ∙ put_in_full meaning c.args.col lane c.index-column.result.now group c.requires there read full

pub returns-else-is_zero : goal.returns-else-is_zero
returns-else-is_zero g c = λ lane there.
    let meaning = g.S.Segment.meaning c.args.segment.now in
    let group = g.met.S.Segment.is_group c.args.segment.now in
    let read = rw c.schema.ensures.columns at c.index-column.ensures in
    let nulls = rw c.no_values-none.ensures at c.bytes_of_plane.ensures in
    let put = rw (nulls, c.codes.ensures) at (c.put_values.ensures lane there) in
    put ∙ put_in_lane meaning c.args.col lane c.index-column.result.now group c.requires there read
