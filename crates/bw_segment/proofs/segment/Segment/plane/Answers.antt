use Rattle.std.proofs.Common.{◌∙◌, sym, ap, arith}
use Rattle.bw_segment.specs.Meaning.{variable_lanes}
use Rattle.bw_segment.specs.Selected.{bit_lanes}
use Rattle.bw_segment.proofs.LaneLemmas.{nulls_in_lanes, bits_in_lanes}
use Rattle.bw_segment.proofs.segment.Segment.plane.Goals as goal

pub returns-then-bit-width : goal.returns-then-bit-width
unfolding bit_lanes
returns-then-bit-width g c =
    let meaning = g.Self.Segment.meaning c.args.self.now in
    let group = g.met.Self.Segment.is_group c.args.self.now in
    let there = rw c.schema.ensures.columns at c.place_of-col.ensures.column in
    let place = rw c.schema.ensures.columns at c.place_of-col.ensures.bit in
    let wide = rw c.schema-2.ensures.columns at c.width.ensures.width in
    c.bit.ensures ∙ bits_in_lanes meaning c.place_of-col.result.0 c.place_of-col.result.1 group there (omega (arith, wide)) ∙ ap (variable_lanes meaning) (sym (place (omega (arith, wide))))

pub returns-else-bit-width : goal.returns-else-bit-width
returns-else-bit-width g c =
    let meaning = g.Self.Segment.meaning c.args.self.now in
    let group = g.met.Self.Segment.is_group c.args.self.now in
    let there = rw c.schema.ensures.columns at c.place_of-col.ensures.column in
    let null = rw c.schema.ensures.columns at c.place_of-col.ensures.null in
    let wide = rw c.schema-2.ensures.columns at c.width.ensures.width in
    c.nulls.ensures ∙ nulls_in_lanes meaning c.place_of-col.result.0 c.args.var group there (null (omega (arith, wide)))
