use Rattle.std.proofs.Common.{◌∙◌, ap, map, not, arith}
use Rattle.bw_model.specs.Groups.{group_size}
use Rattle.bw_lanes.specs.Lanes.{lanes_of_words}
use Rattle.bw_segment.proofs.LaneValues.{past_lanes, empty_is}
use Rattle.bw_segment.proofs.values.no_values.Goals as goal

pub mask-requires : goal.mask-requires
unfolding group_size
mask-requires g c = omega (arith, c.rows_in.ensures.bounds.1)

pub returns : goal.returns
returns g c =
    let past = c.not-past.ensures ∙ ap (map not) c.mask.ensures ∙ ap past_lanes c.rows_in.ensures.count in
    c.or.ensures ∙ empty_is (g.S.Segment.meaning c.args.segment.now) c.args.col (lanes_of_words c.not-past.result) (lanes_of_words c.nulls.result) past c.nulls.ensures
