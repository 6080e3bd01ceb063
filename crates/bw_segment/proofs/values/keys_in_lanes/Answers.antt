use Rattle.std.proofs.Common.{◌∙◌, ap, cond, false, Some, None, get_or}
use Rattle.bw_model.specs.Row.{Value}
use Rattle.bw_segment.proofs.LaneValues.{codes_within, empty_lanes, value_here}
use Rattle.bw_segment.proofs.values.keys_in_lanes.Goals as goal

pub put_keys-requires : goal.put_keys-requires
put_keys-requires g c =
    let read = rw c.schema.ensures.columns at c.index.ensures in
    rw c.codes.ensures (codes_within (g.S.Segment.meaning c.args.segment.now) c.args.col c.index.result.now c.requires read)

pub returns : goal.returns
returns g c = λ lane there.
    let meaning = g.S.Segment.meaning c.args.segment.now in
    let group = g.met.S.Segment.is_group c.args.segment.now in
    let read = rw c.schema.ensures.columns at c.index.ensures in
    let put = rw c.codes.ensures at (c.put_keys.ensures lane there) in
    rw c.no_values.ensures (ap {B = Value} (λ n. cond (get_or (empty_lanes meaning.rows c.args.col) lane false) None (Some n)) put
    ∙ value_here meaning c.args.col lane c.index.result.now group c.requires there read)
