-- No row has a column past its last one.
use Rattle.std.proofs.Common.{◌∙◌, sym, ap, length, arith}
use Rattle.bw_model.specs.Groups.{group_size}
use Rattle.bw_rowwise.proofs.LaneLemmas.{no_column}
use Rattle.bw_rowwise.proofs.columns.LaneColumn.unpack_selected.Goals as goal

pub returns-else-self-len-clause-rows : goal.returns-else-self-len-clause-rows
unfolding group_size
returns-else-self-len-clause-rows g c = λ lane to one.
    let meaning = g.S.Segment.meaning c.args.segment.now in
    let group = g.met.S.Segment.is_group c.args.segment.now in
    c.clear.ensures lane (omega (arith, to, group.within_limit))
    ∙ sym (no_column meaning.columns meaning.rows c.args.self.now.number lane (c.admitted_rows_have_each_value.ensures meaning.columns) group.admitted
    (omega (arith, c.if-self-len.false, c.len.ensures, c.schema.result.now.columns.ok.0, ap length c.schema.ensures.columns)))
