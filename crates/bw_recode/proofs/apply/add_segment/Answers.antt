-- A replaced row is one that the new columns admit.
use Rattle.std.proofs.Common.{arith}
use Rattle.bw_file.proofs.TableLemmas.{admitted_in}
use Rattle.bw_recode.proofs.apply.add_segment.Goals as goal

pub add-requires-clause-admitted : goal.add-requires-clause-admitted
add-requires-clause-admitted g c =
    let rows = (g.S.Segment.meaning c.args.segment.now).rows in
    let columns = (g.S.Segment.meaning c.args.segment.now).columns in
    rw (c.loop-i.invariant.schema, c.in_ok-replace_values.ensures.row)
    (c.requires.replacing.admitted _ (admitted_in columns rows c.loop-i.i (g.met.S.Segment.is_group c.args.segment.now).admitted (omega (arith, c.loop-i-test.true, c.rows_in-i-end.ensures.count))))
