use Rattle.std.proofs.Common.{arith}
use Rattle.bw_segment.proofs.CodeLemmas.{admitted_at, few_rows}
use Rattle.bw_segment.proofs.columns.columns_of.Goals as goal

pub keep_row-requires-clause-lane : goal.keep_row-requires-clause-lane
keep_row-requires-clause-lane c = omega (arith, few_rows c.args.schema.now c.args.rows.now c.requires)

pub keep_row-requires-clause-admitted : goal.keep_row-requires-clause-admitted
keep_row-requires-clause-admitted c =
    admitted_at c.args.schema.now.columns.items c.args.rows.now c.loop-lane.lane c.index-rows-lane.result c.requires.admitted (omega arith) c.index-rows-lane.is
