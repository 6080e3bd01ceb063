-- The verdict holds of each row within the ranges.
use Rattle.bw_memory.proofs.SettleLemmas.{verdict_holds}
use Rattle.bw_memory.proofs.settling.decide_rows.Goals as goal

pub returns : goal.returns
returns c = verdict_holds c.args.cond.now c.args.ranges.now c.decide.result c.decide.ensures.no_row c.decide.ensures.every_row
