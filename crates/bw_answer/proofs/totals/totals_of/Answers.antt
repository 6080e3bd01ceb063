-- No item has been included yet.
use Rattle.std.proofs.Common.{rules}
use Rattle.bw_answer.specs.Aggregates.{each_once}
use Rattle.bw_answer.proofs.totals.totals_of.Goals as goal

pub loop-item-init : goal.loop-item-init
unfolding each_once
loop-item-init c = search rules
