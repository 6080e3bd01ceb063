use Rattle.std.proofs.Common.{◌≡◌, drop}
use Rattle.bw_answer.specs.Aggregates.{answer_for}
use Rattle.bw_answer.proofs.totals.total_for.Given as goal

-- none of the totals so far is of the item
abbrev pub invariant-loop-total : goal.invariant-loop-total
invariant-loop-total l = answer_for l.totals l.item ≡ answer_for (drop l.total-index l.totals) l.item
