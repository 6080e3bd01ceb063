use Rattle.std.proofs.Common.{◌≡◌, ◌++◌, map, take, drop}
use Rattle.bw_rowwise.specs.Accumulator.{Tally, count_rows}
use Rattle.bw_answer.proofs.totals.add_count.Given as goal

-- the totals so far count the rows
abbrev pub invariant-loop-total : goal.invariant-loop-total
invariant-loop-total l =
    l.totals ≡ map (λ (tally : Tally). count_rows tally l.count) (take l.total-index l.fn.totals) ++ drop l.total-index l.fn.totals
