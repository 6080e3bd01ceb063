use Rattle.std.proofs.Common.{◌≡◌, [], map, take}
use Rattle.bw_rowwise.specs.Accumulator.{tally_of}
use Rattle.bw_answer.specs.Aggregates.{aggregates_of}
use Rattle.bw_answer.proofs.totals.totals_of.Given as goal

-- the aggregates so far
abbrev pub invariant-loop-item : goal.invariant-loop-item
invariant-loop-item l = l.totals.items ≡ map (λ item. tally_of item []) (aggregates_of (take l.item-index l.items))
