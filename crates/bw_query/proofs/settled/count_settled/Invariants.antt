-- The segments so far that are left out were counted.
use Rattle.bw_query.proofs.CountedLemmas.{IsCountedTo}
use Rattle.bw_query.proofs.settled.count_settled.Given as goal

abbrev pub invariant-loop-number : goal.invariant-loop-number
invariant-loop-number l = IsCountedTo l.table l.verdicts l.number l.counted
