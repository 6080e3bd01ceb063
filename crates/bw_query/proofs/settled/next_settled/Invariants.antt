-- None of the segments so far is settled.
use Rattle.std.proofs.Common.{◌≡◌, ◌<◌, ◌≤◌, ℕ, false}
use Rattle.bw_query.specs.Settled.{is_settled}
use Rattle.bw_query.proofs.settled.next_settled.Given as goal

abbrev pub invariant-loop-next : goal.invariant-loop-next
invariant-loop-next l = (other : ℕ) → l.fn.number ≤ other → other < l.next → is_settled l.settled other ≡ false
