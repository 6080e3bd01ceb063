use Rattle.std.proofs.Common.{◌≡◌, ◌<◌, ◌≤◌, ℕ, true}
use Rattle.bw_query.specs.Settled.{is_settled}
use Rattle.bw_query.proofs.settled.next_open.Given as goal

-- the segments so far are settled
abbrev pub invariant-loop-next : goal.invariant-loop-next
invariant-loop-next l = (other : ℕ) → l.fn.number ≤ other → other < l.next → is_settled l.settled other ≡ true
