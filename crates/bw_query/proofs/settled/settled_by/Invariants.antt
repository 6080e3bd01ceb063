-- The verdicts so far.
use Rattle.std.proofs.Common.{◌≡◌, take}
use Rattle.bw_query.specs.Settled.{settled_by}
use Rattle.bw_query.proofs.settled.settled_by.Given as goal

abbrev pub invariant-loop-verdict : goal.invariant-loop-verdict
invariant-loop-verdict l = record { settled : l.settled.items ≡ settled_by l.counts (take l.verdict-index l.verdicts) }
