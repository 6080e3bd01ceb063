use Rattle.std.proofs.Common.{◌≡◌}
use Rattle.bw_lanes.proofs.WordLemmas.{ones_to}
use Rattle.bw_lanes.proofs.plane.count.Given as goal

abbrev pub invariant-loop-word : goal.invariant-loop-word
invariant-loop-word l = l.ones ≡ ones_to l.word l.plane
