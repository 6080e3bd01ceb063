use Rattle.std.proofs.Common.{◌≤◌}
use Rattle.bw_planes.proofs.sum.is_dense.Given as goal

abbrev pub invariant-loop-word : goal.invariant-loop-word
invariant-loop-word l = l.some ≤ l.word
