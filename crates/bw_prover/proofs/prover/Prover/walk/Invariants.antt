use Rattle.bw_prover.specs.Growth.{HasGrown}
use Rattle.bw_prover.proofs.prover.Prover.walk.Given as goal

abbrev pub invariant-loop-number : goal.invariant-loop-number
invariant-loop-number l = HasGrown l.fn.self.facts l.self.facts
