use Rattle.bw_prover.specs.Growth.{HasGrown}
use Rattle.bw_prover.proofs.prover.Prover.meet.Given as goal

abbrev pub invariant-loop-register : goal.invariant-loop-register
invariant-loop-register l = HasGrown l.fn.self.facts l.self.facts
