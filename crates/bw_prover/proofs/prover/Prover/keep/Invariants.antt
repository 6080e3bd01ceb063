use Rattle.bw_prover.specs.Growth.{HasGrown}
use Rattle.bw_prover.proofs.prover.Prover.keep.Given as goal

abbrev pub invariant-loop-skip : goal.invariant-loop-skip
invariant-loop-skip l = HasGrown l.fn.self.facts l.self.facts
