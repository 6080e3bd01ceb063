use Rattle.bw_prover.specs.Growth.{HasGrown}
use Rattle.bw_prover.proofs.facts.Facts.chain.Given as goal

abbrev pub invariant-loop-len : goal.invariant-loop-len
invariant-loop-len l = HasGrown l.fn.self l.self
