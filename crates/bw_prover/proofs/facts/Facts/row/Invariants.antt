use Rattle.bw_prover.specs.Growth.{HasGrown}
use Rattle.bw_prover.proofs.facts.Facts.row.Given as goal

abbrev pub invariant-loop : goal.invariant-loop
invariant-loop l = HasGrown l.fn.self l.self
