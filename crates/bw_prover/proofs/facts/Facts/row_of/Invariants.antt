use Rattle.bw_prover.specs.Growth.{HasGrown}
use Rattle.bw_prover.proofs.facts.Facts.row_of.Given as goal

abbrev pub invariant-loop-column : goal.invariant-loop-column
invariant-loop-column l = HasGrown l.fn.self l.self
