use Rattle.bw_conformance_prover.proofs.conditions.+condition.Given as goal

abbrev pub decreases-condition : goal.decreases-condition
decreases-condition l = l.depth
