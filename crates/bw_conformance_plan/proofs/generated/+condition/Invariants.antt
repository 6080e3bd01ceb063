use Rattle.bw_conformance_plan.proofs.generated.+condition.Given as goal

abbrev pub decreases-condition : goal.decreases-condition
decreases-condition l = l.depth
