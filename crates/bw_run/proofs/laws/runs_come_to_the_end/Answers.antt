use Rattle.bw_program.proofs.EndLemmas.{raises, ends}
use Rattle.bw_run.proofs.laws.runs_come_to_the_end.Goals as goal

pub returns-clause-raises : goal.returns-clause-raises
returns-clause-raises c = raises

pub returns-clause-ends : goal.returns-clause-ends
returns-clause-ends c = ends
