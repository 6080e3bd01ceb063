use Rattle.bw_run.proofs.RegisterLemmas.{begins, zeros}
use Rattle.bw_run.proofs.laws.runs_begin_with_zeros.Goals as goal

pub returns-clause-begins : goal.returns-clause-begins
returns-clause-begins c = begins

pub returns-clause-zeros : goal.returns-clause-zeros
returns-clause-zeros c = zeros
