use Rattle.bw_run.proofs.RegisterLemmas.{skip_reached, skip_leaves, skip_is_zero}
use Rattle.bw_run.proofs.laws.skips_leave_registers.Goals as goal

pub returns-clause-reached : goal.returns-clause-reached
returns-clause-reached c = skip_reached

pub returns-clause-same : goal.returns-clause-same
returns-clause-same c = skip_leaves

pub returns-clause-zero : goal.returns-clause-zero
returns-clause-zero c = skip_is_zero
