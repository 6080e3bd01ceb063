use Rattle.bw_run.proofs.RegisterLemmas.{through_reached, through_writes, through_leaves}
use Rattle.bw_run.proofs.laws.instructions_write_their_registers.Goals as goal

pub returns-clause-reached : goal.returns-clause-reached
returns-clause-reached c = through_reached

pub returns-clause-written : goal.returns-clause-written
returns-clause-written c = through_writes

pub returns-clause-others : goal.returns-clause-others
returns-clause-others c = through_leaves
