use Rattle.bw_run.proofs.RegisterLemmas.{hold_all}
use Rattle.bw_run.proofs.laws.registers_hold_all_lanes.Goals as goal

pub returns : goal.returns
returns c = hold_all
