use Rattle.bw_program.proofs.MachineLaws.{reached_from}
use Rattle.bw_program.proofs.laws.places_are_reached.Goals as goal

pub returns : goal.returns
returns c = reached_from
