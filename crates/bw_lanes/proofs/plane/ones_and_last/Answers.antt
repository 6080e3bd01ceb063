use Rattle.bw_lanes.proofs.WordLemmas.{chosen_computed}
use Rattle.bw_lanes.proofs.plane.ones_and_last.Goals as goal

pub returns : goal.returns
returns c = chosen_computed c.args.whole c.args.last
