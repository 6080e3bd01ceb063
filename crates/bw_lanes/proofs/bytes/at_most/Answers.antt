use Rattle.bw_lanes.proofs.ByteLemmas.{compared_at_most}
use Rattle.bw_lanes.proofs.bytes.at_most.Goals as goal

pub returns : goal.returns
returns c = compared_at_most c.args.bytes c.greater.result c.args.c c.fits-bytes.0 c.greater.ensures
