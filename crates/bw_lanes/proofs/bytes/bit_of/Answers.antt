use Rattle.bw_lanes.proofs.ByteLemmas.{bit_compared}
use Rattle.bw_lanes.proofs.bytes.bit_of.Goals as goal

pub returns : goal.returns
returns c = bit_compared c.args.bytes c.args.bit c.requires c.fits-bytes.0
