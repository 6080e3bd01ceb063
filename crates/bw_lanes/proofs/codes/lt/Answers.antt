use Rattle.std.proofs.Common.{nat_lt}
use Rattle.bw_lanes.proofs.WordLemmas.{zip_compared}
use Rattle.bw_lanes.proofs.codes.lt.Goals as goal

pub returns : goal.returns
returns c = zip_compared nat_lt c.args.xs c.args.ys c.fits-xs.0 c.fits-ys.0
