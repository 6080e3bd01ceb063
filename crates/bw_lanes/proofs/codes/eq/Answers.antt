use Rattle.std.proofs.Common.{◌==◌}
use Rattle.bw_lanes.proofs.WordLemmas.{zip_compared}
use Rattle.bw_lanes.proofs.codes.eq.Goals as goal

pub returns : goal.returns
returns c = zip_compared (λ x y. x == y) c.args.xs c.args.ys c.fits-xs.0 c.fits-ys.0
