use Rattle.std.proofs.Common.{eqb}
use Rattle.bw_lanes.proofs.ByteLemmas.{compared}
use Rattle.bw_lanes.proofs.bytes.eq.Goals as goal

pub returns : goal.returns
returns c = compared eqb c.args.bytes c.args.c c.fits-bytes.0
