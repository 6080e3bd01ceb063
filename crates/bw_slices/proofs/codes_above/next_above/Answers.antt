use Rattle.bw_slices.proofs.AboveLemmas.{next_computed}
use Rattle.bw_slices.proofs.codes_above.next_above.Goals as goal

pub returns : goal.returns
returns c = next_computed c.args.set c.args.bytes c.args.c c.fits-set.0 c.fits-bytes.0 c.fits-bytes.1 c.ranges.c.fits
