use Rattle.bw_slices.proofs.AboveLemmas.{set_bits}
use Rattle.bw_slices.proofs.codes_above.bits_of_set.Goals as goal

pub returns : goal.returns
returns c = set_bits c.args.bytes c.fits-bytes.0
