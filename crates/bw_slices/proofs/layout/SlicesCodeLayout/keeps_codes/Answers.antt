use Rattle.bw_slices.proofs.KeptLemmas.{slices_keep_codes}
use Rattle.bw_slices.proofs.layout.SlicesCodeLayout.keeps_codes.Goals as goal

pub returns : goal.returns
returns c = slices_keep_codes
