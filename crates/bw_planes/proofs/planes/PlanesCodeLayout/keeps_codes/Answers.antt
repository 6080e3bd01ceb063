use Rattle.bw_planes.proofs.KeptLemmas.{planes_keep_codes}
use Rattle.bw_planes.proofs.planes.PlanesCodeLayout.keeps_codes.Goals as goal

pub returns : goal.returns
returns c = planes_keep_codes
