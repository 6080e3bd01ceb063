use Rattle.bw_lanes.proofs.SelectedLemmas.{kept_computed}
use Rattle.bw_lanes.proofs.selected.mask_equal.Goals as goal

pub returns : goal.returns
returns c = kept_computed c.args.rows c.args.bytes c.args.c c.fits-bytes.0
