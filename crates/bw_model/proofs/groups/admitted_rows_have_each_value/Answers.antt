-- By the columns.
use Rattle.bw_model.proofs.PlaceLemmas.{length_admitted}
use Rattle.bw_model.proofs.groups.admitted_rows_have_each_value.Goals as goal

pub returns : goal.returns
returns c = length_admitted
