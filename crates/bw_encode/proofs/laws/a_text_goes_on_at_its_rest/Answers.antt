use Rattle.bw_encode.proofs.RestLemmas.{goes_on}
use Rattle.bw_encode.proofs.laws.a_text_goes_on_at_its_rest.Goals as goal

pub returns : goal.returns
returns c = goes_on
