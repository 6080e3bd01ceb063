-- Conditions of one tree keep the same rows.
use Rattle.bw_laws.proofs.OneMeaningLemmas.{one_meaning}
use Rattle.bw_laws.proofs.one_meaning.one_meaning_of_what_is_asked.Goals as goal

pub returns : goal.returns
returns c = one_meaning
