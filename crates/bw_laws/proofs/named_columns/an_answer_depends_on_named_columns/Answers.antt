use Rattle.bw_laws.proofs.NamedColumnsLemmas.{meaning_same}
use Rattle.bw_laws.proofs.named_columns.an_answer_depends_on_named_columns.Goals as goal

pub returns : goal.returns
returns c = meaning_same
