-- One schema, one reading, one meaning.
use Rattle.bw_laws.proofs.ArrivedLemmas.{one_text}
use Rattle.bw_laws.proofs.OneAnswerLemmas.{one_answer}
use Rattle.bw_laws.proofs.one_answer.there_is_one_answer.Goals as goal

pub returns : goal.returns
returns c = record { came = one_answer; texts = one_text }
