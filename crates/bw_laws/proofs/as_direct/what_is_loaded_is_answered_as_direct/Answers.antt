-- The bytes of a load are of one table, whose answer is the one that `direct` may write.
use Rattle.bw_laws.proofs.AsDirectLemmas.{answerable, took_alike, took_answer, took_as_direct}
use Rattle.bw_laws.proofs.as_direct.what_is_loaded_is_answered_as_direct.Goals as goal

pub returns : goal.returns
returns c = record { texts = took_as_direct; came = took_answer; alike = took_alike; answerable = answerable }
