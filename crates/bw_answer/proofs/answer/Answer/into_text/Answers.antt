-- The text that the output makes, for the query that was asked.
use Rattle.std.proofs.Common.{sym}
use Rattle.std.proofs.lemmas.Result.{IfOk-weaker}
use Rattle.bw_answer.proofs.answer.Answer.into_text.Goals as goal

pub returns-clause-text : goal.returns-clause-text
returns-clause-text c = IfOk-weaker c.into_text.result _ _ (λ text whole names query rows over.
    rw (sym over.0) (whole names rows (rw (sym over.0) at over.1))) c.into_text.ensures.text
