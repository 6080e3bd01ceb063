-- The listener was told how a statement was served, and of settled segments.
use Rattle.std.proofs.Common.{arith}
use Rattle.bw_session.proofs.NoteLemmas.{hears_served, hears_settled}
use Rattle.bw_session.proofs.session.note_served.Goals as goal

pub returns-then-how-gt0 : goal.returns-then-how-gt0
returns-then-how-gt0 g c = hears_settled _ _ _ c.args.how.now (omega (arith, c.if-how-gt0.true)) c.note_answer.ensures c.note_settled.ensures

pub returns-else-how-gt0 : goal.returns-else-how-gt0
returns-else-how-gt0 g c = hears_served _ _ c.args.how.now (omega (arith, c.if-how-gt0.false)) c.note_answer.ensures
