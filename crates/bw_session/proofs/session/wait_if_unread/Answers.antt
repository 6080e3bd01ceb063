use Rattle.bw_session.proofs.NoteLemmas.{Hears-nil}
use Rattle.bw_session.proofs.session.wait_if_unread.Goals as goal

pub returns-else-is_none : goal.returns-else-is_none
returns-else-is_none g c = Hears-nil _
