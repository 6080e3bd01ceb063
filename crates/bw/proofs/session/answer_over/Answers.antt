-- The programs serve the columns of the table that was lent.
use Rattle.bw.proofs.session.answer_over.Goals as goal

pub answer_input-requires : goal.answer_input-requires
answer_input-requires g c = rw c.table.ensures.table at c.in_ok-programs.ensures
