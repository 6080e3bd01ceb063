-- There is a place for the row.
use Rattle.bw_answer.proofs.gathered.GatheredAnswer.take_row.Goals as goal

pub returns-clause-taken : goal.returns-clause-taken
returns-clause-taken c = λ start before led. c.gather.ensures.taken start before (c.in_ok-make_room.ensures.taken start before led)
