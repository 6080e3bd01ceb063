-- The rows that the filter keeps are those that match the query.
use Rattle.bw_answer.proofs.SelectedLemmas.{taken}
use Rattle.bw_answer.proofs.answer.Answer.take_segment.Goals as goal

pub take_selected-requires-clause-picks : goal.take_selected-requires-clause-picks
take_selected-requires-clause-picks g c = c.matching_lanes-kept.ensures.kept c.args.self.now.query.now.cond c.args.self.now.prepared

pub returns-clause-covers : goal.returns-clause-covers
returns-clause-covers g c = taken c.take_selected.result (λ over start before led. over start before (record { same = led.same; covers = led.covers })) c.take_selected.ensures.covers
