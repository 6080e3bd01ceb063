-- The text is that of the answer over all groups.
use Rattle.std.proofs.Common.{[]}
use Rattle.bw_model.specs.Groups.{together}
use Rattle.bw_query.proofs.answer_consumer.AnswerConsumerSegmentConsumer.into_text.Goals as goal

pub returns-clause-text : goal.returns-clause-text
returns-clause-text c = λ start columns groups led. record {
  counts = led.counts;
  is = λ names query before. c.in_ok-into_text.ensures.text names query (together groups) (led.covers.covers names query [] before);
}
