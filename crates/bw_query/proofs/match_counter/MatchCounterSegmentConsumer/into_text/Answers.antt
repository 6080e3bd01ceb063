-- The answer gets the numbers of the rows and of the matching ones.
use Rattle.std.proofs.Common.{◌∙◌, [], ap, arith, length, subst, sym}
use Rattle.bw_answer.specs.Progress.{GoesOver, query_in}
use Rattle.bw_answer.specs.declared.answer.Answer.{Answer}
use Rattle.bw_model.specs.Selection.{matching_rows}
use Rattle.bw_query.proofs.TableLemmas.{goes_nowhere}
use Rattle.bw_query.proofs.match_counter.MatchCounterSegmentConsumer.into_text.Goals as goal

pub take_matches-requires-clause-alone : goal.take_matches-requires-clause-alone
take_matches-requires-clause-alone c = c.requires.fits.1.alone

pub take_matches-requires-clause-matches : goal.take_matches-requires-clause-matches
take_matches-requires-clause-matches c = c.requires.fits.1.matches

pub take_matches-requires-clause-capacity : goal.take_matches-requires-clause-capacity
take_matches-requires-clause-capacity c = omega (arith, c.requires.fits.1.fresh, c.requires.capacity)

pub returns-clause-text : goal.returns-clause-text
returns-clause-text c = λ start columns groups led. record {
  counts = led.counts;
  is = λ names query before rows many matching.
      let nowhere = subst (λ (answer : Answer). GoesOver start.answer [] answer) (sym led.answer) (goes_nowhere start.answer) in
      let matches = ap (λ (answer : Answer). length (matching_rows (query_in answer).cond rows)) led.answer ∙ matching ∙ led.matches in
      let over = c.take_matches.ensures.covers start.answer [] rows (many ∙ led.rows) matches nowhere in
      c.in_ok-into_text.ensures.text names query rows (over.covers names query [] before);
}
