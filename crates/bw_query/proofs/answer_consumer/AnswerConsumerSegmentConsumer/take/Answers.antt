-- A group more was consumed and scanned.
use Rattle.std.proofs.Common.{◌∙◌, ℕ, length, subst, sym}
use Rattle.bw_model.specs.declared.query.Query.{Query}
use Rattle.bw_query.specs.Consumers.{AreFew}
use Rattle.bw_query.specs.Scan.{IsFor}
use Rattle.bw_query.proofs.ScannedLemmas.{few_more, scanned_more}
use Rattle.bw_query.proofs.TableLemmas.{goes_on}
use Rattle.bw_query.proofs.answer_consumer.AnswerConsumerSegmentConsumer.take.Goals as goal

pub returns-clause-consumes : goal.returns-clause-consumes
returns-clause-consumes g c =
    let self = c.args.self.now in
    let columns = (g.S.Segment.meaning c.args.segment.now).columns in
    let group = (g.S.Segment.meaning c.args.segment.now).rows in
    let some = (g.met.S.Segment.is_group c.args.segment.now).nonempty in
    let taken = c.in_ok-more.ensures.taken in
    let fits = c.requires.fits in
    let plus = c.plus-self.ensures in
    record {
      some = some;
      fits = record {
        scan = subst (λ (query : Query). IsFor columns query.cond self.scan.now) (sym taken.covers.same) fits.scan;
        width = taken.width ∙ fits.width;
        few = subst (λ (rows : ℕ). AreFew rows c.plus-self.result) (sym taken.rows)
            (few_more self.answer.rows (length group) c.in_ok-more.more self.scanned c.plus-self.result some fits.few taken.run.bounded plus.segments plus.loads plus.skips);
      };
      rows = taken.rows;
      over = λ start groups led. record {
        scan = led.scan;
        covers = goes_on start.answer self.answer c.take_segment.new.answer groups group led.covers taken.covers;
        counts = scanned_more columns start.scan.now self.scan.now groups group c.in_ok-more.more self.scanned c.plus-self.result led.scan led.counts taken.run plus.segments plus.loads plus.skips;
      };
    }
