-- The segment's rows, after those that the answer had taken.
use Rattle.std.proofs.Common.{◌++◌, append_assoc, sym}
use Rattle.bw_answer.proofs.answer.Answer.take_selected.Goals as goal

pub returns-clause-covers : goal.returns-clause-covers
returns-clause-covers g c = λ start before led. record {
  same = led.same;
  covers = λ names query first over.
      let more = (g.S.Segment.meaning c.args.segment.now).rows in
      let so_far = led.covers names query first over in
      let put = c.in_ok-put_selected.ensures.covers names (first ++ before) (rw (sym so_far.0) at so_far.1) in
      (so_far.0, rw (sym so_far.0, sym (append_assoc first before more)) put);
}
