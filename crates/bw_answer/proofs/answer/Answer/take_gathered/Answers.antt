-- The rows that were gathered, after those that the answer had taken.
use Rattle.std.proofs.Common.{◌++◌, append_assoc, sym}
use Rattle.bw_answer.proofs.answer.Answer.take_gathered.Goals as goal

pub returns-clause-covers : goal.returns-clause-covers
returns-clause-covers c = λ start before more held led. record {
  same = led.same;
  covers = λ names query first over.
      let so_far = led.covers names query first over in
      let put = c.in_ok-put_gathered.ensures.covers names (first ++ before) more held (rw (sym so_far.0) at so_far.1) in
      (so_far.0, rw (sym so_far.0, sym (append_assoc first before more)) put);
}
