-- The row is the last one of those that are gathered.
use Rattle.std.proofs.Common.{◌∙◌, ◌++◌, ◌∷◌, [], List, ap, append_assoc, arith, length-append, sym}
use Rattle.bw_model.specs.Row.{Value, values_of}
use Rattle.bw_answer.proofs.gathered.GatheredAnswer.gather.Goals as goal

pub returns-clause-taken : goal.returns-clause-taken
returns-clause-taken c = λ start before led. record {
  same = c.put_row.ensures.asked ∙ led.same;
  taken = λ names query first has.
      let so_far = led.taken names query first has in
      let held = so_far.holds in
      let row = values_of c.args.row.now in
      record {
        before = so_far.before;
        group = so_far.group ++ row ∷ [];
        parts = sym (append_assoc first before (row ∷ [])) ∙ ap (λ (l : List (List Value)). l ++ row ∷ []) so_far.parts ∙ append_assoc so_far.before so_far.group (row ∷ []);
        over = c.put_row.ensures.covers names query so_far.before so_far.over;
        holds = record {
          many = omega (arith, held.many, length-append so_far.group (row ∷ []));
          named = c.put_row.ensures.named so_far.group held.many held.named;
          listed = c.put_row.ensures.listed so_far.group held.many held.listed;
          summed = c.put_row-2.ensures.rows so_far.group held.many held.summed;
        };
      };
}
