-- The answer is over the rows that were gathered too, and the columns have none.
use Rattle.std.proofs.Common.{◌∙◌, ◌++◌, [], ℕ, List, ap, append-nil, arith, map, refl, subst, sym}
use Rattle.bw_model.specs.Row.{Value}
use Rattle.bw_model.specs.declared.query.Item.{Item}
use Rattle.bw_rowwise.specs.Accumulator.{Tally}
use Rattle.bw_rowwise.specs.Columns.{numbers_of}
use Rattle.bw_answer.specs.Gathered.{AreSummed}
use Rattle.bw_answer.specs.Output.{totals_in}
use Rattle.bw_answer.specs.Places.{AreRead}
use Rattle.bw_answer.specs.Progress.{GoesOver, IsOver}
use Rattle.bw_answer.specs.declared.answer.Answer.{Answer}
use Rattle.bw_answer.proofs.gathered.GatheredAnswer.flush.Goals as goal

goes_nowhere : (answer : Answer) → GoesOver answer [] answer
goes_nowhere answer = record {
  same = refl;
  covers = λ names query before over. subst (λ (rows : List (List Value)). IsOver names query rows answer) (sym (append-nil before)) over;
}

pub returns-clause-taken : goal.returns-clause-taken
returns-clause-taken c = λ start before led. record {
  same = c.clear_rows.ensures.asked ∙ c.in_ok-take_gathered.ensures.asked ∙ led.same;
  taken = λ names query first has.
      let self = c.args.self.now in
      let so_far = led.taken names query first has in
      let held = so_far.holds in
      let goes = c.in_ok-take_gathered.ensures.covers self.answer [] so_far.group (record {
        many = held.many;
        few = omega (arith, held.many, self.few);
        picks = c.matching_rows-selection.ensures.rows so_far.group held.named held.many;
        listed = held.listed;
        summed = held.summed;
      }) (goes_nowhere self.answer) in
      record {
        before = so_far.before ++ so_far.group;
        group = [];
        parts = so_far.parts ∙ sym (append-nil (so_far.before ++ so_far.group));
        over = c.clear_rows.ensures.covers names query (so_far.before ++ so_far.group) (goes.covers names query so_far.before so_far.over);
        holds = record {
          many = refl;
          named = c.clear_rows.ensures.named;
          listed = c.clear_rows.ensures.listed;
          summed = c.clear.ensures.rows;
        };
      };
}

pub invariant_of-self : goal.invariant_of-self
invariant_of-self c =
    let self = c.args.self.now in
    let left = c.in_err-take_gathered.ensures.refused in
    record {
      few = self.few;
      capacity = omega (arith, left.0, self.capacity);
      placed = subst (AreSummed self.summed) (sym left.1) self.placed;
    }

pub invariant_of-self-2 : goal.invariant_of-self-2
invariant_of-self-2 c =
    let self = c.args.self.now in
    let items = ap (map (λ (tally : Tally). tally.item)) c.clear_rows.ensures.totals ∙ c.in_ok-take_gathered.ensures.items in
    record {
      few = omega arith;
      capacity = omega (arith, c.clear_rows.ensures.rows, c.in_ok-take_gathered.ensures.rows, self.capacity);
      placed = subst (λ (numbers : List ℕ). AreRead numbers (map (λ (tally : Tally). tally.item) (totals_in c.clear_rows.new.self.output)) self.summed.places.items) (sym c.clear.ensures.same)
          (subst (λ (items : List Item). AreRead (numbers_of self.summed.columns) items self.summed.places.items) (sym items) self.placed);
    }
