-- Each total counts the matching rows, and the text stays.
use Rattle.std.proofs.Common.{◌≡◌, ◌∙◌, ◌+◌, ◌≤◌, ◌++◌, true, length, length-append, map}
use Rattle.std.proofs.Common.{sym, ap, append_assoc}
use Rattle.std.proofs.lemmas.List.Elements.{filter-append}
use Rattle.bw_model.specs.Cond.{is_match}
use Rattle.std.specs.List.{list_all}
use Rattle.bw_model.specs.Selection.{matching_rows}
use Rattle.bw_rowwise.specs.Accumulator.{Tally, count_rows}
use Rattle.bw_answer.specs.Aggregates.{aggregates_of}
use Rattle.bw_answer.specs.Answer.{is_count_all}
use Rattle.bw_answer.specs.Output.{totals_in}
use Rattle.bw_answer.proofs.AggregateLemmas.{all_asked}
use Rattle.bw_answer.proofs.AnswerLemmas.{text_over_same}
use Rattle.bw_answer.proofs.CountLemmas.{all_counted, counts_list_nothing, is_of-counted}
use Rattle.bw_answer.proofs.answer.Answer.take_matches.Goals as goal

pub invariant_of-self-clause-capacity : goal.invariant_of-self-clause-capacity
invariant_of-self-clause-capacity c =
    let self = c.args.self.now in
    rw c.add_count.ensures.totals (is_of-counted self.width self.rows c.args.count c.args.matches (totals_in self.output) c.requires.matches self.capacity)

pub returns-clause-covers : goal.returns-clause-covers
returns-clause-covers c = λ start before rows long matched led. record {
  same = led.same;
  covers = λ names query first over.
      let self = c.args.self.now in
      let so_far = led.covers names query first over in
      let items = query.items.items in
      let all : list_all is_count_all items ≡ true = rw so_far.0 at c.requires.alone in
      let some : 1 ≤ length items = rw so_far.0 at self.nonempty in
      let none = counts_list_nothing items some all in
      let old = first ++ before in
      let new = first ++ (before ++ rows) in
      let kept : length (matching_rows query.cond rows) ≡ c.args.matches = rw so_far.0 at matched in
      let apart : matching_rows query.cond new ≡ matching_rows query.cond old ++ matching_rows query.cond rows =
      ap (matching_rows query.cond) (sym (append_assoc first before rows)) ∙ filter-append (is_match query.cond) old rows in
      let long_new : length (matching_rows query.cond new) ≡ length (matching_rows query.cond old) + c.args.matches =
      ap length apart ∙ length-append (matching_rows query.cond old) (matching_rows query.cond rows) ∙ ap (λ k. length (matching_rows query.cond old) + k) kept in (
        so_far.0,
        record {
          written = so_far.1.written ∙ text_over_same names query old new none;
          totalled = λ _. c.add_count.ensures.totals ∙ ap (map (λ (tally : Tally). count_rows tally c.args.matches)) (so_far.1.totalled none)
              ∙ all_counted (aggregates_of items) (matching_rows query.cond old) (matching_rows query.cond new) c.args.matches long_new (all_asked is_count_all items all);
        },
      );
}
