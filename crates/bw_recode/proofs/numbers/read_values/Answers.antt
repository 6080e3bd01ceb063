-- Each turn reads one more line.
use Rattle.std.proofs.Common.{◌≡◌, ◌+◌, ◌-◌, ◌∙◌, ◌∷◌, ◌++◌, [], suc, length}
use Rattle.std.proofs.Common.{sym, ap, arith}
use Rattle.std.proofs.lemmas.List.{length-append}
use Rattle.bw_text.specs.Lines.{cut_lines}
use Rattle.bw_model.proofs.ErrLemmas.{err_passed_on}
use Rattle.bw_recode.proofs.LineLemmas.{values-next, values-fault, values-short, values-end}
use Rattle.bw_recode.proofs.LineLemmas.{less_by_one, rest_after}
use Rattle.bw_recode.proofs.numbers.read_values.Goals as goal

pub returns-in_default-clause-values : goal.returns-in_default-clause-values
returns-in_default-clause-values c = λ kept.
    let left = less_by_one (length c.loop-lines.values.items) c.args.count (omega (arith, c.loop-lines-test.true, c.len.ensures)) in
    rw (c.at_line.ensures, c.number-number.ensures) (c.loop-lines.invariant.so_far ∙ values-short _ _ _ _ _ _ left (c.in_default.ensures.none.0))

pub returns-in_err-value_of_line-clause-values : goal.returns-in_err-value_of_line-clause-values
returns-in_err-value_of_line-clause-values c =
    let left = less_by_one (length c.loop-lines.values.items) c.args.count (omega (arith, c.loop-lines-test.true, c.len.ensures)) in
    rw (err_passed_on _ c.from_residual.ensures.1) (λ kept. c.loop-lines.invariant.so_far ∙ values-fault _ _ _ _ _ _ _ _ _ left c.in-Some.ensures.line (rw c.number-number.ensures at (sym c.value_of_line.ensures ∙ c.in_err-value_of_line.was)))

pub loop-lines-preserved : goal.loop-lines-preserved
loop-lines-preserved c =
    let done = c.loop-lines.values.items in
    let value = c.in_ok-value_of_line.field-0 in
    let left = less_by_one (length done) c.args.count (omega (arith, c.loop-lines-test.true, c.len.ensures)) in
    let size : length (done ++ value ∷ []) ≡ length done + 1 = length-append done (value ∷ []) in
    rw (c.in_ok-push.ensures.items, c.in-Some.ensures.number) (record {
      so_far = c.loop-lines.invariant.so_far
          ∙ values-next _ _ (c.args.count - length (done ++ value ∷ [])) _ _ _ _ value done (left ∙ ap (λ n. suc n) (omega (arith, size))) c.in-Some.ensures.line
          (rw c.number-number.ensures at (sym c.value_of_line.ensures ∙ c.in_ok-value_of_line.was));
      within = omega (arith, size, c.loop-lines-test.true, c.len.ensures);
      rest = rw size (rest_after (length done) (cut_lines c.args.lines.now.text) _ _ (sym c.loop-lines.invariant.rest ∙ c.in-Some.ensures.line));
      number = omega (arith, size, c.loop-lines.invariant.number);
    })

pub returns-clause-values : goal.returns-clause-values
returns-clause-values c =
    c.loop-lines.invariant.so_far ∙ values-end _ _ _ _ _ (omega (arith, c.loop-lines-test.false, c.len.ensures))
