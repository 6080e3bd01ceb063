-- Each turn puts one more value after those so far.
use Rattle.std.proofs.Common.{◌∙◌, sym, ap, Err}
use Rattle.std.proofs.lemmas.List.{drop_all, drop_more}
use Rattle.bw_csv.proofs.FieldLemmas.{drop-field_at, drop-no_field, values-next}
use Rattle.bw_csv.proofs.FieldLemmas.{values-fault, values-short, values-end}
use Rattle.bw_csv.specs.Rule.{any_number}
use Rattle.bw_csv.proofs.row.read_values.Goals as goal
use Rattle.bw_model.proofs.ErrLemmas.{err_passed_on}

pub returns-in_default-clause-values : goal.returns-in_default-clause-values
returns-in_default-clause-values c = λ _.
    let rule = drop_more _ c.loop-i.i any_number c.loop-i-test.true in
    let none = drop-no_field _ c.loop-i.i (sym c.in_default.ensures.value) in
    c.loop-i.invariant ∙ values-short _ _ _ _ _ _ rule none ∙ ap Err (sym c.at_record.ensures)

pub returns-in_err-value-clause-values : goal.returns-in_err-value-clause-values
returns-in_err-value-clause-values c =
    let rule = drop_more _ c.loop-i.i _ c.loop-i-test.true in
    let field = drop-field_at _ c.loop-i.i _ (sym c.in-Some.ensures.value) in
    rw (err_passed_on _ c.from_residual.ensures.1) (λ aside. c.loop-i.invariant ∙ values-fault _ _ _ _ _ _ _ _ _ rule field (c.in_err-value.ensures.value aside))

pub loop-i-preserved : goal.loop-i-preserved
loop-i-preserved c =
    let rule = drop_more _ c.loop-i.i _ c.loop-i-test.true in
    let field = drop-field_at _ c.loop-i.i _ (sym c.in-Some.ensures.value) in
    rw c.in_ok-push.ensures.items (c.loop-i.invariant ∙ values-next _ _ _ _ _ _ _ _ _ rule field c.in_ok-value.ensures.value)

pub returns-clause-values : goal.returns-clause-values
returns-clause-values c = c.loop-i.invariant ∙ values-end _ _ _ _ (drop_all c.loop-i.i c.args.rules.now c.loop-i-test.false)
