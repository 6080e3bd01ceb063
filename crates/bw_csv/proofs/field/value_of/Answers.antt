-- A field of digits, alone or after a minus sign, spells their number.
use Rattle.std.proofs.Common.{◌∙◌, Result, Ok, Err, refl, sym, subst}
use Rattle.bw_model.specs.declared.fault.Fault.{Fault}
use Rattle.bw_model.specs.Row.{Value}
use Rattle.bw_csv.specs.Rows.{MatchesUnlessExempt}
use Rattle.bw_csv.proofs.DigitsAlone.{read_digits}
use Rattle.bw_csv.proofs.field.value_of.Goals as goal

-- what is expected, exactly, is so unless it is an exempt error
exactly : (result : Result Value Fault) → MatchesUnlessExempt (λ value. value) result result
exactly (Ok value) = refl
exactly (Err fault) = λ kept. refl

pub returns-in-Some-clause-exact : goal.returns-in-Some-clause-exact
returns-in-Some-clause-exact c =
    c.within_bounds.ensures.exact
    ∙ sym (read_digits c.args.number c.args.rule.now c.args.field.now c.in-Some.n
    c.is_minus.result c.after_minus.result.now c.is_minus.ensures c.after_minus.ensures (sym c.in-Some.is ∙ c.number_in.ensures))

pub returns-in-Some-clause-value : goal.returns-in-Some-clause-value
returns-in-Some-clause-value c =
    subst (λ expected. MatchesUnlessExempt (λ value. value) c.within_bounds.result expected)
    (returns-in-Some-clause-exact c) (exactly c.within_bounds.result)
