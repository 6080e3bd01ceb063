-- Digits are plain, and spell a number within the bounds.
use Rattle.std.proofs.Common.{arith, sym, ◌∙◌, take, ap}
use Rattle.bw_csv.specs.Plain.{is_field_end}
use Rattle.bw_csv.proofs.PlainFields.{number_found, plain_number}
use Rattle.bw_csv.proofs.plain_field.number_at.Goals as goal

pub returns-then-is_within-clause-plain : goal.returns-then-is_within-clause-plain
returns-then-is_within-clause-plain c =
    let field = take c.in-Some.spelled.len c.args.text.now in
    (omega (arith, c.in-Some.ensures.within), plain_number field c.in-Some.ensures.digits, ap is_field_end (sym c.skip_bytes.ensures) ∙ sym c.is_field_end.ensures ∙ c.if-is_field_end.true)

pub returns-then-is_within-clause-value : goal.returns-then-is_within-clause-value
returns-then-is_within-clause-value c = λ number.
    let field = take c.in-Some.spelled.len c.args.text.now in
    number_found number c.args.rule.now field c.in-Some.spelled.number c.in-Some.ensures.digits c.in-Some.ensures.number (sym c.is_within.ensures ∙ c.if-is_within.true)
