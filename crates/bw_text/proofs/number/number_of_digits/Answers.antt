-- Each turn takes one more digit; if that is too much, so is the whole.
use Rattle.std.proofs.Common.{◌-◌, get_or, arith, refl, ap, ◌∙◌, take_all}
use Rattle.bw_text.specs.Number.{digits_value}
use Rattle.bw_text.proofs.Numbers.{decimal_more, too_much, enough}
use Rattle.bw_text.proofs.number.number_of_digits.Goals as goal

pub loop-digit-init : goal.loop-digit-init
unfolding digits_value
loop-digit-init c = record { spelled = refl; fits = omega arith }

pub returns-in_default : goal.returns-in_default
returns-in_default c =
    too_much c.args.digits.now c.loop-digit.digit-index c.loop-digit.number c.loop-digit-test.true c.loop-digit.invariant.spelled
    (omega (arith, c.in_default.ensures))

pub returns-in_default-checked_add : goal.returns-in_default-checked_add
returns-in_default-checked_add c =
    let units = get_or c.args.digits.now c.loop-digit.digit-index 0 - 48 in
    too_much c.args.digits.now c.loop-digit.digit-index c.loop-digit.number c.loop-digit-test.true c.loop-digit.invariant.spelled
    (omega (arith, c.in_default-checked_add.ensures, c.in-Some.ensures.1, c.from-units.ensures, c.saturating_sub.ensures))

pub loop-digit-preserved : goal.loop-digit-preserved
loop-digit-preserved c = record {
  spelled = omega (arith, c.loop-digit.invariant.spelled, decimal_more c.args.digits.now c.loop-digit.digit-index c.loop-digit-test.true, c.in-Some-checked_add.ensures.1, c.in-Some.ensures.1, c.from-units.ensures, c.saturating_sub.ensures);
  fits = omega (arith, c.in-Some-checked_add.ensures.0, c.in-Some-checked_add.ensures.1);
}

pub returns : goal.returns
returns c =
    let all = take_all c.loop-digit.digit-index c.args.digits.now c.loop-digit-test.false in
    rw (c.loop-digit.invariant.spelled, all) (enough (digits_value c.args.digits.now) (omega (arith, c.loop-digit.invariant.fits, c.loop-digit.invariant.spelled ∙ ap digits_value all)))
