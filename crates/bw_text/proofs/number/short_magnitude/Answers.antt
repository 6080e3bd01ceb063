-- Each turn takes one more digit.
use Rattle.std.proofs.Common.{◌≡◌, ◌-◌, ◌<◌, ◌≤◌, get_or, refl, sym, ◌∙◌, arith}
use Rattle.std.specs.Char.{is_ascii_digit}
use Rattle.std.proofs.lemmas.List.Folds.{list_all_more}
use Rattle.bw_text.specs.Number.{digits_value}
use Rattle.bw_text.proofs.Numbers.{decimal_more, few_zeros, one_zero_more, zeros_before_last}
use Rattle.bw_text.proofs.number.short_magnitude.Goals as goal

pub loop-digit-init : goal.loop-digit-init
unfolding digits_value
loop-digit-init c = record { digits = refl; magnitude = refl; below = omega arith }

pub overflow_mul-magnitude : goal.overflow_mul-magnitude
overflow_mul-magnitude c =
    let few : c.loop-digit.digit-index < 18 = let test = c.loop-digit-test.true in let most = c.requires in omega arith in
    let below = zeros_before_last c.loop-digit.digit-index c.loop-digit.magnitude few c.loop-digit.invariant.below in
    omega arith

pub overflow_add-magnitude : goal.overflow_add-magnitude
overflow_add-magnitude c =
    let few : c.loop-digit.digit-index < 18 = let test = c.loop-digit-test.true in let most = c.requires in omega arith in
    let below = zeros_before_last c.loop-digit.digit-index c.loop-digit.magnitude few c.loop-digit.invariant.below in
    let fits = c.saturating_sub.type_inv in
    omega (arith, c.from-units.ensures)

pub loop-digit-preserved : goal.loop-digit-preserved
loop-digit-preserved c =
    let i = c.loop-digit.digit-index in
    let step = decimal_more c.args.text.now i c.loop-digit-test.true in
    let units : c.from-units.result ≡ get_or c.args.text.now i 0 - 48 = c.from-units.ensures ∙ c.saturating_sub.ensures in
    record {
      digits = rw (list_all_more is_ascii_digit c.args.text.now i 0 c.loop-digit-test.true, c.loop-digit.invariant.digits) (sym c.is_ascii_digit.ensures.value ∙ c.if-not-is_ascii_digit.false);
      magnitude = rw (step, ← c.loop-digit.invariant.magnitude, units) refl;
      below = one_zero_more i c.loop-digit.magnitude c.from-units.result c.loop-digit.invariant.below (grind (arith, units));
    }

pub returns-clause-small : goal.returns-clause-small
returns-clause-small c =
    let few : c.loop-digit.digit-index ≤ 18 = let end = c.loop-digit.auto.digit-index-end in let most = c.requires in omega arith in
    let below = few_zeros c.loop-digit.digit-index c.loop-digit.magnitude few c.loop-digit.invariant.below in
    omega arith
