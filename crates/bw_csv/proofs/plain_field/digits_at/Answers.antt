-- Each turn takes one more digit.
use Rattle.std.proofs.Common.{◌≡◌, ◌-◌, ◌<◌, ◌≤◌, get_or, length, refl, sym, ◌∙◌, arith}
use Rattle.std.specs.Char.{is_ascii_digit}
use Rattle.std.proofs.lemmas.List.Folds.{list_all_more}
use Rattle.bw_text.specs.Number.{digits_value}
use Rattle.bw_text.proofs.Numbers.{decimal_more, few_zeros, one_zero_more, zeros_before_last}
use Rattle.bw_csv.proofs.plain_field.digits_at.Goals as goal

pub loop-i-init : goal.loop-i-init
unfolding digits_value
loop-i-init c = record { digits = refl; magnitude = refl; below = omega arith }

pub overflow_mul-magnitude : goal.overflow_mul-magnitude
overflow_mul-magnitude c =
    let few : c.loop-i.i < 18 = omega (arith, c.min-i-end.ensures) in
    let below = zeros_before_last c.loop-i.i c.loop-i.magnitude few c.loop-i.invariant.below in
    omega arith

pub overflow_add-magnitude : goal.overflow_add-magnitude
overflow_add-magnitude c =
    let few : c.loop-i.i < 18 = omega (arith, c.min-i-end.ensures) in
    let below = zeros_before_last c.loop-i.i c.loop-i.magnitude few c.loop-i.invariant.below in
    let fits = c.saturating_sub.type_inv in
    omega (arith, c.from-units.ensures)

pub loop-i-preserved : goal.loop-i-preserved
loop-i-preserved c =
    let i = c.loop-i.i in
    let within : i < length c.args.text.now = omega (arith, c.min-i-end.ensures) in
    let step = decimal_more c.args.text.now i within in
    let units : c.from-units.result ≡ get_or c.args.text.now i 0 - 48 = c.from-units.ensures ∙ c.saturating_sub.ensures in
    record {
      digits = rw (list_all_more is_ascii_digit c.args.text.now i 0 within, c.loop-i.invariant.digits) (sym c.is_ascii_digit.ensures.value ∙ c.if-not-is_ascii_digit.false);
      magnitude = rw (step, ← c.loop-i.invariant.magnitude, units) refl;
      below = one_zero_more i c.loop-i.magnitude c.from-units.result c.loop-i.invariant.below (grind (arith, units));
    }

pub returns-then-i-gt0-clause-small : goal.returns-then-i-gt0-clause-small
returns-then-i-gt0-clause-small c =
    let few : c.loop-i.i ≤ 18 = omega (arith, c.min-i-end.ensures) in
    let below = few_zeros c.loop-i.i c.loop-i.magnitude few c.loop-i.invariant.below in
    omega arith
