-- Each turn takes one more digit.
use Rattle.std.proofs.Common.{◌-◌, get_or, take, refl, sym, ◌∙◌}
use Rattle.std.specs.Char.{is_ascii_digit}
use Rattle.std.proofs.lemmas.List.Folds.{list_all_more}
use Rattle.bw_text.specs.Number.{digits_value}
use Rattle.bw_text.proofs.Numbers.{decimal-nothing, decimal_more, one_more}
use Rattle.bw_text.proofs.number.long_magnitude.Goals as goal

pub loop-digit-init : goal.loop-digit-init
loop-digit-init c = record { digits = refl; magnitude = decimal-nothing }

pub loop-digit-preserved : goal.loop-digit-preserved
loop-digit-preserved c =
    let i = c.loop-digit.digit-index in
    let n = digits_value (take i c.args.text.now) in
    let u = get_or c.args.text.now i 0 - 48 in
    let more = one_more n c.loop-digit.magnitude u c.loop-digit.invariant.magnitude in
    let step = decimal_more c.args.text.now i c.loop-digit-test.true in
    record {
      digits = rw (list_all_more is_ascii_digit c.args.text.now i 0 c.loop-digit-test.true, c.loop-digit.invariant.digits) (sym c.is_ascii_digit.ensures.value ∙ c.if-not-is_ascii_digit.false);
      magnitude = rw (c.with_digit-magnitude.ensures, c.from-units.ensures, c.saturating_sub.ensures, step) more;
    }
