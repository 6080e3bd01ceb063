-- Each turn takes one more digit.
use Rattle.std.proofs.Common.{◌-◌, get_or, take}
use Rattle.bw_text.specs.Number.{digits_value}
use Rattle.bw_text.proofs.Numbers.{decimal-nothing, decimal_more, cut_more}
use Rattle.bw_text.proofs.number.magnitude_of.Goals as goal

pub loop-digit-init : goal.loop-digit-init
loop-digit-init c = decimal-nothing

pub loop-digit-preserved : goal.loop-digit-preserved
loop-digit-preserved c =
    let i = c.loop-digit.digit-index in
    let n = digits_value (take i c.args.digits.now) in
    let u = get_or c.args.digits.now i 0 - 48 in
    let more = cut_more n c.loop-digit.magnitude u c.loop-digit.invariant in
    let step = decimal_more c.args.digits.now i c.loop-digit-test.true in
    rw (c.saturating_add-magnitude.ensures, c.saturating_mul.ensures, c.from-units.ensures, c.saturating_sub.ensures, step) more
