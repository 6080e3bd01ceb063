use Rattle.std.proofs.Common.{◌∙◌, sym, ap, not, inl, w64, arith}
use Rattle.std.specs.Int.{trailing_zeros}
use Rattle.std.proofs.lemmas.Nat.Bits.{bit_at-trailing_zeros}
use Rattle.bw_segment.specs.Selected.{is_beyond, is_greatest}
use Rattle.bw_slices.proofs.CodeLemmas.{without_less}
use Rattle.bw_slices.proofs.FarLemmas.{far_at_end, far_but}
use Rattle.bw_slices.proofs.sparse_sum.none_near_in_word.Goals as goal

pub loop-left-smaller : goal.loop-left-smaller
loop-left-smaller c =
    let lowest = bit_at-trailing_zeros w64 c.loop-left.left (omega (arith, c.loop-left-test.true)) c.loop-left.auto.left-fits.fits in
    without_less c.loop-left.left (trailing_zeros w64 c.loop-left.left) lowest.0 lowest.1

pub loop-left-init : goal.loop-left-init
loop-left-init c = λ row within set. inl set

pub loop-left-preserved : goal.loop-left-preserved
loop-left-preserved c =
    let left = c.loop-left.left in
    let lowest = bit_at-trailing_zeros w64 left (omega (arith, c.loop-left-test.true)) c.loop-left.auto.left-fits.fits in
    let far = sym (ap (λ byte. not (is_beyond (not (is_greatest c.args.which)) c.args.top byte)) c.from.ensures) ∙ sym c.is_near.ensures ∙ c.if-is_near.false in
    far_but (is_greatest c.args.which) c.args.top c.args.bytes.now c.args.word c.args.rows left (trailing_zeros w64 left) lowest.0 far c.loop-left.invariant

pub returns : goal.returns
returns c = λ _. far_at_end (is_greatest c.args.which) c.args.top c.args.bytes.now c.args.word c.args.rows c.loop-left.left (omega (arith, c.loop-left-test.false)) c.loop-left.invariant
