use Rattle.std.proofs.Common.{◌≡◌, ◌∙◌, ◌+◌, ◌*◌, ◌/◌, take, drop, length, w64, arith, get_or-take}
use Rattle.std.proofs.Common.{get_or-drop, length-take, length-drop}
use Rattle.std.specs.Int.{trailing_zeros}
use Rattle.std.proofs.lemmas.Nat.Bits.{bit_at-trailing_zeros}
use Rattle.bw_lanes.specs.Lanes.{bits_from_least}
use Rattle.bw_slices.specs.Slices.{slices_codes}
use Rattle.bw_slices.proofs.KeptLemmas.{length-slices_codes}
use Rattle.bw_slices.proofs.CodeLemmas.{bit_cleared, selected_small, without_less}
use Rattle.bw_slices.proofs.sparse_sum.sum_of_word.Goals as goal

pub loop-left-smaller : goal.loop-left-smaller
loop-left-smaller c =
    let lowest = bit_at-trailing_zeros w64 c.loop-left.left (omega (arith, c.loop-left-test.true)) c.loop-left.auto.left-fits.fits in
    without_less c.loop-left.left (trailing_zeros w64 c.loop-left.left) lowest.0 lowest.1

pub loop-left-preserved : goal.loop-left-preserved
loop-left-preserved c =
    let codes = slices_codes ((c.args.width + 7) / 8) c.args.bytes.now in
    let rest = drop (64 * c.args.word) codes in
    let left = c.loop-left.left in
    let row = trailing_zeros w64 left in
    let lowest = bit_at-trailing_zeros w64 left (omega (arith, c.loop-left-test.true)) c.loop-left.auto.left-fits.fits in
    let long : length (take 64 rest) ≡ 64 = omega (arith, length-take 64 rest, length-drop (64 * c.args.word) codes, length-slices_codes ((c.args.width + 7) / 8) c.args.bytes.now) in
    let code = get_or-take 64 rest row 0 lowest.0 ∙ get_or-drop (64 * c.args.word) codes row 0 in
    omega (arith, bit_cleared left row (take 64 rest) lowest.0 long lowest.1, code)

pub overflow_add-sum : goal.overflow_add-sum
overflow_add-sum c =
    omega (arith, c.code.type_inv, selected_small (bits_from_least 64 c.args.rows) (64 * c.args.word) c.args.width (slices_codes ((c.args.width + 7) / 8) c.args.bytes.now) (omega arith) c.requires.small)

pub returns-clause-bound : goal.returns-clause-bound
returns-clause-bound c =
    omega (arith, selected_small (bits_from_least 64 c.args.rows) (64 * c.args.word) c.args.width (slices_codes ((c.args.width + 7) / 8) c.args.bytes.now) (omega arith) c.requires.small)
