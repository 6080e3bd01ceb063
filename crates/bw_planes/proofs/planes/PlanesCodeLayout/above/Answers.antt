use Rattle.std.proofs.Common.{◌∙◌, ap, ◌+◌, ◌-◌, ◌/◌, ◌%◌, ◌^◌, not, ltb, arith, mod-eq_of_lt}
use Rattle.bw_segment.proofs.LowLemmas.{lowest_ones, without_ones, above_ones}
use Rattle.bw_planes.proofs.CodeLemmas.{codes_agree}
use Rattle.bw_planes.proofs.CompareLemmas.{above_or_not}
use Rattle.bw_planes.proofs.planes.PlanesCodeLayout.above.Goals as goal

pub overflow_sub-width : goal.overflow_sub-width
overflow_sub-width c = (lowest_ones c.args.most c.trailing_ones-low.result c.args.width c.requires.most c.requires.width.1 (omega (arith, c.trailing_ones-low.ensures))).1

pub at_least-requires-clause-bits : goal.at_least-requires-clause-bits
at_least-requires-clause-bits c =
    let within = (lowest_ones c.args.most c.trailing_ones-low.result c.args.width c.requires.most c.requires.width.1 (omega (arith, c.trailing_ones-low.ensures))).1 in
    omega (arith, within)

pub returns : goal.returns
returns c =
    let width = c.args.width in
    let most = c.args.most in
    let low = c.trailing_ones-low.result in
    let ones = lowest_ones most low width c.requires.most c.requires.width.1 (omega (arith, c.trailing_ones-low.ensures)) in
    let within = ones.1 in
    c.at_least.ensures
    ∙ codes_agree (λ code. not (ltb (code / 2 ^ low % 2 ^ (width - low)) (most / 2 ^ low + 1))) (ltb most) width c.args.bytes.now
    (λ code small.
    ap (λ n. not (ltb n (most / 2 ^ low + 1))) (mod-eq_of_lt (without_ones code low (width - low) width small (omega (arith, within)))) ∙ above_or_not (code / 2 ^ low) (most / 2 ^ low) ∙ above_ones most code low ones.0)
