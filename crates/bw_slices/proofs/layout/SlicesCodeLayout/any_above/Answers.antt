use Rattle.std.proofs.Common.{◌∙◌, ◌+◌, ◌-◌, ◌*◌, ◌/◌, arith}
use Rattle.bw_segment.proofs.LowLemmas.{lowest_ones, without_ones}
use Rattle.bw_slices.proofs.AboveLemmas.{front_tells}
use Rattle.bw_slices.proofs.layout.SlicesCodeLayout.any_above.Goals as goal

pub overflow_sub-slices_in : goal.overflow_sub-slices_in
overflow_sub-slices_in c =
    omega (arith, (lowest_ones c.args.most (8 * (c.trailing_ones.result / 8)) c.args.width c.requires.most c.requires.width.1 (omega arith)).1)

pub is_any_above-requires-clause-most : goal.is_any_above-requires-clause-most
is_any_above-requires-clause-most c = without_ones c.args.most _ _ c.args.width c.requires.most (omega arith)

pub returns : goal.returns
returns c =
    let low = c.trailing_ones.result / 8 in
    let ones = lowest_ones c.args.most (8 * low) c.args.width c.requires.most c.requires.width.1 (omega arith) in
    c.is_any_above.ensures ∙ front_tells c.args.bytes.now (c.slices_in.result - low) low c.args.most ((c.args.width + 7) / 8) (λ at. (c.type_inv.bytes at).fits) ones.0 (omega (arith, ones.1))
