use Rattle.std.proofs.Common.{◌∙◌, arith}
use Rattle.bw_slices.proofs.AboveLemmas.{none_above_in, next_above_in, all_above_in}
use Rattle.bw_slices.proofs.codes_above.set_above.Goals as goal

pub loop-slice-init : goal.loop-slice-init
loop-slice-init c = none_above_in c.args.bytes.now c.args.slices c.args.most c.args.first (λ at. (c.type_inv.bytes at).fits) c.requires.size c.requires.rows

pub loop-slice-preserved : goal.loop-slice-preserved
loop-slice-preserved c =
    c.next_above-set.ensures
    ∙ next_above_in c.args.bytes.now c.args.slices c.args.most c.args.first (λ at. (c.type_inv.bytes at).fits) c.requires.size c.requires.rows
    c.loop-slice.slice c.byte_at.result c.loop-slice.set (omega arith) c.byte_at.ensures c.loop-slice.invariant

pub returns : goal.returns
returns c =
    c.loop-slice.invariant ∙ all_above_in c.args.bytes.now c.args.slices c.args.most c.args.first (λ at. (c.type_inv.bytes at).fits) c.requires.size c.requires.rows c.loop-slice.slice (omega arith) c.requires.most
