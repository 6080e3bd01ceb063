use Rattle.std.proofs.Common.{arith}
use Rattle.bw_segment.specs.Selected.{is_greatest}
use Rattle.bw_slices.proofs.FarLemmas.{all_far, far_more}
use Rattle.bw_slices.proofs.sparse_sum.none_near.Goals as goal

pub loop-word-init : goal.loop-word-init
loop-word-init c = λ lane within set. absurd (omega (arith, within))

pub loop-word-preserved : goal.loop-word-preserved
loop-word-preserved c =
    far_more (is_greatest c.args.which) c.args.top c.args.bytes.now c.args.lanes.now c.loop-word.word (omega (arith, c.told-lanes)) (omega (arith, c.loop-word-test.true))
    (c.none_near_in_word.ensures c.if-not-none_near_in_word.false) c.loop-word.invariant

pub returns : goal.returns
returns c = λ _. all_far (is_greatest c.args.which) c.args.top c.args.bytes.now c.args.lanes.now c.loop-word.word (omega (arith, c.told-lanes)) (omega (arith, c.loop-word-test.false)) c.loop-word.invariant
