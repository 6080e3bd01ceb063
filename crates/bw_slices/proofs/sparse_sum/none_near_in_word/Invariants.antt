use Rattle.bw_segment.specs.Selected.{is_greatest}
use Rattle.bw_slices.proofs.FarLemmas.{AreFarButLeft}
use Rattle.bw_slices.proofs.sparse_sum.none_near_in_word.Given as goal

abbrev pub decreases-loop-left : goal.decreases-loop-left
decreases-loop-left l = l.left

abbrev pub invariant-loop-left : goal.invariant-loop-left
invariant-loop-left l = AreFarButLeft (is_greatest l.which) l.top l.bytes l.word l.rows l.left
