use Rattle.bw_planes.proofs.ChoiceLemmas.{IsLeft}
use Rattle.bw_planes.proofs.planes.chosen_code.Given as goal

abbrev pub invariant-loop-place : goal.invariant-loop-place
invariant-loop-place l = IsLeft l.is_sought l.width l.bytes l.lanes l.left l.place l.code
