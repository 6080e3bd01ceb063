use Rattle.bw_lanes.specs.Lanes.{lanes_of_words}
use Rattle.bw_segment.specs.Selected.{is_greatest}
use Rattle.bw_segment.proofs.ExtremeLemmas.{IsChosen}
use Rattle.bw_segment.proofs.extremes.extreme_of_few.Given as goal

-- the greatest or the least of the codes in the lanes from one on
abbrev pub invariant-loop-lane : goal.invariant-loop-lane
invariant-loop-lane g l = IsChosen (is_greatest l.which) (lanes_of_words l.lanes) (g.L.CodeLayout.packing.codes l.width l.bytes) l.end l.extreme

abbrev pub decreases-loop-lane : goal.decreases-loop-lane
decreases-loop-lane g l = l.end
