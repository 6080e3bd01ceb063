use Rattle.std.proofs.Common.{◌≤◌}
use Rattle.bw_lanes.specs.Lanes.{lanes_of_words}
use Rattle.bw_lanes.specs.Last.{AreClear}
use Rattle.bw_lanes.proofs.last.last_between.Given as goal

-- the lanes that were looked at are 0
abbrev pub invariant-loop-past : goal.invariant-loop-past
invariant-loop-past l = record {
  within : l.past ≤ l.end;
  clear : AreClear (lanes_of_words l.plane) l.past l.end;
}

abbrev pub decreases-loop-past : goal.decreases-loop-past
decreases-loop-past l = l.past
