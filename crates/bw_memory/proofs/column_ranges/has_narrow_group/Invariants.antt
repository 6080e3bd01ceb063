-- Each step goes on.
use Rattle.std.proofs.Common.{◌-◌, ◌<◌}
use Rattle.bw_memory.proofs.column_ranges.has_narrow_group.Given as goal

abbrev pub invariant-loop-group : goal.invariant-loop-group
invariant-loop-group g l = record { more : 0 < l.step }

abbrev pub decreases-loop-group : goal.decreases-loop-group
decreases-loop-group g l = l.groups - l.group
