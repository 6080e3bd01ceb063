use Rattle.std.proofs.Common.{◌-◌, ◌≤◌}
use Rattle.bw.proofs.in_file.Front.read.Given as goal

-- so many bytes were read
abbrev pub invariant-loop-count : goal.invariant-loop-count
invariant-loop-count l = l.count ≤ 8

abbrev pub decreases-loop-count : goal.decreases-loop-count
decreases-loop-count l = 8 - l.count
