use Rattle.std.proofs.Common.{◌≡◌, ℕ, ◌<◌, ◌≤◌, false, get_or}
use Rattle.bw_lanes.specs.Lanes.{lanes_of_words}
use Rattle.bw_conformance_scan.proofs.selected.assert_within.Given as goal

-- none of the lanes so far is 1
abbrev pub invariant-loop-row : goal.invariant-loop-row
invariant-loop-row g l = (row : ℕ) → l.rows ≤ row → row < l.row → get_or (lanes_of_words l.plane) row false ≡ false
