use Rattle.std.proofs.Common.{◌≡◌, ◌+◌, ◌*◌, ◌^◌, ◌≤◌}
use Rattle.bw_lanes.specs.Lanes.{lanes_of_words}
use Rattle.bw_slices.proofs.CodeLemmas.{high_sum}
use Rattle.bw_slices.proofs.layout.SlicesCodeLayout.sum.Given as goal

abbrev pub invariant-loop-place : goal.invariant-loop-place
invariant-loop-place l = record { sum : l.sum ≡ high_sum l.width l.place (lanes_of_words l.lanes) l.bytes; small : l.sum + 512 ≤ 512 * 2 ^ (8 * l.place) }
