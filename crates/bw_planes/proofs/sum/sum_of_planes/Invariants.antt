use Rattle.std.proofs.Common.{◌≡◌, ◌+◌, ◌-◌, ◌*◌, ◌/◌, ◌%◌, ◌^◌, ◌≤◌, sum_by}
use Rattle.bw_lanes.specs.Lanes.{lanes_of_words}
use Rattle.bw_model.specs.Selection.{selected_items}
use Rattle.bw_planes.specs.Planes.{planes_codes}
use Rattle.bw_planes.proofs.sum.sum_of_planes.Given as goal

-- the sum of the numbers that the highest of the bits are, this many
abbrev pub invariant-loop-place : goal.invariant-loop-place
invariant-loop-place l = record {
  sum : l.sum ≡ sum_by (λ code. code / 2 ^ (l.low + l.count - l.place) % 2 ^ l.place) (selected_items (lanes_of_words l.lanes) (planes_codes l.width l.bytes));
  small : l.sum + 512 ≤ 512 * 2 ^ l.place;
}
