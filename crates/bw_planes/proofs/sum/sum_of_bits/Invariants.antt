use Rattle.std.proofs.Common.{◌≡◌, ◌+◌, ◌-◌, ◌*◌, ◌/◌, ◌%◌, ◌^◌, ◌≤◌, sum_by}
use Rattle.bw_lanes.specs.Lanes.{bits_from_least}
use Rattle.bw_model.specs.Selection.{selected_items}
use Rattle.bw_planes.specs.Planes.{planes_codes, codes_in_word}
use Rattle.bw_planes.proofs.sum.sum_of_bits.Given as goal

-- the sum of the numbers that the highest of the bits are, this many
abbrev pub invariant-loop-place : goal.invariant-loop-place
invariant-loop-place l = record {
  sum : l.sum ≡ sum_by (λ code. code / 2 ^ (l.low + l.count - l.place) % 2 ^ l.place) (selected_items (bits_from_least 64 l.rows) (codes_in_word l.word (planes_codes l.width l.bytes)));
  small : l.sum + 64 ≤ 64 * 2 ^ l.place;
}
