use Rattle.std.proofs.Common.{◌≡◌, ◌==◌, map}
use Rattle.std.specs.List.{range_with_len}
use Rattle.bw_lanes.specs.Lanes.{are_zero}
use Rattle.bw_lanes.proofs.bytes.or_slices.Given as goal

abbrev pub invariant-loop-place : goal.invariant-loop-place
invariant-loop-place l = map (λ byte. byte == 0) l.bytes ≡ map (λ row. are_zero l.slices row l.place) (range_with_len l.first 64)
