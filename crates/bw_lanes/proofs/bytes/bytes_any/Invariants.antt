use Rattle.std.proofs.Common.{◌≡◌, ◌&&◌, not}
use Rattle.bw_lanes.specs.Lanes.{are_zero}
use Rattle.bw_lanes.proofs.AnyLemmas.{any_to}
use Rattle.bw_lanes.proofs.bytes.bytes_any.Given as goal

abbrev pub invariant-loop-word : goal.invariant-loop-word
invariant-loop-word l = l.any ≡ any_to (λ among row. among && not (are_zero l.slices row l.count)) l.word l.rows
