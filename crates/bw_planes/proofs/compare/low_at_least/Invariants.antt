use Rattle.std.proofs.Common.{◌≡◌, not, ltb}
use Rattle.bw_lanes.specs.Lanes.{lanes_of_words}
use Rattle.bw_planes.specs.Planes.{planes_codes}
use Rattle.bw_planes.proofs.CompareLemmas.{compared_in}
use Rattle.bw_planes.proofs.compare.low_at_least.Given as goal

-- how the lowest bits, this many, stand to those of the constant
abbrev pub invariant-loop-place : goal.invariant-loop-place
invariant-loop-place l = lanes_of_words l.at_least ≡ compared_in (λ s t. not (ltb s t)) l.low l.place l.c (planes_codes l.width l.bytes)
