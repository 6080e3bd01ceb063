use Rattle.std.proofs.Common.{◌≡◌, ◌<◌, eqb}
use Rattle.bw_lanes.specs.Lanes.{lanes_of_words}
use Rattle.bw_planes.specs.Planes.{planes_codes}
use Rattle.bw_planes.proofs.CompareLemmas.{compared_in}
use Rattle.bw_planes.proofs.compare.low_eq.Given as goal

-- in which lanes the lowest bits, this many, are those of the constant
abbrev pub invariant-loop-place : goal.invariant-loop-place
invariant-loop-place l = record { within : l.place < l.count; lanes : lanes_of_words l.equal ≡ compared_in eqb l.low l.place l.c (planes_codes l.width l.bytes) }
