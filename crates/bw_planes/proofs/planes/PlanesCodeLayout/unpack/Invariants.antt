use Rattle.std.proofs.Common.{◌≡◌, ◌-◌}
use Rattle.bw_segment.proofs.ByteLemmas.{codes_from}
use Rattle.bw_planes.specs.Planes.{planes_codes}
use Rattle.bw_planes.proofs.planes.PlanesCodeLayout.unpack.Given as goal

-- what the bytes so far spell
abbrev pub invariant-loop-place : goal.invariant-loop-place
invariant-loop-place l = l.codes ≡ codes_from (l.slices - l.place) (planes_codes l.width l.bytes)
