use Rattle.std.proofs.Common.{◌≡◌, ◌+◌, ◌-◌}
use Rattle.bw_planes.specs.Planes.{planes_codes}
use Rattle.bw_planes.proofs.TransposeLemmas.{bits_from}
use Rattle.bw_planes.proofs.planes.byte_at.Given as goal

-- the highest bits of the byte, this many
abbrev pub invariant-loop-place : goal.invariant-loop-place
invariant-loop-place l = l.byte ≡ bits_from (l.low + l.count - l.place) l.place (planes_codes l.width l.bytes)
