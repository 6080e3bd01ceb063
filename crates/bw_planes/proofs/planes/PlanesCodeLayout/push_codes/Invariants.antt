use Rattle.std.proofs.Common.{◌≡◌, ◌++◌, ◌-◌}
use Rattle.bw_planes.specs.Planes.{planes_bytes}
use Rattle.bw_planes.proofs.planes.PlanesCodeLayout.push_codes.Given as goal

-- what is there and what is to come
abbrev pub invariant-loop-place : goal.invariant-loop-place
invariant-loop-place l = l.bytes.items ++ planes_bytes (l.width - l.place) l.codes ≡ l.initial.bytes.items ++ planes_bytes l.width l.codes
