use Rattle.std.proofs.Common.{◌≡◌}
use Rattle.bw_planes.proofs.CodeLemmas.{top_bits}
use Rattle.bw_planes.proofs.planes.PlanesCodeLayout.code.Given as goal

abbrev pub invariant-loop-place : goal.invariant-loop-place
invariant-loop-place l = l.code ≡ top_bits l.width l.place l.lane l.bytes
