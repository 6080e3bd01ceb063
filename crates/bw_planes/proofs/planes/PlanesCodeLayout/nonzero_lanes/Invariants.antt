use Rattle.std.proofs.Common.{◌≡◌}
use Rattle.bw_lanes.specs.Lanes.{lanes_of_words}
use Rattle.bw_planes.specs.Planes.{planes_codes}
use Rattle.bw_planes.proofs.CompareLemmas.{used_in}
use Rattle.bw_planes.proofs.planes.PlanesCodeLayout.nonzero_lanes.Given as goal

abbrev pub invariant-loop-bit : goal.invariant-loop-bit
invariant-loop-bit l = lanes_of_words l.used ≡ used_in l.bit (planes_codes l.width l.bytes)
