use Rattle.std.proofs.Common.{◌≡◌, ◌*◌, ◌^◌, ◌≤◌}
use Rattle.bw_planes.specs.Planes.{planes_codes}
use Rattle.bw_segment.proofs.SelectedLemmas.{sum_to}
use Rattle.bw_planes.proofs.planes.PlanesCodeLayout.sum.Given as goal

-- the sum of the codes that are selected by the words so far
abbrev pub invariant-loop-word : goal.invariant-loop-word
invariant-loop-word l = record {
  sum : l.sum ≡ sum_to l.word l.lanes (planes_codes l.width l.bytes);
  small : l.sum ≤ l.word * 2 ^ 69;
}
