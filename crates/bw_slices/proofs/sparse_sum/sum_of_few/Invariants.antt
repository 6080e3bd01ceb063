use Rattle.std.proofs.Common.{◌≡◌, ◌+◌, ◌*◌, ◌/◌, ◌^◌, ◌≤◌}
use Rattle.bw_segment.proofs.SelectedLemmas.{sum_to}
use Rattle.bw_slices.specs.Slices.{slices_codes}
use Rattle.bw_slices.proofs.sparse_sum.sum_of_few.Given as goal

abbrev pub invariant-loop-word : goal.invariant-loop-word
invariant-loop-word l = record {
  sum : l.sum ≡ sum_to l.word l.lanes (slices_codes ((l.width + 7) / 8) l.bytes);
  small : l.sum ≤ 2 ^ 69 * l.word;
}
