use Rattle.std.proofs.Common.{◌*◌}
use Rattle.bw_lanes.specs.Lanes.{lanes_of_words}
use Rattle.bw_segment.specs.Selected.{is_greatest}
use Rattle.bw_slices.proofs.FarLemmas.{AreFar}
use Rattle.bw_slices.proofs.sparse_sum.none_near.Given as goal

abbrev pub invariant-loop-word : goal.invariant-loop-word
invariant-loop-word l = AreFar (is_greatest l.which) l.top (lanes_of_words l.lanes) l.bytes (64 * l.word)
