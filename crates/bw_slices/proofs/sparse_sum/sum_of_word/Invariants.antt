use Rattle.std.proofs.Common.{◌≡◌, ◌+◌, ◌*◌, ◌/◌, sum, take, drop}
use Rattle.bw_lanes.specs.Lanes.{bits_from_least}
use Rattle.bw_model.specs.Selection.{selected_items}
use Rattle.bw_slices.specs.Slices.{slices_codes}
use Rattle.bw_slices.proofs.sparse_sum.sum_of_word.Given as goal

abbrev pub decreases-loop-left : goal.decreases-loop-left
decreases-loop-left l = l.left

-- what was added and what is left
abbrev pub invariant-loop-left : goal.invariant-loop-left
invariant-loop-left l =
    let codes = take 64 (drop (64 * l.word) (slices_codes ((l.width + 7) / 8) l.bytes)) in
    l.sum + sum (selected_items (bits_from_least 64 l.left) codes) ≡ sum (selected_items (bits_from_least 64 l.rows) codes)
