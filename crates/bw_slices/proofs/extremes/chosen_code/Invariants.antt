use Rattle.std.proofs.Common.{◌≡◌, ◌+◌, ◌-◌, ◌*◌, ◌/◌, Bool, List, map}
use Rattle.bw_lanes.specs.Lanes.{lanes_of_words}
use Rattle.bw_lanes.specs.Selected.{as_byte}
use Rattle.bw_model.specs.Selection.{selected_items}
use Rattle.bw_segment.proofs.DescentLemmas.{IsDescended}
use Rattle.bw_segment.specs.Selected.{is_greatest}
use Rattle.bw_slices.specs.Slices.{slices_codes}
use Rattle.bw_slices.proofs.extremes.chosen_code.Given as goal

-- the codes in the lanes that are left have the same bytes so far, and the one that is sought is
-- among them
abbrev pub invariant-loop-place : goal.invariant-loop-place
invariant-loop-place l =
    let codes = slices_codes ((l.width + 7) / 8) l.bytes in
    (left : List Bool) × (l.left ≡ map as_byte left)
    × IsDescended (is_greatest l.which) (selected_items (lanes_of_words l.lanes) codes) (selected_items left codes) (8 * (l.slices - l.place)) (8 * l.place) l.code
