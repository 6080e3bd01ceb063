use Rattle.std.proofs.Common.{◌≡◌, ◌∙◌, refl, sym, ap, ◌+◌, ◌-◌, ◌*◌, ◌/◌, ◌^◌, ◌==◌, ◌&&◌, map}
use Rattle.std.proofs.Common.{arith, fold}
use lib.Lanes.{zip2}
use Rattle.bw_lanes.specs.Lanes.{lanes_of_words}
use Rattle.bw_lanes.specs.Selected.{as_byte, bytes_selected}
use Rattle.bw_model.specs.Selection.{selected_items}
use Rattle.bw_model.specs.StoredCodes.{byte_of}
use Rattle.bw_segment.proofs.SelectedLemmas.{all_selected, selected_where}
use Rattle.bw_segment.proofs.DescentLemmas.{choice, descended_as, descent_begins, descent_ends}
use Rattle.bw_segment.proofs.DescentLemmas.{none_chosen}
use Rattle.bw_slices.specs.Slices.{slices_codes}
use Rattle.bw_segment.specs.Selected.{is_greatest}
use Rattle.bw_slices.proofs.CodeLemmas.{all_within, byte_more, bytes_before, none_left}
use Rattle.bw_slices.proofs.ChosenLemmas.{blank, blank_small, chosen_selected, next_chosen}
use Rattle.bw_slices.proofs.ChosenLemmas.{chosen_below}
use Rattle.bw_slices.proofs.extremes.chosen_code.Goals as goal

pub returns-then-is_zero-clause-chosen : goal.returns-then-is_zero-clause-chosen
returns-then-is_zero-clause-chosen c =
    let slices = (c.args.width + 7) / 8 in
    none_chosen (choice (is_greatest c.args.which)) (selected_items (lanes_of_words c.args.lanes.now) (slices_codes slices c.args.bytes.now))
    (sym (none_left c.args.bytes.now c.args.lanes.now slices c.told-lanes) ∙ sym c.is_zero.ensures ∙ c.if-is_zero.true)

pub loop-place-init : goal.loop-place-init
loop-place-init c =
    let slices = (c.args.width + 7) / 8 in
    let codes = slices_codes slices c.args.bytes.now in
    let lanes = lanes_of_words c.args.lanes.now in
    let bits = 8 * (c.slices_in-slices.result - 0) in
    let some = sym (none_left c.args.bytes.now c.args.lanes.now slices c.told-lanes) ∙ sym c.is_zero.ensures ∙ c.if-is_zero.false in
    (lanes, c.bytes_of_plane-left.ensures, descent_begins (is_greatest c.args.which) (selected_items lanes codes) bits (all_selected _ lanes codes (all_within c.args.width bits codes (omega arith) c.requires.small)) some)

pub overflow_mul-code : goal.overflow_mul-code
overflow_mul-code c = bytes_before c.loop-place.code c.loop-place.place c.loop-place.invariant.2.small (omega arith)

pub overflow_add-code : goal.overflow_add-code
overflow_add-code c = byte_more c.loop-place.code c.from.result c.loop-place.place c.loop-place.invariant.2.small (omega arith) (omega arith)

pub loop-place-preserved : goal.loop-place-preserved
loop-place-preserved c =
    let g = (is_greatest c.args.which) in
    let codes = slices_codes ((c.args.width + 7) / 8) c.args.bytes.now in
    let lanes = c.loop-place.invariant.0 in
    let are = c.loop-place.invariant.1 in
    let slice = c.slices_in-slices.result - 1 - c.loop-place.place in
    let byte = c.chosen_in-byte.result in
    let is = c.chosen_in-byte.ensures lanes are ∙ ap (λ l. fold (choice g) (blank g) (bytes_selected (blank g) lanes l)) c.slice_of-slice.ensures ∙ chosen_selected g (8 * slice) (blank g) lanes codes (blank_small g) in
    let kept = zip2 (λ lane b. lane && (b == byte)) lanes (map (byte_of slice) codes) in
    let rows = c.keep_in.ensures lanes are ∙ ap (λ l. map as_byte (zip2 (λ lane b. lane && (b == byte)) lanes l)) c.slice_of-slice.ensures in (
      kept,
      rows,
      next_chosen g _ (selected_items lanes codes) (selected_items kept codes) slice _ _ _ _ c.loop-place.code byte c.from.result (omega arith) (omega arith) (omega arith) c.from.ensures
          (selected_where (λ b. b == byte) (byte_of slice) lanes codes) (omega arith) is c.loop-place.invariant.2,
    )

pub returns-clause-chosen : goal.returns-clause-chosen
returns-clause-chosen c =
    let code = c.loop-place.code in
    let end : 8 * (c.slices_in-slices.result - c.loop-place.place) ≡ 0 = omega arith in
    descent_ends (is_greatest c.args.which) _ _ _ code (descended_as (is_greatest c.args.which) _ _ _ _ 0 _ code code refl end refl c.loop-place.invariant.2)

pub returns-clause-bound : goal.returns-clause-bound
returns-clause-bound c =
    let lanes = lanes_of_words c.args.lanes.now in
    let codes = slices_codes ((c.args.width + 7) / 8) c.args.bytes.now in
    chosen_below (is_greatest c.args.which) (2 ^ 63) c.loop-place.code (selected_items lanes codes) (all_selected _ lanes codes (all_within c.args.width 63 codes (omega arith) c.requires.small)) (returns-clause-chosen c)
