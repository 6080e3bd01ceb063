use Rattle.std.proofs.Common.{◌≡◌, ◌∙◌, sym, ap, ◌+◌, ◌-◌, ◌*◌, ◌/◌, ◌≤◌, ◌&&◌, map, not, arith}
use Rattle.std.proofs.Common.{pow_mono}
use Rattle.std.specs.List.{list_all}
use lib.Lanes.{zip2}
use Rattle.bw_lanes.specs.Lanes.{lanes_of_words}
use Rattle.bw_lanes.proofs.AnyLemmas.{any_is}
use Rattle.bw_model.specs.Selection.{selected_items}
use Rattle.bw_segment.specs.Selected.{is_greatest}
use Rattle.bw_segment.proofs.SelectedLemmas.{any_selected}
use Rattle.bw_slices.specs.Slices.{slices_codes}
use Rattle.bw_slices.proofs.BeyondLemmas.{is_near, none_beyond, no_more}
use Rattle.bw_slices.proofs.beyond.none_beyond.Goals as goal

pub near-requires-clause-other : goal.near-requires-clause-other
near-requires-clause-other c =
    let low = c.saturating_sub.result / 8 in
    let whole : c.args.width ≤ 8 * (c.slices_in.result - low + low) = omega (arith, c.slices_in.ensures.slices, c.saturating_sub.ensures) in
    let most = pow_mono {i = c.args.width} {j = 8 * (c.slices_in.result - low + low)} whole in
    omega (arith, most, no_more c.args.other c.args.width (omega (arith, c.if-other-width-ne0.false)))

pub returns : goal.returns
returns c = λ clear.
    let greatest = is_greatest c.args.which in
    let low = c.saturating_sub.result / 8 in
    let lanes = lanes_of_words c.args.lanes.now in
    let codes = slices_codes ((c.args.width + 7) / 8) c.args.bytes.now in
    let test = is_near greatest low c.args.other in
    let all : c.slices_in.result - low + low ≡ (c.args.width + 7) / 8 = omega (arith, c.slices_in.ensures.slices, c.saturating_sub.ensures) in
    let those = c.near.ensures ∙ ap (λ k. map test (slices_codes k c.args.bytes.now)) all in
    let none = sym (ap (list_all not) (c.and.ensures ∙ ap (zip2 (λ x y. x && y) lanes) those)) ∙ sym c.is_zero.ensures ∙ clear in
    none_beyond greatest low c.args.other (selected_items lanes codes) (sym (any_selected test lanes codes) ∙ any_is (zip2 (λ x y. x && y) lanes (map test codes)) ∙ ap not none)
