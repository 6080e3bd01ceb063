use Rattle.std.proofs.Common.{◌≡◌, ◌∙◌, ap, subst, ◌+◌, ◌-◌, ◌*◌, ◌/◌, ◌^◌, true, not, get_or}
use Rattle.std.proofs.Common.{arith}
use Rattle.std.proofs.lemmas.List.{get_or-map}
use Rattle.bw_lanes.specs.Lanes.{lanes_of_words}
use Rattle.bw_model.specs.StoredCodes.{byte_of}
use Rattle.bw_segment.specs.Selected.{is_beyond, is_greatest}
use Rattle.bw_slices.specs.Slices.{slices_codes}
use Rattle.bw_slices.proofs.FarLemmas.{far_apart, none_selected}
use Rattle.bw_slices.proofs.layout.SlicesCodeLayout.none_beyond.Goals as goal

pub returns : goal.returns
returns c = λ found.
    let greatest = (is_greatest c.args.which) in
    let other = c.args.other in
    let slice = c.slices_in-slice.result - 1 in
    let codes = slices_codes ((c.args.width + 7) / 8) c.args.bytes.now in
    none_selected (is_beyond greatest other) (lanes_of_words c.args.lanes.now) codes (λ lane lt set.
    let byte = ap (λ l. get_or l lane 0) c.slice_of.ensures ∙ get_or-map (byte_of slice) codes lane 0 0 lt in
    far_apart greatest c.args.width slice other (get_or codes lane 0) (omega (arith, c.slices_in-slice.ensures.slices)) (c.requires.small lane 0 lt)
    (subst (λ b. is_beyond (not greatest) (other / 2 ^ (8 * slice)) b ≡ true) byte (c.none_near.ensures found lane set)))
