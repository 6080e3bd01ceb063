use Rattle.std.proofs.Common.{◌∙◌, refl, sym, ap, min, get_or, fold}
use Rattle.bw_lanes.proofs.SelectedLemmas.{least_is_choice, halved}
use Rattle.bw_lanes.proofs.selected.least_of.Goals as goal

pub returns : goal.returns
returns c =
    let bytes = c.args.bytes in
    let step = halved min least_is_choice 255 bytes in
    let eight = step 8 _ _ (step 16 _ _ (step 32 bytes _ (c.fits-bytes.0, refl) c.lesser-b.ensures) c.lesser-b-2.ensures) c.lesser-b-3.ensures in
    let one = step 1 _ _ (step 2 _ _ (step 4 _ _ eight c.lesser-b-4.ensures) c.lesser-b-5.ensures) c.lesser-b-6.ensures in
    ap (λ l. min 255 (get_or l 0 0)) c.lesser-b-6.ensures ∙ sym (ap (fold min 255) c.lesser-b-6.ensures) ∙ one.1
