use Rattle.std.proofs.Common.{◌∙◌, refl, sym, ap, max, get_or, fold}
use Rattle.bw_lanes.proofs.SelectedLemmas.{greatest_is_choice, halved}
use Rattle.bw_lanes.proofs.selected.greatest_of.Goals as goal

pub returns : goal.returns
returns c =
    let bytes = c.args.bytes in
    let step = halved max greatest_is_choice 0 bytes in
    let eight = step 8 _ _ (step 16 _ _ (step 32 bytes _ (c.fits-bytes.0, refl) c.greater-b.ensures) c.greater-b-2.ensures) c.greater-b-3.ensures in
    let one = step 1 _ _ (step 2 _ _ (step 4 _ _ eight c.greater-b-4.ensures) c.greater-b-5.ensures) c.greater-b-6.ensures in
    ap (λ l. max 0 (get_or l 0 0)) c.greater-b-6.ensures ∙ sym (ap (fold max 0) c.greater-b-6.ensures) ∙ one.1
