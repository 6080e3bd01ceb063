use Rattle.std.proofs.Common.{◌≡◌, ◌∙◌, ap, suc, ◌+◌, ◌-◌, ◌++◌, map, append_assoc, arith}
use Rattle.bw_model.specs.StoredCodes.{byte_of}
use Rattle.bw_slices.specs.Slices.{slices_bytes}
use Rattle.bw_slices.proofs.layout.SlicesCodeLayout.push_codes.Goals as goal

pub loop-place-preserved : goal.loop-place-preserved
loop-place-preserved c =
    let codes = c.args.codes.now in
    let slices = c.slices_in-slices.result in
    let slice = slices - 1 - c.loop-place.place in
    let rest : slices - (c.loop-place.place + 1) ≡ slice = omega arith in
    let before : suc slice ≡ slices - c.loop-place.place = omega arith in
    ap (λ l. l ++ slices_bytes (slices - (c.loop-place.place + 1)) codes) (c.in_ok-extend_from_slice.ensures.items ∙ ap (λ l. c.loop-place.bytes.items ++ l) c.bytes_of-added.ensures)
    ∙ ap (λ n. (c.loop-place.bytes.items ++ map (byte_of slice) codes) ++ slices_bytes n codes) rest
    ∙ append_assoc c.loop-place.bytes.items (map (byte_of slice) codes) (slices_bytes slice codes)
    ∙ ap (λ n. c.loop-place.bytes.items ++ slices_bytes n codes) before ∙ c.loop-place.invariant
