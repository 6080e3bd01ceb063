use Rattle.std.proofs.Common.{◌≡◌, ◌∙◌, ap, suc, ◌+◌, ◌-◌, ◌/◌, ◌%◌, ◌<◌, ◌++◌, map, ◌==◌}
use Rattle.std.proofs.Common.{append_assoc, arith}
use Rattle.std.specs.Int.{bit_at}
use Rattle.bw_model.specs.Code.{has_bit}
use Rattle.bw_lanes.specs.Lanes.{bytes_of_lanes, lanes_of_words}
use Rattle.bw_segment.proofs.LaneLemmas.{bits_of_bytes}
use Rattle.bw_planes.specs.Planes.{planes_bytes}
use Rattle.bw_planes.proofs.planes.PlanesCodeLayout.push_codes.Goals as goal

pub loop-place-preserved : goal.loop-place-preserved
loop-place-preserved c =
    let codes = c.args.codes.now in
    let width = c.args.width in
    let items = c.loop-place.bytes.items in
    let bit = width - 1 - c.loop-place.place in
    let there : bit / 8 < (width + 7) / 8 = omega arith in
    let lanes : lanes_of_words c.bytes_bit.result ≡ map (λ code. has_bit code bit) codes =
    c.bytes_bit.ensures ∙ ap (map (λ byte. bit_at byte (bit % 8) == 1)) (c.slices_of-slices.ensures (bit / 8) there) ∙ bits_of_bytes codes bit in
    let plane = bytes_of_lanes (map (λ code. has_bit code bit) codes) in
    let rest : width - (c.loop-place.place + 1) ≡ bit = omega arith in
    let before : suc bit ≡ width - c.loop-place.place = omega arith in
    ap (λ l. l ++ planes_bytes (width - (c.loop-place.place + 1)) codes) (c.in_ok-extend_from_slice.ensures.items ∙ ap (λ l. items ++ l) (c.to_bytes-plane.ensures ∙ ap bytes_of_lanes lanes))
    ∙ ap (λ n. (items ++ plane) ++ planes_bytes n codes) rest ∙ append_assoc items plane (planes_bytes bit codes) ∙ ap (λ n. items ++ planes_bytes n codes) before ∙ c.loop-place.invariant
