use Rattle.std.proofs.Common.{◌≡◌, ◌∙◌, ap, ◌*◌, length, take, w8, arith, length-take}
use lib.Lanes.{number_l}
use Rattle.std.proofs.lemmas.Simd.{below_from_Fits, chunk-fits}
use Rattle.bw_lanes.specs.Lanes.{bits_from_least, lanes_of_bytes}
use Rattle.bw_lanes.proofs.BitLemmas.{bits_of_low, bits_of_number}
use Rattle.bw_planes.proofs.sum.first_word.Goals as goal

pub returns : goal.returns
unfolding lanes_of_bytes
returns c =
    let bytes = take 8 c.args.bytes.now in
    let n = number_l 256 bytes in
    let long : 64 ≡ length bytes * 8 = omega (arith, length-take 8 c.args.bytes.now, c.requires) in
    bits_of_low 64 n ∙ ap (λ k. bits_from_least k n) long ∙ bits_of_number 8 bytes (below_from_Fits w8 bytes (chunk-fits w8 0 8 c.args.bytes.now c.type_inv.bytes))
