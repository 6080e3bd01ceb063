use Rattle.std.proofs.Common.{◌≡◌, ◌∙◌, ap, ◌+◌, ◌-◌, ◌*◌, length, take, drop, arith}
use Rattle.bw_lanes.specs.Lanes.{lanes_of_bytes}
use Rattle.bw_planes.proofs.CodeLemmas.{plane_loaded}
use Rattle.bw_planes.proofs.compare.plane_above.Goals as goal

pub returns : goal.returns
returns c =
    let bytes = c.args.bytes.now in
    let width = c.args.width in
    let bit = c.args.low + c.args.place in
    let there : width - c.args.low - 1 - c.args.place ≡ width - 1 - bit = omega arith in
    c.load.ensures ∙ ap (λ k. lanes_of_bytes (take 64 (take (length bytes - 64 * k) (drop (64 * k) bytes)))) there ∙ plane_loaded width bit bytes c.requires.size c.requires.bit
