use Rattle.std.proofs.Common.{◌≡◌, ◌∙◌, sym, ap, suc, ◌+◌, ◌-◌, ◌*◌, ◌/◌, map, length, take, drop}
use Rattle.std.proofs.Common.{arith, take-take}
use Rattle.bw_model.specs.StoredCodes.{byte_of}
use Rattle.bw_slices.specs.Slices.{slices_codes}
use Rattle.bw_slices.proofs.KeptLemmas.{slice_of_codes}
use Rattle.bw_slices.proofs.read.slice_of.Goals as goal

pub returns : goal.returns
returns c =
    let bytes = c.args.bytes.now in
    let slices = (c.args.width + 7) / 8 in
    let place = slices - suc c.args.slice in
    let first = length bytes - 512 * (c.args.slice + 1) in
    let start : first ≡ 512 * place = omega (arith, c.requires.slice, c.requires.size) in
    let slice : slices - suc place ≡ c.args.slice = omega (arith, c.requires.slice) in
    c.in-Some.ensures.cases.same ∙ take-take 512 (length bytes - first) (drop first bytes) (omega (arith, c.requires.slice, c.requires.size))
    ∙ ap (λ at. take 512 (drop at bytes)) start ∙ sym (slice_of_codes slices place bytes (omega (arith, c.requires.size)) (λ at. (c.type_inv.bytes at).fits) (omega (arith, c.requires.slice)))
    ∙ ap (λ s. map (byte_of s) (slices_codes slices bytes)) slice
