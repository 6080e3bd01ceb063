use Rattle.std.proofs.Common.{◌≡◌, ◌∙◌, sym, ap, ◌+◌, ◌-◌, ◌*◌, ◌/◌, ◌^◌, not, ltb, map, arith, ℕ}
use Rattle.std.proofs.Math.Nat.{div-le_of_le-mul}
use Rattle.std.proofs.lemmas.Simd.{map-map}
use Rattle.bw_segment.specs.Selected.{is_greatest}
use Rattle.bw_segment.proofs.LowLemmas.{without_ones}
use Rattle.bw_slices.specs.Slices.{slices_codes}
use Rattle.bw_slices.proofs.AboveLemmas.{front_is}
use Rattle.bw_slices.proofs.BeyondLemmas.{is_near, whole_fits}
use Rattle.bw_slices.proofs.beyond.near.Goals as goal

pub lanes_below-requires-clause-c : goal.lanes_below-requires-clause-c
lanes_below-requires-clause-c c = div-le_of_le-mul (2 ^ (8 * c.args.low)) (whole_fits c.args.other c.args.slices c.args.low c.requires.other)

pub lanes_below-requires-in-Least-clause-c : goal.lanes_below-requires-in-Least-clause-c
lanes_below-requires-in-Least-clause-c c =
    let less : c.saturating_sub.result ≡ c.args.other - 1 = omega (arith, c.saturating_sub.ensures) in
    omega (arith, without_ones c.saturating_sub.result (8 * c.args.low) (8 * c.args.slices) (8 * (c.args.slices + c.args.low)) (omega (arith, less, c.requires.other)) (omega arith))

pub returns-in-Greatest : goal.returns-in-Greatest
returns-in-Greatest c =
    let low = c.args.low in
    let codes = slices_codes (c.args.slices + low) c.args.bytes.now in
    let top = (c.args.other + 1) / 2 ^ (8 * low) in
    let test = λ (n : ℕ). ltb n top in
    c.not.ensures ∙ ap (map not) (c.lanes_below.ensures ∙ ap (map test) (front_is c.args.bytes.now c.args.slices low (λ at. (c.type_inv.bytes at).fits)) ∙ map-map test (λ code. code / 2 ^ (8 * low)) codes)
    ∙ map-map not (λ code. ltb (code / 2 ^ (8 * low)) top) codes ∙ ap (λ greatest. map (is_near greatest low c.args.other) codes) (sym (ap is_greatest c.in-Greatest.is))

pub returns-in-Least : goal.returns-in-Least
returns-in-Least c =
    let low = c.args.low in
    let codes = slices_codes (c.args.slices + low) c.args.bytes.now in
    let less : c.saturating_sub.result ≡ c.args.other - 1 = omega (arith, c.saturating_sub.ensures) in
    let test = λ (n : ℕ). ltb n ((c.args.other - 1) / 2 ^ (8 * low) + 1) in
    c.lanes_below-in-Least.ensures ∙ ap (λ k. map (λ n. ltb n (k / 2 ^ (8 * low) + 1)) (slices_codes c.args.slices c.args.bytes.now)) less
    ∙ ap (map test) (front_is c.args.bytes.now c.args.slices low (λ at. (c.type_inv.bytes at).fits)) ∙ map-map test (λ code. code / 2 ^ (8 * low)) codes
    ∙ ap (λ greatest. map (is_near greatest low c.args.other) codes) (sym (ap is_greatest c.in-Least.is))
