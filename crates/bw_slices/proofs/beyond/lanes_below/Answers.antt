use Rattle.std.proofs.Common.{◌∙◌, sym, ap, ◌-◌, false, not, ltb, map, arith, le-ltb}
use Rattle.std.proofs.lemmas.Simd.{map-map, splat_is_map}
use Rattle.bw_lanes.proofs.WordLemmas.{zeros_are_zero}
use Rattle.bw_slices.specs.Slices.{slices_codes}
use Rattle.bw_slices.proofs.KeptLemmas.{length-slices_codes}
use Rattle.bw_slices.proofs.BeyondLemmas.{not_above}
use Rattle.bw_slices.proofs.beyond.lanes_below.Goals as goal

pub returns-then-c-eq0 : goal.returns-then-c-eq0
returns-then-c-eq0 c =
    let codes = slices_codes c.args.slices c.args.bytes.now in
    zeros_are_zero ∙ splat_is_map codes 512 false (length-slices_codes c.args.slices c.args.bytes.now)
    ∙ (λ i. map (λ n. sym (le-ltb n c.args.c (omega (arith, c.if-c-eq0.true))) i) codes)

pub returns : goal.returns
returns c =
    let codes = slices_codes c.args.slices c.args.bytes.now in
    c.not.ensures ∙ ap (map not) c.lanes_above.ensures ∙ map-map not (ltb (c.args.c - 1)) codes
    ∙ (λ i. map (λ n. not_above n c.args.c c.if-c-eq0.false i) codes)
