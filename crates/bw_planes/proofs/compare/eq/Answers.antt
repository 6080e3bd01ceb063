use Rattle.std.proofs.Common.{◌≡◌, ◌∙◌, sym, ap, map, ◌/◌, ◌%◌, ◌^◌, false, eqb, arith, ne_eqb}
use Rattle.bw_lanes.proofs.WordLemmas.{zeros_are_zero}
use Rattle.bw_planes.specs.Planes.{planes_codes}
use Rattle.bw_planes.proofs.CodeLemmas.{codes_long}
use Rattle.bw_planes.proofs.CompareLemmas.{everywhere, above_all}
use Rattle.bw_planes.proofs.compare.eq.Goals as goal

pub returns-then-c-count-ne0 : goal.returns-then-c-count-ne0
returns-then-c-count-ne0 c =
    let width = c.args.width in
    let bytes = c.args.bytes.now in
    everywhere (planes_codes width bytes) (λ code. eqb (code / 2 ^ c.args.low % 2 ^ c.args.count) c.args.c) false _ (codes_long width bytes) zeros_are_zero
    (λ code. let below = above_all (code / 2 ^ c.args.low) c.args.count c.args.c c.if-c-count-ne0.true in sym (ne_eqb _ _ (λ same. omega arith)))

pub returns-then-count-eq8 : goal.returns-then-count-eq8
returns-then-count-eq8 c =
    let whole : c.args.c % 2 ^ 8 ≡ c.args.c = omega (arith, c.ranges.c.fits) in
    rw c.if-count-eq8.true (c.low_eq.ensures ∙ ap (λ k. map (λ code. eqb (code / 2 ^ c.args.low % 2 ^ 8) k) (planes_codes c.args.width c.args.bytes.now)) whole)
