-- With the bit that was compared last, all are.
use Rattle.std.proofs.Common.{◌∙◌, ◌/◌, ◌^◌, ◌==◌, ◌&&◌, sym, ap, ap₂, bit_and, cond, eqb, not}
use lib.Lanes.{zip2}
use Rattle.bw_planes.specs.Planes.{planes_codes}
use Rattle.bw_planes.proofs.CompareLemmas.{compared_in, equal_more}
use Rattle.bw_planes.proofs.compare.low_eq.Goals as goal

pub returns-then-place-count : goal.returns-then-place-count
unfolding compared_in
returns-then-place-count c =
    let codes = planes_codes c.args.width c.args.bytes.now in
    let place = c.loop-place.place in
    c.equal_step-equal.ensures
    ∙ ap₂ (zip2 (λ e p. e && cond (bit_and (c.args.c / 2 ^ place) 1 == 1) p (not p))) c.loop-place.invariant.lanes c.plane_above-plane.ensures
    ∙ sym (equal_more c.args.low place c.args.c codes)
    ∙ ap (λ bits. compared_in eqb c.args.low bits c.args.c codes) c.if-place-count.true
