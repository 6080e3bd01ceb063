use Rattle.std.proofs.Common.{◌≡◌, ◌∙◌, sym, ap, ap₂, subst, suc, ◌+◌, ◌-◌, ◌*◌, ◌/◌, ◌%◌, ◌^◌, ◌≤◌}
use Rattle.std.proofs.Common.{sum_by, count_by, arith}
use Rattle.std.proofs.lemmas.Grind.{pow_more}
use Rattle.bw_lanes.specs.Lanes.{lanes_of_words}
use Rattle.bw_model.specs.Code.{has_bit}
use Rattle.bw_model.specs.Selection.{selected_items}
use Rattle.bw_planes.specs.Planes.{planes_codes}
use Rattle.bw_planes.proofs.SumLemmas.{numbers_more, no_numbers}
use Rattle.bw_planes.proofs.sum.sum_of_planes.Goals as goal

pub loop-place-init : goal.loop-place-init
loop-place-init c = record {
  sum = no_numbers (c.args.low + c.args.count - 0) (selected_items (lanes_of_words c.args.lanes.now) (planes_codes c.args.width c.args.bytes.now));
  small = omega arith;
}

pub loop-place-preserved : goal.loop-place-preserved
loop-place-preserved c =
    let codes = selected_items (lanes_of_words c.args.lanes.now) (planes_codes c.args.width c.args.bytes.now) in
    let place = c.loop-place.place in
    let bit = c.args.low + c.args.count - 1 - place in
    let above : c.args.low + c.args.count - place ≡ suc bit = omega (arith, c.loop-place-test.true) in
    let next : bit ≡ c.args.low + c.args.count - (place + 1) = omega arith in
    let there : c.args.width - 1 - (c.args.width - c.args.low - c.args.count + place) ≡ bit = omega (arith, c.loop-place-test.true, c.requires.bits) in
    let ones = c.ones_in_plane.ensures.ones ∙ ap (λ n. count_by (λ code. has_bit code n) codes) there in
    record {
      sum = ap₂ (λ s n. 2 * s + n) (c.loop-place.invariant.sum ∙ ap (λ k. sum_by (λ code. code / 2 ^ k % 2 ^ place) codes) above) (c.from.ensures ∙ ones)
          ∙ sym (numbers_more bit place codes) ∙ ap (λ k. sum_by (λ code. code / 2 ^ k % 2 ^ (place + 1)) codes) next;
      small = omega (arith, c.loop-place.invariant.small, c.from.ensures, c.ones_in_plane.ensures.bound, pow_more 2 place);
    }

pub returns : goal.returns
returns c =
    let codes = selected_items (lanes_of_words c.args.lanes.now) (planes_codes c.args.width c.args.bytes.now) in
    let count = c.args.count in
    let end : c.loop-place.place ≡ count = omega arith in
    let low : c.args.low + count - count ≡ c.args.low = omega arith in
    record {
      sum = c.loop-place.invariant.sum ∙ ap (λ k. sum_by (λ code. code / 2 ^ (c.args.low + count - k) % 2 ^ k) codes) end ∙ ap (λ k. sum_by (λ code. code / 2 ^ k % 2 ^ count) codes) low;
      bound = subst (λ k. c.loop-place.sum + 512 ≤ 512 * 2 ^ k) end c.loop-place.invariant.small;
    }
