use Rattle.std.proofs.Common.{◌≡◌, ◌∙◌, refl, sym, true, false, length, rules, arith}
use Rattle.bw_segment.proofs.DescentLemmas.{descent_ends, descended_as}
use Rattle.bw_segment.specs.Selected.{is_greatest}
use Rattle.bw_planes.proofs.ChoiceLemmas.{nothing_chosen, all_left, next_left}
use Rattle.bw_planes.proofs.planes.chosen_code.Goals as goal
use Rattle.bw_planes.proofs.planes.chosen_code.Goals.{then-is_zero-2, else-is_zero-2}

pub returns-then-is_zero-clause-chosen : goal.returns-then-is_zero-clause-chosen
returns-then-is_zero-clause-chosen c = nothing_chosen (is_greatest c.args.which) c.args.width c.args.bytes.now c.args.lanes.now c.told-lanes (sym c.is_zero.ensures ∙ c.if-is_zero.true)

pub loop-place-init : goal.loop-place-init
loop-place-init c = all_left c.is_greatest-is_sought.result c.args.width c.args.bytes.now c.args.lanes.now c.told-lanes (sym c.is_zero.ensures ∙ c.if-is_zero.false)

pub loop-place-preserved : goal.loop-place-preserved
loop-place-preserved c =
    let so_far = c.loop-place in
    let found : length c.equal_step-sought.result ≡ 8 = search rules in
    let none = sym c.is_zero-in-loop-place.ensures in
    elim c.if-is_zero-2.branch [
      | then-is_zero-2 w ↦
          next_left c.is_greatest-is_sought.result c.args.width c.args.bytes.now c.args.lanes.now false so_far.left _ _ _ so_far.place so_far.code _ c.loop-place-test.true found
          c.equal_step-sought.ensures c.bit-plane.ensures (none ∙ w.if-is_zero-2.true) w.left-is (omega (arith, w.code-is, w.from-code.ensures)) so_far.invariant
      | else-is_zero-2 w ↦
          next_left c.is_greatest-is_sought.result c.args.width c.args.bytes.now c.args.lanes.now true so_far.left _ _ _ so_far.place so_far.code _ c.loop-place-test.true found
          c.equal_step-sought.ensures c.bit-plane.ensures (none ∙ w.if-is_zero-2.false) w.left-is (omega (arith, w.code-is, w.from-code-else-is_zero-2.ensures)) so_far.invariant
    ]

pub returns-clause-chosen : goal.returns-clause-chosen
returns-clause-chosen c = rw (← c.is_greatest-is_sought.ensures) (descent_ends c.is_greatest-is_sought.result _ _ c.loop-place.place c.loop-place.code (descended_as c.is_greatest-is_sought.result _ _ _ _ 0 _ _ _ refl (omega arith) refl c.loop-place.invariant))
