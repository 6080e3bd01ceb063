-- The code in the last of the lanes that are left.
use Rattle.std.proofs.Common.{refl, sym, Some, subst, arith}
use Rattle.bw_lanes.specs.Lanes.{lanes_of_words}
use Rattle.bw_lanes.proofs.WordLemmas.{length-lanes_of_words}
use Rattle.bw_model.specs.Groups.{group_size}
use Rattle.bw_segment.specs.Selected.{is_greatest}
use Rattle.bw_segment.proofs.ExtremeLemmas.{IsChosen, none_chosen, chosen_more, all_chosen}
use Rattle.bw_segment.proofs.extremes.extreme_of_few.Goals as goal

pub loop-lane-init : goal.loop-lane-init
loop-lane-init g c = none_chosen (is_greatest c.args.which) _ _ (omega (arith, length-lanes_of_words c.args.lanes.now))

pub loop-lane-preserved-in-Some-extreme : goal.loop-lane-preserved-in-Some-extreme
unfolding group_size
loop-lane-preserved-in-Some-extreme g c =
    let lanes = lanes_of_words c.args.lanes.now in
    let codes = g.L.CodeLayout.packing.codes c.args.width c.args.bytes.now in
    let long = c.keeps_codes.ensures.codes_length c.args.width c.args.bytes.now c.requires.size in
    let before = subst (IsChosen (is_greatest c.args.which) lanes codes c.loop-lane.end) c.in-Some-extreme.is c.loop-lane.invariant in
    subst (λ code. IsChosen (is_greatest c.args.which) lanes codes c.in-Some.lane (Some code)) (sym c.extreme_of.ensures)
    (chosen_more (is_greatest c.args.which) lanes codes c.args.width c.loop-lane.end c.in-Some.lane _ _ c.requires.width.1 long c.requires.small c.code-code.ensures c.in-Some.ensures.last before)

pub loop-lane-preserved : goal.loop-lane-preserved
unfolding group_size
loop-lane-preserved g c =
    let lanes = lanes_of_words c.args.lanes.now in
    let codes = g.L.CodeLayout.packing.codes c.args.width c.args.bytes.now in
    let long = c.keeps_codes.ensures.codes_length c.args.width c.args.bytes.now c.requires.size in
    let before = subst (IsChosen (is_greatest c.args.which) lanes codes c.loop-lane.end) c.in-None.is c.loop-lane.invariant in
    chosen_more (is_greatest c.args.which) lanes codes c.args.width c.loop-lane.end c.in-Some.lane _ _ c.requires.width.1 long c.requires.small c.code-code.ensures c.in-Some.ensures.last before

pub returns-clause-extreme : goal.returns-clause-extreme
returns-clause-extreme g c = all_chosen (is_greatest c.args.which) _ _ c.loop-lane.end _ c.loop-lane.invariant (c.in_default.ensures.none refl)
