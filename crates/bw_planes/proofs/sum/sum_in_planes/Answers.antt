use Rattle.std.proofs.Common.{◌≡◌, ◌∙◌, ap, ap₂, subst, ◌+◌, ◌-◌, ◌*◌, ◌^◌, ◌<◌, arith}
use Rattle.std.specs.List.{AllByRecursion}
use Rattle.std.proofs.lemmas.Nat.{shl_whole}
use Rattle.bw_lanes.specs.Lanes.{lanes_of_words}
use Rattle.bw_model.specs.Selection.{selected_items}
use Rattle.bw_segment.proofs.SelectedLemmas.{all_selected}
use Rattle.bw_planes.specs.Planes.{planes_codes}
use Rattle.bw_planes.proofs.CodeLemmas.{codes_small}
use Rattle.bw_planes.proofs.SumLemmas.{numbers_joined, many_joined}
use Rattle.bw_planes.proofs.sum.sum_in_planes.Goals as goal

pub returns-clause-sum : goal.returns-clause-sum
returns-clause-sum c =
    let width = c.args.width in
    let few = c.min-few.result in
    let lanes = lanes_of_words c.args.lanes.now in
    let codes = selected_items lanes (planes_codes width c.args.bytes.now) in
    let whole : width ≡ width - few + few = omega (arith, c.min-few.ensures) in
    let small = subst (λ k. AllByRecursion (λ code. code < 2 ^ k) codes) whole (all_selected (λ code. code < 2 ^ width) lanes (planes_codes width c.args.bytes.now) (codes_small width c.args.bytes.now)) in
    ap₂ ◌+◌ (c.from-lower.ensures ∙ c.sum_of_planes.ensures.sum) (shl_whole c.from-upper.result 64 few 128 (omega arith) (omega (arith, c.min-few.ensures)) ∙ ap (λ n. n * 2 ^ few) (c.from-upper.ensures ∙ c.sum_of_planes-2.ensures.sum))
    ∙ numbers_joined few (width - few) codes small

pub returns-clause-bound : goal.returns-clause-bound
returns-clause-bound c =
    let few = c.min-few.result in
    let rest = c.args.width - few in
    let moved = shl_whole c.from-upper.result 64 few 128 (omega arith) (omega (arith, c.min-few.ensures)) in
    omega (arith, c.from-lower.ensures, moved, ap (λ n. n * 2 ^ few) c.from-upper.ensures, many_joined few rest c.sum_of_planes.result c.sum_of_planes-2.result c.sum_of_planes.ensures.bound c.sum_of_planes-2.ensures.bound (omega (arith, c.min-few.ensures, c.requires.width)))
