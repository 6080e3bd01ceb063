use Rattle.std.proofs.Common.{◌≡◌, ◌∙◌, ap, ap₂, subst, ◌+◌, ◌-◌, ◌*◌, ◌^◌, ◌<◌, arith}
use Rattle.std.specs.List.{AllByRecursion}
use Rattle.std.proofs.lemmas.Nat.{shl_whole}
use Rattle.bw_lanes.specs.Lanes.{bits_from_least}
use Rattle.bw_model.specs.Selection.{selected_items}
use Rattle.bw_segment.proofs.SelectedLemmas.{all_selected}
use Rattle.bw_planes.specs.Planes.{planes_codes, codes_in_word}
use Rattle.bw_planes.proofs.SumLemmas.{numbers_joined, few_joined, small_in_word}
use Rattle.bw_planes.proofs.sum.sum_in_word.Goals as goal

pub returns-clause-sum : goal.returns-clause-sum
returns-clause-sum c =
    let width = c.args.width in
    let few = c.min-few.result in
    let codes = selected_items (bits_from_least 64 c.args.rows) (codes_in_word c.args.word (planes_codes width c.args.bytes.now)) in
    let whole : width ≡ width - few + few = omega (arith, c.min-few.ensures) in
    let small = subst (λ k. AllByRecursion (λ code. code < 2 ^ k) codes) whole (all_selected (λ code. code < 2 ^ width) (bits_from_least 64 c.args.rows) (codes_in_word c.args.word (planes_codes width c.args.bytes.now)) (small_in_word width c.args.word c.args.bytes.now)) in
    ap₂ ◌+◌ (c.from.ensures ∙ c.sum_of_bits-lower.ensures.sum) (shl_whole c.from-2.result 64 few 128 (omega arith) (omega (arith, c.min-few.ensures)) ∙ ap (λ n. n * 2 ^ few) (c.from-2.ensures ∙ c.sum_of_bits-upper.ensures.sum))
    ∙ numbers_joined few (width - few) codes small

pub returns-clause-bound : goal.returns-clause-bound
returns-clause-bound c =
    let few = c.min-few.result in
    let rest = c.args.width - few in
    let moved = shl_whole c.from-2.result 64 few 128 (omega arith) (omega (arith, c.min-few.ensures)) in
    omega (arith, c.from.ensures, moved, ap (λ n. n * 2 ^ few) c.from-2.ensures, few_joined few rest c.sum_of_bits-lower.result c.sum_of_bits-upper.result c.sum_of_bits-lower.ensures.bound c.sum_of_bits-upper.ensures.bound (omega (arith, c.min-few.ensures, c.requires.width)))
