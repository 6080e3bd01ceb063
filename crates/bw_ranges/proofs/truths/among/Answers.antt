use Rattle.std.proofs.Common.{◌≡◌, ◌∙◌, ◌+◌, ◌<◌, ℕ, List, ap, refl, map, length, get_or, drop, add-one, drop-cons}
use Rattle.bw_model.specs.declared.cond.Op.TheVariants.{Eq}
use Rattle.bw_model.specs.declared.cond.Operand.{Operand}
use Rattle.bw_ranges.specs.declared.column_range.ColumnRange.{ColumnRange}
use Rattle.bw_ranges.specs.ColumnRange.{compare_ranges, operand_range}
use Rattle.bw_ranges.specs.PossibleTruths.{in_ranges}
use Rattle.bw_ranges.specs.TruthSet.{either}
use Rattle.bw_ranges.proofs.SetLemmas.{either_assoc}
use Rattle.bw_ranges.proofs.truths.among.Goals as goal

-- the item at a place and those after it
in_next : (x : ColumnRange) (ranges : List ColumnRange) (items : List Operand) (i : ℕ) (d : Operand) → i < length items →
    either (compare_ranges Eq x (operand_range ranges (get_or items i d))) (in_ranges x (map (operand_range ranges) (drop (i + 1) items))) ≡ in_ranges x (map (operand_range ranges) (drop i items))
in_next x ranges items i d within = rw (add-one, drop-cons items i d within) refl

pub loop-item-preserved : goal.loop-item-preserved
loop-item-preserved c =
    let x = c.args.x.now in
    let ranges = c.args.ranges.now in
    let others = in_ranges x (map (operand_range ranges) (drop (c.loop-item.item-index + 1) c.args.items.now)) in
    ap (λ set. either set others) c.either-set.ensures ∙ either_assoc c.loop-item.set c.equal.result others
    ∙ ap (λ set. either c.loop-item.set (either set others)) c.equal.ensures
    ∙ ap (either c.loop-item.set) (in_next x ranges c.args.items.now c.loop-item.item-index _ c.loop-item-test.true) ∙ c.loop-item.invariant
