use Rattle.std.proofs.Common.{◌≡◌, map, drop}
use Rattle.bw_ranges.specs.ColumnRange.{operand_range}
use Rattle.bw_ranges.specs.PossibleTruths.{in_ranges}
use Rattle.bw_ranges.specs.TruthSet.{either}
use Rattle.bw_ranges.proofs.truths.among.Given as goal

-- the set so far, and what the items to come make
abbrev pub invariant-loop-item : goal.invariant-loop-item
invariant-loop-item l =
    either l.set (in_ranges l.x (map (operand_range l.ranges) (drop l.item-index l.items))) ≡ in_ranges l.x (map (operand_range l.ranges) l.items)
