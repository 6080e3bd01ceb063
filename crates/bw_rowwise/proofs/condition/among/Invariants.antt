use Rattle.std.proofs.Common.{◌≡◌, map, drop}
use Rattle.bw_model.specs.Truth.{greatest, in_list}
use Rattle.bw_model.specs.Cond.{operand_value}
use Rattle.bw_rowwise.proofs.condition.among.Given as goal

-- the greatest so far, and what the items to come make
abbrev pub invariant-loop-item : goal.invariant-loop-item
invariant-loop-item l =
    greatest l.greatest (in_list l.x (map (operand_value l.row.values.items) (drop l.item-index l.items))) ≡ in_list l.x (map (operand_value l.row.values.items) l.items)
