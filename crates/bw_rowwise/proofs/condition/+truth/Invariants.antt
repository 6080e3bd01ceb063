use Rattle.std.proofs.Common.{◌≡◌, map, drop}
use Rattle.bw_model.specs.Truth.{least, greatest, all_of, any_of}
use Rattle.bw_model.specs.Cond.{truth_of}
use Rattle.bw_rowwise.proofs.condition.+truth.Given as goal

-- the least so far, and what the parts to come make
abbrev pub invariant-all_of-loop-part : goal.invariant-all_of-loop-part
invariant-all_of-loop-part l =
    least l.least (all_of (map (truth_of l.row.values.items) (drop l.part-index l.parts))) ≡ all_of (map (truth_of l.row.values.items) l.parts)

-- the greatest so far, and what the parts to come make
abbrev pub invariant-any_of-loop-part : goal.invariant-any_of-loop-part
invariant-any_of-loop-part l =
    greatest l.greatest (any_of (map (truth_of l.row.values.items) (drop l.part-index l.parts))) ≡ any_of (map (truth_of l.row.values.items) l.parts)
