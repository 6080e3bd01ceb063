use Rattle.std.proofs.Common.{◌≡◌, map, take}
use Rattle.bw_model.specs.CondTree.{tree_of}
use Rattle.bw_model.proofs.+is_same.Given as goal

-- those so far are equal
abbrev pub invariant-equality::are_same-loop-place : goal.invariant-equality::are_same-loop-place
invariant-equality::are_same-loop-place l =
    map tree_of (take l.place l.conds) ≡ map tree_of (take l.place l.others)
