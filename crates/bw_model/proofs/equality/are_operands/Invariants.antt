use Rattle.std.proofs.Common.{◌≡◌, take}
use Rattle.bw_model.proofs.equality.are_operands.Given as goal

-- those so far are equal
abbrev pub invariant-loop-place : goal.invariant-loop-place
invariant-loop-place l = take l.place l.operands ≡ take l.place l.others
