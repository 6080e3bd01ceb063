use Rattle.std.proofs.Common.{map, take}
use Rattle.bw_model.specs.Cond.{operand_value}
use Rattle.bw_model.specs.Row.{value_in}
use Rattle.bw_model.specs.Truth.{in_list}
use Rattle.bw_rowwise.specs.Columns.{row_in}
use Rattle.bw_rowwise.specs.Lanes.{AreTruths}
use Rattle.bw_rowwise.proofs.lanes.among_columns.Given as goal

-- whether the operand is one of the columns so far
abbrev pub invariant-loop-place : goal.invariant-loop-place
invariant-loop-place l = AreTruths l.greatest
    (λ lane. in_list (operand_value (row_in l.columns lane) l.x) (map (value_in (row_in l.columns lane)) (take l.place-index l.places)))
