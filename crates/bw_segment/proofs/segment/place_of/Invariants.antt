use Rattle.std.proofs.Common.{◌≡◌, ◌+◌}
use Rattle.bw_model.specs.Variable.{first_variable}
use Rattle.bw_segment.proofs.segment.place_of.Given as goal

-- the variable comes so far after the first one of the column
abbrev pub invariant-loop-col : goal.invariant-loop-col
invariant-loop-col l = l.var ≡ first_variable l.schema.columns.items l.col + l.rest
