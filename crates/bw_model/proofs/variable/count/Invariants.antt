use Rattle.std.proofs.Common.{◌≡◌, ◌*◌, ◌≤◌, take}
use Rattle.bw_model.specs.Variable.{variables_of}
use Rattle.bw_model.proofs.variable.count.Given as goal

-- the variables of the columns so far
abbrev pub invariant-loop-column : goal.invariant-loop-column
invariant-loop-column l = (l.count ≡ variables_of (take l.column-index l.columns)) × (l.count ≤ 64 * l.column-index)
