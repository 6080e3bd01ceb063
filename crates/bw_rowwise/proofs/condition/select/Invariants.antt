use Rattle.std.proofs.Common.{◌≡◌, map, take, filter}
use Rattle.bw_model.specs.Cond.{is_match}
use Rattle.bw_model.specs.Row.{values_of}
use Rattle.bw_rowwise.proofs.condition.select.Given as goal

-- what is kept of the rows so far
abbrev pub invariant-loop-row : goal.invariant-loop-row
invariant-loop-row l = map values_of l.kept.items ≡ filter (is_match l.cond) (map values_of (take l.row-index l.rows))
