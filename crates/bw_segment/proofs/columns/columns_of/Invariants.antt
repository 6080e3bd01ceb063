use Rattle.std.proofs.Common.{map, take}
use Rattle.bw_model.specs.Row.{values_of}
use Rattle.bw_segment.specs.Columns.{KeepRows}
use Rattle.bw_segment.proofs.columns.columns_of.Given as goal

-- the rows so far are kept
abbrev pub invariant-loop-lane : goal.invariant-loop-lane
invariant-loop-lane l = KeepRows l.schema.columns.items (map values_of (take l.lane l.rows)) l.kept.items
