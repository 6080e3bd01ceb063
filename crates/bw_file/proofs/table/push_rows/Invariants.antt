use Rattle.std.proofs.Common.{◌≡◌, ◌++◌, map, take}
use Rattle.bw_model.specs.Row.{values_of}
use Rattle.bw_file.specs.AnySegment.{any_meaning}
use Rattle.bw_file.proofs.table.push_rows.Given as goal

-- the rows so far were added
abbrev pub invariant-loop-i : goal.invariant-loop-i
invariant-loop-i l = map values_of l.rows.items ≡ map values_of l.initial.rows.items ++ take l.i (any_meaning l.segment).rows
