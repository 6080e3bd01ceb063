use Rattle.std.proofs.Common.{◌≡◌, [], take, slice_index_or}
use Rattle.bw_file.specs.AnySegment.{any_meaning}
use Rattle.bw_file.proofs.table.row_of.Given as goal

-- the values of the columns so far
abbrev pub invariant-loop-col : goal.invariant-loop-col
invariant-loop-col l = l.values.items ≡ take l.col (slice_index_or (any_meaning l.segment).rows l.i [])
