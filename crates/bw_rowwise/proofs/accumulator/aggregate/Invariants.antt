use Rattle.std.proofs.Common.{◌≡◌, map, take}
use Rattle.bw_model.specs.Row.{values_of}
use Rattle.bw_rowwise.specs.Accumulator.{tally_of}
use Rattle.bw_rowwise.proofs.accumulator.aggregate.Given as goal

-- the tally of the rows so far
abbrev pub invariant-loop-row : goal.invariant-loop-row
invariant-loop-row l = l.accumulator ≡ tally_of l.item (map values_of (take l.row-index l.rows))
