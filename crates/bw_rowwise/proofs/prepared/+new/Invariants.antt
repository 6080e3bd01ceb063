use Rattle.std.proofs.Common.{take}
use Rattle.bw_rowwise.specs.Columns.{Grows, numbers_of}
use Rattle.bw_rowwise.specs.Prepared.{PreparesParts}
use Rattle.bw_rowwise.proofs.prepared.+new.Given as goal

-- those so far are prepared
abbrev pub invariant-all_of-loop-place : goal.invariant-all_of-loop-place
invariant-all_of-loop-place l = record {
  parts : PreparesParts (take l.place l.conds) (numbers_of l.columns) l.prepared.items;
  grown : Grows (numbers_of l.fn.columns) (numbers_of l.columns);
}
