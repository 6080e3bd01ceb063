use Rattle.std.proofs.Common.{take}
use Rattle.bw_rowwise.specs.Columns.{numbers_of}
use Rattle.bw_answer.specs.Columns.{columns_of}
use Rattle.bw_answer.specs.Places.{AreAt}
use Rattle.bw_answer.proofs.listing.fields_of.Given as goal

-- the columns of the items so far are at these places
abbrev pub invariant-loop-item : goal.invariant-loop-item
invariant-loop-item l = AreAt (numbers_of l.columns) (columns_of (take l.item-index l.items)) l.fields.items
