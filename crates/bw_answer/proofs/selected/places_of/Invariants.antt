use Rattle.std.proofs.Common.{map, take}
use Rattle.bw_rowwise.specs.Accumulator.{Tally}
use Rattle.bw_rowwise.specs.Columns.{numbers_of}
use Rattle.bw_answer.specs.Places.{AreRead}
use Rattle.bw_answer.proofs.selected.places_of.Given as goal

-- the columns of the totals so far are at these places
abbrev pub invariant-loop-total : goal.invariant-loop-total
invariant-loop-total l = AreRead (numbers_of l.columns) (map (λ (tally : Tally). tally.item) (take l.total-index l.totals)) l.places.items
