use Rattle.std.proofs.Common.{length}
use Rattle.bw_encode.specs.Fields.{texts_under}
use Rattle.bw_encode.proofs.CutLemmas.{AreCut}
use Rattle.bw_encode.proofs.cut.cut_record.Given as goal

-- the record has these fields so far
abbrev pub invariant-fields : goal.invariant-fields
invariant-fields l = AreCut l.dialect l.text (texts_under l.parts.items) l.rest

abbrev pub decreases-fields : goal.decreases-fields
decreases-fields l = length l.rest
