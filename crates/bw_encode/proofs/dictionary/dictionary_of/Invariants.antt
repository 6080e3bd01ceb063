use Rattle.bw_encode.specs.Fields.{texts_under}
use Rattle.bw_encode.proofs.CountLemmas.{AreCoded}
use Rattle.bw_encode.proofs.dictionary.dictionary_of.Given as goal

-- the rows before this one are counted and coded
abbrev pub invariant-loop-row : goal.invariant-loop-row
invariant-loop-row l = AreCoded l.column (texts_under l.fields.items) l.counts.items l.codes.items l.row
