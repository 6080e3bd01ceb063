use Rattle.bw_encode.specs.FieldSet.{fields_in}
use Rattle.bw_encode.proofs.SetLemmas.{HasFields}
use Rattle.bw_encode.proofs.dictionary.insert_fields.Given as goal

-- the set has the fields of the rows before this one, at their places, and no others
abbrev pub invariant-loop-row : goal.invariant-loop-row
invariant-loop-row l = HasFields l.column (fields_in l.set) l.places.items l.row
