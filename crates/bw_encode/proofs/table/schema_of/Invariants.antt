use Rattle.bw_encode.proofs.TableLemmas.{AreMade}
use Rattle.bw_encode.proofs.table.schema_of.Given as goal

-- the columns before this one are made
abbrev pub invariant-loop-place : goal.invariant-loop-place
invariant-loop-place l = AreMade l.columns l.all.items l.place
