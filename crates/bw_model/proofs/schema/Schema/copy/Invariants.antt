use Rattle.std.proofs.Common.{◌≡◌, take}
use Rattle.bw_model.proofs.schema.Schema.copy.Given as goal

-- the columns so far are those of the schema
abbrev pub invariant-loop-column : goal.invariant-loop-column
invariant-loop-column l = l.columns.items ≡ take l.column-index l.column-items
