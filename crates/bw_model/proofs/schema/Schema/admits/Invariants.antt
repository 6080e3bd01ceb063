use Rattle.std.proofs.Common.{◌≡◌, drop}
use Rattle.bw_model.specs.Column.{admits_values}
use Rattle.bw_model.specs.Row.{values_of}
use Rattle.bw_model.proofs.schema.Schema.admits.Given as goal

-- the row is admitted if the rest of it is
abbrev pub invariant-loop-column : goal.invariant-loop-column
invariant-loop-column l =
    admits_values (drop l.column-index l.column-items) l.rest ≡ admits_values l.column-items (values_of l.row)
