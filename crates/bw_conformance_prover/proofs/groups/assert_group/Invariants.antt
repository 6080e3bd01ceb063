use Rattle.std.proofs.Common.{◌≡◌, true, take}
use Rattle.std.specs.List.{list_all}
use Rattle.bw_model.specs.Column.{admits_values}
use Rattle.bw_model.specs.Row.{values_of}
use Rattle.bw_conformance_prover.proofs.groups.assert_group.Given as goal

-- the rows so far are admitted
abbrev pub invariant-loop-row : goal.invariant-loop-row
invariant-loop-row g l = list_all (λ row. admits_values l.schema.columns.items (values_of row)) (take l.row-index l.rows) ≡ true
