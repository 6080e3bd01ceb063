use Rattle.std.proofs.Common.{◌≡◌, All, length}
use Rattle.bw_model.specs.Row.{values_of}
use Rattle.bw_conformance_cert.proofs.rows_in_memory.rows_of.Given as goal

abbrev pub invariant-loop-a : goal.invariant-loop-a
invariant-loop-a l = All (λ row. length (values_of row) ≡ 2) l.rows.items
