use Rattle.std.proofs.Common.{◌≡◌, [], replicate}
use Rattle.bw_encode.proofs.columns.empty_columns.Given as goal

abbrev pub invariant-loop : goal.invariant-loop
invariant-loop l = l.columns.items ≡ replicate l.counter []
