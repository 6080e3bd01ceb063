use Rattle.std.proofs.Common.{◌≡◌, ◌++◌, take, flat_map}
use Rattle.bw_file.specs.FileBytes.{column_bytes}
use Rattle.bw_file.proofs.encoder.push_columns.Given as goal

-- the columns so far were added
abbrev pub invariant-loop-column : goal.invariant-loop-column
invariant-loop-column l = l.bytes.items ≡ l.initial.bytes.items ++ flat_map (λ column. column_bytes column.name column.lo column.hi column.nullable) (take l.column-index l.columns)
