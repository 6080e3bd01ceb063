use Rattle.std.proofs.Common.{◌≡◌, map}
use Rattle.std.specs.List.{range_with_len}
use Rattle.bw_query.specs.NamedColumns.{is_read}
use Rattle.bw_query.specs.Scan.{program_of}
use Rattle.bw_query.proofs.named_columns.columns_read.Given as goal

-- what holds of the columns so far
abbrev pub invariant-loop-column : goal.invariant-loop-column
invariant-loop-column l = l.read.items ≡ map (is_read (program_of l.scan) l.query) (range_with_len 0 l.column)
