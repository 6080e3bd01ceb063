use Rattle.std.proofs.Common.{◌≡◌, map, take, None, get_or}
use Rattle.bw_encode.specs.Coded.{encoding_of}
use Rattle.bw_encode.specs.Column.{values_in}
use Rattle.bw_encode.proofs.table.fill_row.Given as goal

-- the values of the columns before this one
abbrev pub invariant-loop-column : goal.invariant-loop-column
invariant-loop-column l = l.row.values.items ≡ map (λ column. get_or (values_in (encoding_of column)) l.number None) (take l.column-index l.columns)
