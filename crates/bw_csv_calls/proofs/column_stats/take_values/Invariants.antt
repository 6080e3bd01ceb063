use Rattle.std.proofs.Common.{◌≡◌, ◌++◌, length, take, drop}
use Rattle.bw_csv_calls.specs.ColumnStats.{with_values}
use Rattle.bw_csv_calls.proofs.column_stats.take_values.Given as goal

-- the columns so far have taken their values, and the others are to take theirs
abbrev pub invariant-loop-i : goal.invariant-loop-i
invariant-loop-i l = record {
  size : length l.columns.items ≡ length l.values;
  rest : with_values l.initial.columns.items l.values ≡ take l.i l.columns.items ++ with_values (drop l.i l.columns.items) (drop l.i l.values);
}
