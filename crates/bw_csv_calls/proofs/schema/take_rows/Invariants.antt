use Rattle.std.proofs.Common.{◌≡◌, ◌+◌, ◌-◌, ◌^◌, ◌≤◌, List, length}
use Rattle.bw_model.specs.Row.{Value}
use Rattle.bw_csv.specs.Bare.{bare_rows}
use Rattle.bw_csv.specs.Rest.{IsReadable, to_come}
use Rattle.bw_csv.proofs.Passed.{Passed}
use Rattle.bw_csv_calls.specs.ColumnStats.{with_records}
use Rattle.bw_csv_calls.proofs.schema.take_rows.Given as goal

-- what is seen of all rows is what is seen so far, and then of the rows of the records to come
abbrev pub invariant-rows : goal.invariant-rows
invariant-rows l = let width = length l.initial.columns.items in record {
  reads : IsReadable l.rest;
  within : l.number ≤ 2 ^ 24 + 1;
  size : length l.columns.items ≡ width;
  passed : (before : List (List Value)) × Passed (bare_rows width) (to_come l.initial.rest) before l.number (to_come l.rest);
  rest : with_records l.initial.columns.items width 1 (to_come l.initial.rest) ≡ with_records l.columns.items width l.number (to_come l.rest);
}

abbrev pub decreases-rows : goal.decreases-rows
decreases-rows l = 2 ^ 24 + 2 - l.number
