use Rattle.std.proofs.Common.{◌≡◌, ◌≤◌, length, drop}
use Rattle.csv.specs.Records.{fields_of}
use Rattle.bw_csv.specs.Rows.{is_heading}
use Rattle.bw_csv.proofs.row.is_heading.Given as goal

-- the names so far agree
abbrev pub invariant-loop-i : goal.invariant-loop-i
invariant-loop-i l = record {
  within : l.i ≤ length (fields_of l.fields);
  rest : is_heading l.columns (fields_of l.fields) ≡ is_heading (drop l.i l.columns) (drop l.i (fields_of l.fields));
}
