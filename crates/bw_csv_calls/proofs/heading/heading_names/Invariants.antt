use Rattle.std.proofs.Common.{◌≡◌, ◌≤◌, true, [], map, length, drop}
use Rattle.bw_model.specs.Name.{are_apart}
use Rattle.bw_csv.specs.Records.{fields_in}
use Rattle.bw_csv.specs.Rows.{without_blanks}
use Rattle.bw_csv_calls.specs.Heading.{names_from}
use Rattle.bw_csv_calls.proofs.heading.heading_names.Given as goal

-- the names are those so far, and then those of the fields to come
abbrev pub invariant-loop-i : goal.invariant-loop-i
invariant-loop-i l = record {
  rest : names_from [] (map without_blanks (fields_in l.records)) ≡ names_from l.names.items (map without_blanks (drop l.i (fields_in l.records)));
  within_limit : length l.names.items ≤ 64;
  apart : are_apart l.names.items ≡ true;
}
