use Rattle.std.proofs.Common.{◌≡◌, drop}
use Rattle.csv.specs.Records.{fields_of}
use Rattle.bw_csv.specs.Rows.{values_of_fields}
use Rattle.bw_csv.proofs.FieldLemmas.{after}
use Rattle.bw_csv.proofs.row.read_values.Given as goal

-- the values are those so far, and then those of the fields to come
abbrev pub invariant-loop-i : goal.invariant-loop-i
invariant-loop-i l = values_of_fields l.number l.rules (fields_of l.fields) ≡ after l.row.values.items (values_of_fields l.number (drop l.i l.rules) (drop l.i (fields_of l.fields)))
