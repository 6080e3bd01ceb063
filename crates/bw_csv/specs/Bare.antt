-- The rows that a CSV text spells without a schema: each has as many fields as the heading, and
-- each field is null or a number of 64 bits.
use Rattle.std.specs.Prelude.{ℕ, List, replicate, Result}
use Rattle.csv.specs.Reading.{records, strip_bom, default_config}
use Rattle.bw_model.specs.declared.fault.Fault.{Fault}
use Rattle.bw_model.specs.Row.{Value}
use Rattle.bw_csv.specs.Rows.{rows_from}
use Rattle.bw_csv.specs.Rule.{any_number}

-- the records of a text, without the byte order mark at its start, if it has one
abbrev pub records_of : List ℕ → List (List (List ℕ))
records_of text = records default_config (strip_bom text)

-- the rows of the records, each of which must have `width` fields, and the first of which has this
-- number
abbrev pub bare_rows : ℕ → ℕ → List (List (List ℕ)) → Result (List (List Value)) Fault
bare_rows width number records = rows_from (replicate width any_number) number records
