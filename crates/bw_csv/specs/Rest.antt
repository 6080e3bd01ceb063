-- The records of a text that are still unread; plain ones are read from the text itself, others by
-- the csv reader.
use Rattle.std.specs.Bool.{MatchBool}
use Rattle.std.specs.Prelude.{◌≡◌, ℕ, true, List, Some, if◌then◌else◌}
use Rattle.csv.specs.declared.parser.State.TheVariants as st
use Rattle.bw_csv.specs.Plain.{is_line_end}
use Rattle.bw_csv.specs.Records.{IsOpen, remaining_records, records_in}
use Rattle.bw_csv.specs.declared.rest.Rest.{Rest}

-- the records that are still unread
unfoldable pub to_come : Rest → List (List (List ℕ))
to_come rest = if rest.reads_text then records_in st.StartRecord (Some rest.text.now)
    else remaining_records rest.records

-- the text begins with a line's end or has ended; or the reader is open
unfoldable pub IsReadable : Rest → Type 0
IsReadable rest = MatchBool rest.reads_text (is_line_end rest.text.now ≡ true) (IsOpen rest.records)
