-- The records of a text that are still unread.
use Rattle.std.specs.Prelude.{◌≡◌, ◌+◌, ℕ, List, [], length, Option, Some, None, IsSome, false}
use Rattle.std.specs.Prelude.{true, Bool}
use Rattle.std.specs.Borrow.{Bor}
use Rattle.csv.specs.Reading.{Ready, has_failed, is_flexible, records_from, source_of}
use Rattle.csv.specs.Reading.{default_config}
use Rattle.csv.specs.Records.{fields_of}
use Rattle.csv.specs.declared.parser.State.{State}
use Rattle.csv.specs.declared.parser.State.TheVariants as st
use Rattle.csv.specs.declared.reader.Reader.{Reader}
use Rattle.csv.specs.declared.reader.Trim.TheVariants as trim
use Rattle.bw_csv.specs.declared.records.Records.{Records}

-- the bytes under a reader of a text
abbrev pub bytes_under : Bor (List ℕ) → Option (List ℕ)
bytes_under text = Some text.now

-- the records of these bytes, from a state
abbrev pub records_in : State → Option (List ℕ) → List (List (List ℕ))
records_in state None = []
records_in state (Some bytes) = records_from default_config (length bytes + 1) state bytes

-- the records that a reader still has to read
abbrev pub left_in : Reader (Bor (List ℕ)) → List (List (List ℕ))
left_in reader = records_in reader.state (source_of bytes_under reader)

-- the records that are still unread
unfoldable pub remaining_records : Records → List (List (List ℕ))
remaining_records records = left_in records.reader

-- a reader with the crate's default settings, but that records may differ in length; it takes no
-- record as a heading of its own, and hasn't failed or ended
abbrev pub IsOpenReader : Reader (Bor (List ℕ)) → Type 0
IsOpenReader reader = (reader.config ≡ default_config) × (reader.trim ≡ trim.None) × Ready reader
    × (has_failed reader ≡ false) × IsSome (source_of bytes_under reader)
    × (is_flexible reader ≡ true)

-- the reader is open, and if the text is followed, its records are those that the reader still has
-- to read
unfoldable pub IsOpen : Records → Type 0
IsOpen records = IsOpenReader records.reader
    × (records.is_followed ≡ true → records_in st.StartRecord (Some records.text.now)
    ≡ left_in records.reader)

-- the csv reader has reported an error, and reads nothing more
abbrev pub has_stopped : Records → Bool
has_stopped records = has_failed records.reader

-- the fields of the last record
abbrev pub fields_in : Records → List (List ℕ)
fields_in records = fields_of records.fields
