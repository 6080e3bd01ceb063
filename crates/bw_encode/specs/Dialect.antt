-- How the csv crate cuts a text into records and fields under a dialect, and which record is the
-- first with a loose quotation mark.
use Rattle.std.specs.Prelude.{ℕ, ◌+◌, Bool, true, false, List, [], ◌∷◌, length, Option, Some, None}
use Rattle.std.specs.Prelude.{if◌then◌else◌, ◌==◌}
use Rattle.csv.specs.Machine.{step, is_end}
use Rattle.csv.specs.Reading.{records_from, strip_bom}
use Rattle.csv.specs.declared.parser.Config.{Config}
use Rattle.csv.specs.declared.parser.State.{State}
use Rattle.csv.specs.declared.parser.State.TheVariants as st
use Rattle.csv.specs.declared.parser.Terminator.TheVariants as term
use Rattle.bw_encode.specs.declared.dialect.Dialect.{Dialect}

-- the csv crate's settings for a dialect; a line feed, a carriage return, or both, end a line
abbrev pub config_of : Dialect → Config
config_of dialect = record {
  delimiter = dialect.separator;
  quote = dialect.quote;
  escape = dialect.escape;
  double_quote = true;
  quoting = true;
  comment = dialect.comment;
  terminator = term.CRLF;
}

-- the records of a text that goes on in this state of the csv crate's reader
abbrev pub records_in : Dialect → State → List ℕ → List (List (List ℕ))
records_in dialect state text = records_from (config_of dialect) (length text + 1) state text

-- the records of a text, without the byte order mark at its start, if it has one
abbrev pub records_of : Dialect → List ℕ → List (List (List ℕ))
records_of dialect text = records_in dialect st.StartRecord (strip_bom text)

abbrev pub is_bare : State → Bool
is_bare st.InField = true
is_bare _ = false

-- a field goes on after its closing quotation mark
abbrev pub goes_on_bare : State → State → Bool
goes_on_bare st.AfterQuote next = is_bare next
goes_on_bare _ next = false

-- a quotation mark is open at the text's end
abbrev pub is_open : State → Bool
is_open st.InQuoted = true
is_open st.InEscape = true
is_open _ = false

-- the number of the first record with a loose quotation mark, in a text that goes on in this state
-- of its record of this number: text follows a closing one, or one is open at the text's end
unfoldable pub loose_from : Dialect → ℕ → State → List ℕ → Option ℕ
loose_from dialect number state [] = if is_open state then Some number else None
loose_from dialect number state (c ∷ cs) =
    if goes_on_bare state (step (config_of dialect) state c).0 then Some number
    else loose_from dialect
    (if is_end (step (config_of dialect) state c).1 then number + 1 else number)
    (step (config_of dialect) state c).0 cs

-- the first record that a dialect rejects for its quotation marks, if it isn't lenient
abbrev pub loose_in : Dialect → ℕ → State → List ℕ → Option ℕ
loose_in dialect number state text = if dialect.is_lenient then None
    else loose_from dialect number state text

-- the number is that of the record
abbrev pub is_at : Option ℕ → ℕ → Bool
is_at None number = false
is_at (Some at) number = at == number
