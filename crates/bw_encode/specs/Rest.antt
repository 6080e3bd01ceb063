-- Where the rows of a text end: at the record after them.
use Rattle.std.specs.Prelude.{ℕ, zero, suc, ◌+◌, ◌-◌, List, [], length, Option, Some, None}
use Rattle.csv.specs.Machine.{Read, next_record}
use Rattle.csv.specs.Reading.{strip_bom}
use Rattle.csv.specs.declared.parser.State.{State}
use Rattle.csv.specs.declared.parser.State.TheVariants as st
use Rattle.bw_encode.specs.declared.dialect.Dialect.{Dialect}
use Rattle.bw_encode.specs.Dialect.{config_of}

-- a text that has a record, or nothing
abbrev pub text_of : List ℕ → Option Read → List ℕ
text_of text None = []
text_of text (Some read) = text

-- what a function of the state and the text after a record returns, or nothing
abbrev pub after_read : (State → List ℕ → List ℕ) → Option Read → List ℕ
after_read rest None = []
after_read rest (Some (fields, state, text)) = rest state text

-- the text after this many records, or nothing if no record follows
unfoldable pub text_after : Dialect → ℕ → State → List ℕ → List ℕ
text_after dialect zero state text =
    text_of text (next_record (config_of dialect) state [] [] text)
text_after dialect (suc n) state text =
    after_read (text_after dialect n) (next_record (config_of dialect) state [] [] text)

-- the same by a limit of records, if there is one
abbrev pub text_past : Dialect → Option ℕ → State → List ℕ → List ℕ
text_past dialect None state text = []
text_past dialect (Some count) state text = text_after dialect count state text

-- a heading, and this many rows after it
abbrev pub with_heading : Option ℕ → Option ℕ
with_heading None = None
with_heading (Some rows) = Some (rows + 1)

-- how many bytes of a text precede the first record that isn't read, or its length if all are
abbrev pub bytes_read : Dialect → Option ℕ → List ℕ → ℕ
bytes_read dialect rows text = length text
    - length (text_past dialect (with_heading rows) st.StartRecord (strip_bom text))
