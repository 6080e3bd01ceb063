-- Records without a quotation mark, within a text.
use Rattle.std.specs.Prelude.{◌≡◌, ◌≤◌, ℕ, Bool, true, List, [], ◌∷◌, ◌||◌, not, ◌==◌, length, take}
use Rattle.std.specs.Prelude.{drop, Some, Ok}
use Rattle.std.specs.List.{list_all}
use Rattle.csv.specs.declared.parser.State.{State}
use Rattle.csv.specs.declared.parser.State.TheVariants as st
use Rattle.bw_model.specs.Row.{Value}
use Rattle.bw_csv.specs.declared.rule.FieldRule.{FieldRule}
use Rattle.bw_csv.specs.declared.heading_end.Inside.{Inside}
use Rattle.bw_csv.specs.declared.heading_end.Inside.TheVariants.{Before, Front, Bare, Quoted}
use Rattle.bw_csv.specs.declared.heading_end.Inside.TheVariants.{Closed}
use Rattle.bw_csv.specs.Records.{records_in}
use Rattle.bw_csv.specs.Rows.{row_of_record}

-- the byte is a line feed or a carriage return
abbrev pub ends_line : ℕ → Bool
ends_line c = (c == 13) || (c == 10)

-- the byte ends an unquoted field: it is a comma, which is byte 44, or a line's end
abbrev pub ends_field : ℕ → Bool
ends_field c = (c == 44) || ends_line c

-- the byte is any other but a quotation mark, which is byte 34
abbrev pub is_plain : ℕ → Bool
is_plain c = not (ends_field c || (c == 34))

-- a line ends here
abbrev pub is_line_end : List ℕ → Bool
is_line_end [] = true
is_line_end (c ∷ cs) = ends_line c

-- a field ends here
abbrev pub is_field_end : List ℕ → Bool
is_field_end [] = true
is_field_end (c ∷ cs) = ends_field c

-- the text begins with a field of `size` plain bytes
abbrev pub IsPlainField : List ℕ → ℕ → Type 0
IsPlainField text size = (size ≤ length text) × (list_all is_plain (take size text) ≡ true)
    × (is_field_end (drop size text) ≡ true)

-- the csv reader's state at the place of a byte in a record
abbrev pub state_of : Inside → State
state_of Before = st.StartRecord
state_of Front = st.StartField
state_of Bare = st.InField
state_of Quoted = st.InQuoted
state_of Closed = st.AfterQuote

-- A text's first record has a row of these values, and `rest` is the text after the record.
pub record HasRow (number : ℕ) (rules : List FieldRule) (text rest : List ℕ)
    (values : List Value) : Type 0 where
  pub fields : List (List ℕ)
  pub first : records_in st.StartRecord (Some text) ≡ fields ∷ records_in st.StartRecord (Some rest)
  pub row : row_of_record number rules fields ≡ Ok values
