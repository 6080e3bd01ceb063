-- The rows that a CSV text spells under columns, or its first error. The csv crate defines how
-- bytes are cut into records and fields.
use Rattle.std.specs.Prelude.{◌≡◌, ◌+◌, ◌-◌, ℕ, ℤ, Bool, true, false, List, [], ◌∷◌, ◌++◌, ◌⊎◌}
use Rattle.std.specs.Prelude.{◌||◌, ◌&&◌, not, ◌==◌, length, Option, Some, None, Result, Ok, Err}
use Rattle.std.specs.Prelude.{IsOkAnd, IsTrue, if◌then◌else◌, codes, int_le, nat_le, nat_lt}
use Rattle.std.specs.Prelude.{slice_index, drop, map, take}
use Rattle.std.specs.List.{prefix_len, suffix_len}
use Rattle.csv.specs.Reading.{records, strip_bom, default_config}
use Rattle.bw_model.specs.FaultTable.{NO_HEADING, HEADING, RECORD_LENGTH, NOT_A_NUMBER}
use Rattle.bw_model.specs.FaultTable.{OUT_OF_RANGE, NULL_NOT_ALLOWED, TOO_MANY_ROWS, CSV_TOO_LONG}
use Rattle.bw_model.specs.FaultTable.{CSV_FAULT}
use Rattle.bw_model.specs.declared.column.Column.{Column}
use Rattle.bw_model.specs.declared.fault.Fault.{Fault}
use Rattle.bw_model.specs.declared.fault.Place.{Place}
use Rattle.bw_model.specs.declared.fault.Place.TheVariants.{Rec}
use Rattle.bw_model.specs.Fault.{at_record, is_memory, ◌>>=◌, refused_if}
use Rattle.bw_model.specs.Limits.{most_rows}
use Rattle.bw_text.specs.Number.{are_digits, number_of}
use Rattle.bw_model.specs.Row.{Value}
use Rattle.bw_text.specs.Text.{same_text}
use Rattle.bw_csv.specs.Rule.{rule_of}
use Rattle.bw_csv.specs.declared.rule.FieldRule.{FieldRule}

-- the byte is a space or a tab
abbrev pub is_blank : ℕ → Bool
is_blank c = (c == 32) || (c == 9)

-- a field without the blanks at its start, without those at its end, and without both
abbrev pub without_front_blanks : List ℕ → List ℕ
without_front_blanks field = drop (prefix_len is_blank field) field

abbrev pub without_end_blanks : List ℕ → List ℕ
without_end_blanks field = take (length field - suffix_len is_blank field) field

abbrev pub without_blanks : List ℕ → List ℕ
without_blanks field = without_end_blanks (without_front_blanks field)

-- a number that fits 64 bits and is one that a rule allows, or an error at the record of this
-- number
abbrev pub within_bounds : ℕ → FieldRule → Option ℤ → Result Value Fault
within_bounds number rule None = Err (at_record OUT_OF_RANGE number)
within_bounds number rule (Some n) = refused_if (not (int_le rule.lo n && int_le n rule.hi))
    (at_record OUT_OF_RANGE number) (Ok (Some n))

-- the number that a sign and digits spell: there is at least one digit, and the number is within
-- the rule's bounds
abbrev pub number_value : ℕ → FieldRule → Bool → List ℕ → Result Value Fault
number_value number rule is_negative digits =
    refused_if (not (are_digits digits)) (at_record NOT_A_NUMBER number)
    (within_bounds number rule (number_of is_negative digits))

-- the text begins with a minus sign, which is byte 45, or with a plus sign, which is byte 43
abbrev pub is_minus : List ℕ → Bool
is_minus text = slice_index text 0 == 45

abbrev pub is_plus : List ℕ → Bool
is_plus text = slice_index text 0 == 43

-- a text without its minus sign, and without its sign, if it has one
abbrev pub after_minus : List ℕ → List ℕ
after_minus text = if is_minus text then drop 1 text else text

abbrev pub without_sign : List ℕ → List ℕ
without_sign text = if is_minus text || is_plus text then drop 1 text else text

-- the text is empty, or NULL in any case
abbrev pub is_null_text : List ℕ → Bool
is_null_text text = (length text == 0) || same_text text (codes "NULL")

-- the value that a text without blanks spells: null, if the rule allows it, or an optional sign and
-- then a number
abbrev pub text_value : ℕ → FieldRule → List ℕ → Result Value Fault
text_value number rule text =
    if is_null_text text then refused_if (not rule.nullable) (at_record NULL_NOT_ALLOWED number)
    (Ok None)
    else number_value number rule (is_minus text) (without_sign text)

-- the value of a field under a rule, or its error at the record of this number
unfoldable pub value_of_field : ℕ → FieldRule → List ℕ → Result Value Fault
value_of_field number rule field = text_value number rule (without_blanks field)

-- the values of the fields, from the left, or the first error among them
unfoldable pub values_of_fields : ℕ → List FieldRule → List (List ℕ) → Result (List Value) Fault
values_of_fields number [] fields = Ok []
values_of_fields number (rule ∷ rules) [] = Err (at_record RECORD_LENGTH number)
values_of_fields number (rule ∷ rules) (field ∷ fields) =
    value_of_field number rule field >>= λ value. values_of_fields number rules fields
    >>= λ values. Ok (value ∷ values)

-- the row of a record, or its first error: the number of its fields, a row past 2^24, and then its
-- fields
unfoldable pub row_of_record : ℕ → List FieldRule → List (List ℕ) → Result (List Value) Fault
row_of_record number rules fields =
    refused_if (not (length fields == length rules)) (at_record RECORD_LENGTH number)
    (refused_if (nat_lt most_rows number) (at_record TOO_MANY_ROWS number)
    (values_of_fields number rules fields))

-- a row, followed by the rows after it
abbrev pub with_row : List Value → Result (List (List Value)) Fault
    → Result (List (List Value)) Fault
with_row row more = more >>= λ rows. Ok (row ∷ rows)

-- the rows of the records, the first of which has this number
unfoldable pub rows_from : List FieldRule → ℕ → List (List (List ℕ)) → Result (List (List Value)) Fault
rows_from rules number [] = Ok []
rows_from rules number (fields ∷ more) =
    row_of_record number rules fields
    >>= λ row. with_row row (rows_from rules (number + 1) more)

-- the fields are the names of the columns in order, ignoring case
unfoldable pub is_heading : List Column → List (List ℕ) → Bool
is_heading [] [] = true
is_heading [] (field ∷ fields) = false
is_heading (column ∷ columns) [] = false
is_heading (column ∷ columns) (field ∷ fields) = same_text column.name (without_blanks field)
    && is_heading columns fields

-- the rows of the records, the first of which is the heading and has number 0
unfoldable pub rows_after : List Column → List (List (List ℕ)) → Result (List (List Value)) Fault
rows_after columns [] = Err (at_record NO_HEADING 0)
rows_after columns (heading ∷ more) = refused_if (not (is_heading columns heading))
    (at_record HEADING 0)
    (rows_from (map rule_of columns) 1 more)

-- the rows that a text spells, without the byte order mark at its start, if it has one, or its
-- first error
abbrev pub rows_of : List Column → List ℕ → Result (List (List Value)) Fault
rows_of columns text = rows_after columns (records default_config (strip_bom text))

-- the place is a record; it is the record of this number
unfoldable pub is_any_record : Place → Bool
is_any_record (Rec at) = true
is_any_record _ = false

abbrev pub is_record : ℕ → Place → Bool
is_record number (Rec at) = at == number
is_record number _ = false

-- the error is one of the reader's own at a record (209), which no rule of the rows foresees
abbrev pub is_reader_fault : Fault → Bool
is_reader_fault fault = (fault.code == CSV_FAULT) && is_any_record fault.place

-- the error is exempt: out of memory, or one of the reader's own
abbrev pub is_exempt : Fault → Bool
is_exempt fault = is_memory fault || is_reader_fault fault

-- the error is one of 201 to 208, or exempt
abbrev pub is_rows_fault : Fault → Bool
is_rows_fault fault = (nat_le NO_HEADING fault.code && nat_le fault.code CSV_TOO_LONG)
    || is_exempt fault

abbrev pub IsRowsFault : Fault → Type 0
IsRowsFault fault = IsTrue (is_rows_fault fault)

-- an error of the reader's own is at the record of this number
abbrev pub located_at : ℕ → Fault → Bool
located_at number fault = not (fault.code == CSV_FAULT) || is_record number fault.place

-- an error of the reader's own is at the heading, or at the record after those whose rows were
-- delivered
abbrev pub stands_after : ℕ → Fault → Bool
stands_after rows fault = located_at 0 fault || located_at (rows + 1) fault

-- The records begin with some that have rows, the first of which has number 1. The error is one of
-- the reader's own, at the record after them.
pub record StopsAfter (rows_from_number : ℕ → List (List (List ℕ))
    → Result (List (List Value)) Fault)
    (records : List (List (List ℕ))) (fault : Fault) : Type 0 where
  pub done : List (List (List ℕ))
  pub rest : List (List (List ℕ))
  pub all : records ≡ done ++ rest
  pub rows : List (List Value)
  pub good : rows_from_number 1 done ≡ Ok rows
  pub is : fault ≡ at_record CSV_FAULT (length done + 1)

-- An error of the reader's own is at the heading, or at a record after a right heading and records
-- that have rows.
abbrev pub Stops : (List (List ℕ) → List (List (List ℕ)) → Fault → Type 0) → List (List (List ℕ))
    → Fault → Type 0
Stops after records fault =
    (fault ≡ at_record CSV_FAULT 0) ⊎ ((heading : List (List ℕ)) × (more : List (List (List ℕ)))
    × (records ≡ heading ∷ more) × after heading more fault)

-- so it is under these columns
abbrev pub StopsUnder : List Column → List (List (List ℕ)) → Fault → Type 0
StopsUnder columns = Stops (λ heading more fault. (is_heading columns heading ≡ true)
    × StopsAfter (rows_from (map rule_of columns)) more fault)

-- What a call returned is what is expected, except for exempt errors.
abbrev pub MatchesUnlessExempt : {A B : Type 0} → (A → B) → Result A Fault → Result B Fault → Type 0
MatchesUnlessExempt view (Ok x) expected = expected ≡ Ok (view x)
MatchesUnlessExempt view (Err fault) expected = is_exempt fault ≡ false → expected ≡ Err fault

-- A consumer was led through the expected rows; or the call failed by the expected error, except
-- for exempt errors.
abbrev pub DeliversRows : {K : Type 0} → (K → List (List Value) → K → Type 0)
    → Result (List (List Value)) Fault → K → K → Result (Unit {0}) Fault → Type 0
DeliversRows led expected old new (Ok x) = IsOkAnd expected (λ rows. led old rows new)
DeliversRows led expected old new (Err fault) = is_exempt fault ≡ false → expected ≡ Err fault
