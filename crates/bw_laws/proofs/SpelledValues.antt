-- A number in decimal, NULL and a name, each as a field of a CSV text: it needs no quotes, and it
-- spells itself.
use Rattle.std.proofs.Common.{◌≡◌, ◌∙◌, ℕ, ℤ, pos, negsuc, suc, ◌-ℤ◌, ◌^◌, ◌<◌, ◌≤◌, List, []}
use Rattle.std.proofs.Common.{◌∷◌, Some, None, Ok, Bool, true, false, not, length}
use Rattle.std.proofs.Common.{map, refl, sym, ap, arith, eqb, lt-ltb, FitsSigned, w64, All}
use Rattle.std.specs.Prelude.{◌&&◌, ◌||◌, int_le, nat_le}
use Rattle.std.specs.Char.{is_ascii_digit}
use Rattle.std.specs.Fmt.{decimal, signed_decimal}
use Rattle.std.specs.Int.{is_in_range}
use Rattle.std.specs.List.{list_all}
use Rattle.std.proofs.lemmas.Bool.{le-leb, ne_eqb, and_parts}
use Rattle.std.proofs.lemmas.Int.{ints}
use Rattle.bw_model.specs.declared.column.Column.{Column}
use Rattle.bw_model.specs.Column.{admits_value, names_of}
use Rattle.bw_model.specs.Name.{is_name}
use Rattle.bw_model.specs.Row.{Value}
use Rattle.bw_model.specs.Schema.{IsColumn}
use Rattle.bw_model.specs.SchemaText.{column_shape}
use Rattle.bw_text.specs.Keyword.{is_reserved}
use Rattle.bw_text.specs.Number.{are_digits, number_of}
use Rattle.bw_text.specs.Text.{begins_word, goes_on_in_word, is_word, same_text}
use Rattle.bw_text.proofs.DecimalLemmas.{Spells, decimal_spells}
use Rattle.bw_text.proofs.WordSpelling.{same_as_itself}
use Rattle.bw_answer.specs.Answer.{value_text}
use Rattle.bw_csv.specs.Plain.{is_plain}
use Rattle.bw_csv.specs.Rule.{rule_of}
use Rattle.bw_csv.specs.Rows.{after_minus, is_blank, is_heading, is_minus, value_of_field}
use Rattle.bw_csv.specs.Rows.{without_blanks, without_front_blanks}
use Rattle.bw_csv.proofs.DigitsAlone.{other_than, signed_digits, ended, last_of}
use Rattle.bw_csv.proofs.PlainFields.{plain_number}

-- a field that shows itself: a byte or more, none of which ends a field or is a quotation mark
abbrev pub shows : List ℕ → Bool
shows [] = false
shows (c ∷ cs) = list_all is_plain (c ∷ cs)

-- digits, after a minus sign if there is one, which spell a number of 64 bits
record Signed (n : ℤ) (field : List ℕ) : Type 0 where
  digits : are_digits (after_minus field) ≡ true
  number : number_of (is_minus field) (after_minus field) ≡ Some n

positive : (n : ℕ) (digits : List ℕ) → n < 2 ^ 63 → Spells n digits → Signed (pos n) digits
unfolding number_of
positive n [] small spells = absurd (omega (arith, spells.nonempty))
positive n (c ∷ cs) small spells =
    let first = and_parts (is_ascii_digit c) (list_all is_ascii_digit cs) spells.all in
    let unsigned : eqb c 45 ≡ false = other_than c 45 first.0 (omega arith) in
    record {
      digits = rw unsigned spells.all;
      number = rw (unsigned, spells.value, lt-ltb n (2 ^ 63) small) refl;
    }

negative : (n : ℕ) (digits : List ℕ) → suc n ≤ 2 ^ 63 → Spells (suc n) digits → Signed (negsuc n) (45 ∷ digits)
unfolding number_of
negative n [] small spells = absurd (omega (arith, spells.nonempty))
negative n (c ∷ cs) small spells =
    let minus : pos 0 -ℤ pos (suc n) ≡ negsuc n = omega (arith, ints) in
    record { digits = spells.all; number = rw (spells.value, le-leb (suc n) (2 ^ 63) small) (ap Some minus) }

signed : (n : ℤ) → FitsSigned w64 n → Signed n (signed_decimal n)
signed (pos n) fits = positive n (decimal n) (omega (arith, ints)) (decimal_spells n (omega (arith, ints)))
signed (negsuc n) fits = negative n (decimal (suc n)) (omega (arith, ints)) (decimal_spells (suc n) (omega (arith, ints)))

-- a number between bounds of 64 bits has 64 bits
pub fits_between : (lo hi n : ℤ) → FitsSigned w64 lo → FitsSigned w64 hi → int_le lo n ≡ true → int_le n hi ≡ true → FitsSigned w64 n
fits_between lo hi n low high above below = grind (arith, ints)

pub fits_in : (column : Column) (n : ℤ) → IsColumn (column_shape column) → admits_value column (Some n) ≡ true → FitsSigned w64 n
fits_in column n is admitted =
    let sides = and_parts (int_le column.lo n) (int_le n column.hi) admitted in
    fits_between column.lo column.hi n is.lo is.hi sides.0 sides.1

signed_in : (column : Column) (n : ℤ) → IsColumn (column_shape column) → admits_value column (Some n) ≡ true → Signed n (signed_decimal n)
signed_in column n is admitted = signed n (fits_in column n is admitted)

-- the text of a value that a column admits spells that value in it
null_spelled : (number : ℕ) (column : Column) → column.nullable ≡ true → value_of_field number (rule_of column) (value_text None) ≡ Ok None
unfolding value_of_field same_text
null_spelled number column nullable = rw nullable refl

number_spelled : (number : ℕ) (column : Column) (n : ℤ) → admits_value column (Some n) ≡ true → Signed n (signed_decimal n)
    → value_of_field number (rule_of column) (signed_decimal n) ≡ Ok (Some n)
number_spelled number column n admitted spells = signed_digits number (rule_of column) (signed_decimal n) spells.digits ∙ rw (spells.number, admitted) refl

pub value_spelled : (number : ℕ) (column : Column) (value : Value) → IsColumn (column_shape column) → admits_value column value ≡ true
    → value_of_field number (rule_of column) (value_text value) ≡ Ok value
value_spelled number column None is admitted = null_spelled number column admitted
value_spelled number column (Some n) is admitted = number_spelled number column n admitted (signed_in column n is admitted)

digits_show : (field : List ℕ) → are_digits (after_minus field) ≡ true → shows field ≡ true
digits_show [] e = absurd (cc e)
digits_show (c ∷ cs) e = plain_number (c ∷ cs) e

pub value_shows : (column : Column) (value : Value) → IsColumn (column_shape column) → admits_value column value ≡ true → shows (value_text value) ≡ true
value_shows column None is admitted = refl
value_shows column (Some n) is admitted = digits_show (signed_decimal n) (signed_in column n is admitted).digits

-- a byte that passes a test is none that does not pass it
other : (passes : ℕ → Bool) (c d : ℕ) → passes c ≡ true → passes d ≡ false → eqb c d ≡ false
other passes c d e f = ne_eqb c d (λ same. let t : true ≡ false = sym e ∙ ap passes same ∙ f in absurd (cc t))

-- the bytes of a name are plain and no blanks
word_plain : (c : ℕ) → goes_on_in_word c ≡ true → is_plain c ≡ true
word_plain c e = rw (other goes_on_in_word c 44 e refl, other goes_on_in_word c 13 e refl, other goes_on_in_word c 10 e refl, other goes_on_in_word c 34 e refl) refl

word_solid : (c : ℕ) → goes_on_in_word c ≡ true → is_blank c ≡ false
word_solid c e = rw (other goes_on_in_word c 32 e refl, other goes_on_in_word c 9 e refl) refl

pub word_unmarked : (c : ℕ) → goes_on_in_word c ≡ true → eqb c 0xEF ≡ false
word_unmarked c e = other goes_on_in_word c 0xEF e refl

words_plain : (cs : List ℕ) → list_all goes_on_in_word cs ≡ true → list_all is_plain cs ≡ true
words_plain [] e = refl
words_plain (c ∷ cs) e = let is = and_parts (goes_on_in_word c) (list_all goes_on_in_word cs) e in rw (word_plain c is.0, words_plain cs is.1) refl

goes_on : (a b u d : Bool) → ((a || b) || u) ≡ true → (((d || a) || b) || u) ≡ true
goes_on true b u false e = refl
goes_on false true u false e = refl
goes_on false false true false e = refl
goes_on false false false d e = absurd (cc e)
goes_on _ _ _ _ e = refl

-- a name begins with a byte, and continues in words' bytes
abbrev pub is_solid : List ℕ → Bool
is_solid [] = false
is_solid (c ∷ cs) = list_all goes_on_in_word (c ∷ cs)

word_is_solid : (text : List ℕ) → is_word text ≡ true → is_solid text ≡ true
word_is_solid [] e = absurd (cc e)
word_is_solid (c ∷ cs) e =
    let parts = and_parts (begins_word c) (list_all goes_on_in_word cs) e in
    let first : goes_on_in_word c ≡ true = goes_on (is_in_range 65 90 c) (is_in_range 97 122 c) (eqb c 95) (is_in_range 48 57 c) parts.0 in
    rw first parts.1

pub name_is_solid : (name : List ℕ) → is_name name ≡ true → is_solid name ≡ true
unfolding is_name
name_is_solid name e = word_is_solid name (and_parts (is_word name) (nat_le (length name) 63) (and_parts (is_word name && nat_le (length name) 63) (not (is_reserved name)) e).0).0

pub solid_shows : (name : List ℕ) → is_solid name ≡ true → shows name ≡ true
solid_shows [] e = absurd (cc e)
solid_shows (c ∷ cs) e = words_plain (c ∷ cs) e

-- no blanks are dropped from it
front_stays : (c : ℕ) (cs : List ℕ) → goes_on_in_word c ≡ true → without_front_blanks (c ∷ cs) ≡ c ∷ cs
front_stays c cs e = rw (word_solid c e) refl

solid_stays : (name : List ℕ) → is_solid name ≡ true → without_blanks name ≡ name
solid_stays [] e = absurd (cc e)
solid_stays (c ∷ cs) e =
    let parts = and_parts (goes_on_in_word c) (list_all goes_on_in_word cs) e in
    rw (front_stays c cs parts.0) (ended (c ∷ cs) (omega arith) (last_of goes_on_in_word word_solid (c ∷ cs) (omega arith) e))

-- columns, each as every column is
abbrev pub AreColumns : List Column → Type 0
AreColumns columns = All IsColumn (map column_shape columns)

pub first_is : (column : Column) (columns : List Column) → AreColumns (column ∷ columns) → IsColumn (column_shape column)
first_is column columns are = are 0 (column_shape column) (omega arith)

pub others_are : (column : Column) (columns : List Column) → AreColumns (column ∷ columns) → AreColumns columns
others_are column columns are = λ k d lt. are (suc k) d (omega arith)

-- the names of columns are a heading of theirs
pub names_head : (columns : List Column) → AreColumns columns → is_heading columns (names_of columns) ≡ true
unfolding is_heading
names_head [] are = refl
names_head (column ∷ columns) are =
    rw (solid_stays column.name (name_is_solid column.name (first_is column columns are).name), same_as_itself column.name) (names_head columns (others_are column columns are))
