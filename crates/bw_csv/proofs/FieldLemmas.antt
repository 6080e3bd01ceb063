-- The fields of a record, and what they spell, one more at a time.
use Rattle.std.proofs.Common.{◌≡◌, ◌∙◌, ℕ, zero, suc, ◌+◌, ◌<◌, ◌≤◌, List, [], ◌∷◌, ◌++◌, length}
use Rattle.std.proofs.Common.{drop, get_or, Some, None, Result, Ok, Err, false, eqb, refl, sym, ap}
use Rattle.std.proofs.Common.{arith, append_assoc, ◌&&◌}
use Rattle.std.proofs.lemmas.List.{append-nil, drop_all, drop_more}
use Rattle.std.proofs.Math.Dec.{eqb-suc-suc, eqb-suc-zero}
use Rattle.csv.specs.Records.{field_at}
use Rattle.bw_model.specs.declared.column.Column.{Column}
use Rattle.bw_csv.specs.declared.rule.FieldRule.{FieldRule}
use Rattle.bw_model.specs.declared.fault.Fault.{Fault}
use Rattle.bw_model.specs.Fault.{◌>>=◌, at_record}
use Rattle.bw_model.specs.Row.{Value}
use Rattle.bw_text.specs.Text.{same_text}
use Rattle.bw_csv.specs.Rows.{is_heading, without_blanks, value_of_field, values_of_fields}

-- a field at a place, and the fields from there on
pub field_found : (fields : List (List ℕ)) (i : ℕ) (field : List ℕ) → field_at fields i ≡ Some field → (i < length fields) × (get_or fields i [] ≡ field)
unfolding field_at
field_found [] i field e = absurd (cc e)
field_found (f ∷ fs) zero field e = (omega arith, cc)
field_found (f ∷ fs) (suc i) field e = let more = field_found fs i field e in (omega (arith, more.0), more.1)

pub field_missed : (fields : List (List ℕ)) (i : ℕ) → field_at fields i ≡ None → length fields ≤ i
unfolding field_at
field_missed [] i e = omega arith
field_missed (f ∷ fs) zero e = absurd (cc e)
field_missed (f ∷ fs) (suc i) e = let more = field_missed fs i e in omega arith

pub drop-field_at : (fields : List (List ℕ)) (i : ℕ) (field : List ℕ) → field_at fields i ≡ Some field → drop i fields ≡ field ∷ drop (i + 1) fields
drop-field_at fields i field e = let found = field_found fields i field e in drop_more fields i [] found.0 ∙ rw found.1 refl

pub drop-no_field : (fields : List (List ℕ)) (i : ℕ) → field_at fields i ≡ None → drop i fields ≡ []
drop-no_field fields i e = drop_all i fields (field_missed fields i e)

-- the columns from a place on
pub drop-column : (columns : List Column) (i : ℕ) (column : Column) → i < length columns → column ≡ get_or columns i column → drop i columns ≡ column ∷ drop (i + 1) columns
drop-column columns i column h e = drop_more columns i column h ∙ rw (← e) refl

-- one more name of a heading
pub is_heading-next : (cs cs2 : List Column) (fs fs2 : List (List ℕ)) (column : Column) (field : List ℕ) → cs ≡ column ∷ cs2 → fs ≡ field ∷ fs2
    → is_heading cs fs ≡ (same_text column.name (without_blanks field) && is_heading cs2 fs2)
unfolding is_heading
is_heading-next cs cs2 fs fs2 column field c f = rw (c, f) refl

-- a column without a field
pub is_heading-short : (cs cs2 : List Column) (fs : List (List ℕ)) (column : Column) → cs ≡ column ∷ cs2 → fs ≡ [] → is_heading cs fs ≡ false
unfolding is_heading
is_heading-short cs cs2 fs column c f = rw (c, f) refl

-- no column is left, and no field should be
no_field_left : (fs : List (List ℕ)) (n : ℕ) → n ≤ length fs → is_heading [] (drop n fs) ≡ eqb (length fs) n
unfolding is_heading
no_field_left [] zero h = refl
no_field_left [] (suc n) h = absurd (omega arith)
no_field_left (f ∷ fs) zero h = sym (eqb-suc-zero (length fs))
no_field_left (f ∷ fs) (suc n) h = no_field_left fs n (omega arith) ∙ sym (eqb-suc-suc (length fs) n)

pub is_heading-end : (cs : List Column) (fs : List (List ℕ)) (n : ℕ) → cs ≡ [] → n ≤ length fs → is_heading cs (drop n fs) ≡ eqb (length fs) n
is_heading-end cs fs n e h = rw e (no_field_left fs n h)

-- results after those so far
abbrev pub after : {A : Type 0} → List A → Result (List A) Fault → Result (List A) Fault
after done more = more >>= λ rest. Ok (done ++ rest)

pub after-nothing : {A : Type 0} (more : Result (List A) Fault) → more ≡ after [] more
after-nothing (Ok rest) = refl
after-nothing (Err fault) = refl

pub after-cons : {A : Type 0} (done : List A) (x : A) (more : Result (List A) Fault) → after done (more >>= λ rest. Ok (x ∷ rest)) ≡ after (done ++ x ∷ []) more
after-cons done x (Ok rest) = ap Ok (sym (append_assoc done (x ∷ []) rest))
after-cons done x (Err fault) = refl

-- one more value
pub values-next : (number : ℕ) (cs cs2 : List FieldRule) (fs fs2 : List (List ℕ)) (rule : FieldRule) (field : List ℕ) (value : Value) (done : List Value)
    → cs ≡ rule ∷ cs2 → fs ≡ field ∷ fs2 → value_of_field number rule field ≡ Ok value
    → after done (values_of_fields number cs fs) ≡ after (done ++ value ∷ []) (values_of_fields number cs2 fs2)
unfolding values_of_fields
values-next number cs cs2 fs fs2 rule field value done c f v = rw (c, f, v) (after-cons done value (values_of_fields number cs2 fs2))

pub values-fault : (number : ℕ) (cs cs2 : List FieldRule) (fs fs2 : List (List ℕ)) (rule : FieldRule) (field : List ℕ) (fault : Fault) (done : List Value)
    → cs ≡ rule ∷ cs2 → fs ≡ field ∷ fs2 → value_of_field number rule field ≡ Err fault
    → after done (values_of_fields number cs fs) ≡ Err fault
unfolding values_of_fields
values-fault number cs cs2 fs fs2 rule field fault done c f v = rw (c, f, v) refl

pub values-short : (number : ℕ) (cs cs2 : List FieldRule) (fs : List (List ℕ)) (rule : FieldRule) (done : List Value)
    → cs ≡ rule ∷ cs2 → fs ≡ [] → after done (values_of_fields number cs fs) ≡ Err (at_record 203 number)
unfolding values_of_fields
values-short number cs cs2 fs rule done c f = rw (c, f) refl

pub values-end : (number : ℕ) (cs : List FieldRule) (fs : List (List ℕ)) (done : List Value) → cs ≡ [] → after done (values_of_fields number cs fs) ≡ Ok done
unfolding values_of_fields
values-end number cs fs done c = rw c (ap Ok (append-nil done))
