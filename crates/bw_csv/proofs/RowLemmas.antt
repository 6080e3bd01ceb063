-- The rows of a text, one more at a time.
use Rattle.std.proofs.Common.{◌≡◌, ◌∙◌, ℕ, ℤ, ◌+◌, ◌^◌, ◌≤◌, arith, ltb, List, [], ◌∷◌, ◌++◌}
use Rattle.std.proofs.Common.{length, Option, Some, None, Result, Ok, Err, true, false, refl, ap}
use Rattle.std.proofs.Common.{eqb, ◌&&◌, not, int_le, IfOk, IsOkAnd, eq-eqb, eqb-true, le-ltb}
use Rattle.std.proofs.Common.{ltb-false, append-nil, map, sym}
use Rattle.std.specs.List.{list_all}
use Rattle.std.proofs.lemmas.Bool.{and_from, cond_both, not-false}
use Rattle.bw_model.specs.declared.column.Column.{Column}
use Rattle.bw_csv.specs.declared.rule.FieldRule.{FieldRule}
use Rattle.bw_model.specs.declared.fault.Fault.{Fault}
use Rattle.bw_model.specs.Fault.{◌>>=◌, at_record, refused_if}
use Rattle.bw_model.specs.Column.{admits_values}
use Rattle.bw_csv.specs.Rule.{allow_values, allows, rule_of}
use Rattle.bw_text.specs.Number.{are_digits, number_of}
use Rattle.bw_model.specs.Row.{Value}
use Rattle.bw_model.proofs.FaultLemmas.{not_refused, bind_ok}
use Rattle.bw_csv.specs.Rows.{StopsAfter, is_reader_fault, located_at, is_heading, is_minus}
use Rattle.bw_csv.specs.Rows.{is_null_text, row_of_record, rows_from, rows_after}
use Rattle.bw_csv.specs.Rows.{without_sign, value_of_field, values_of_fields, with_row, within_bounds}
use Rattle.bw_csv.specs.Rows.{without_blanks}
use Rattle.bw_csv.proofs.FieldLemmas.{after}
use Rattle.bw_csv.proofs.Passed.{Passed, passed-nothing, passed-next, passed-on, passed-stops}

-- a rule allows the value of a field
within_admitted : (number : ℕ) (rule : FieldRule) (spelled : Option ℤ) (value : Value) → within_bounds number rule spelled ≡ Ok value → allows rule value ≡ true
within_admitted number rule None value e = cc e
within_admitted number rule (Some n) value e =
    let p = not_refused (not (int_le rule.lo n && int_le n rule.hi)) (at_record 205 number) (Ok (Some n)) value e in
    let same : ◌≡◌ {A = Value} (Some n) value = cc in rw (← same) (not-false _ p.0)

pub value_admitted : (number : ℕ) (rule : FieldRule) (field : List ℕ) (value : Value) → value_of_field number rule field ≡ Ok value → allows rule value ≡ true
unfolding value_of_field
value_admitted number rule field value =
    let text = without_blanks field in
    cond_both (is_null_text text) _ _ (λ (r : Result Value Fault). r ≡ Ok value → allows rule value ≡ true)
    (λ null e. let p = not_refused (not rule.nullable) (at_record 206 number) (Ok None) value e in
    let same : ◌≡◌ {A = Value} None value = cc in rw (← same) (not-false _ p.0))
    (λ some e. within_admitted number rule (number_of (is_minus text) (without_sign text)) value
    (not_refused (not (are_digits (without_sign text))) (at_record 204 number) _ value e).1)

-- rules allow the values of fields
values_admitted : (number : ℕ) (rules : List FieldRule) (fields : List (List ℕ)) (values : List Value)
    → values_of_fields number rules fields ≡ Ok values → allow_values rules values ≡ true
unfolding values_of_fields
values_admitted number [] fields values e = let same : ◌≡◌ {A = List Value} [] values = cc in rw (← same) refl
values_admitted number (rule ∷ rules) [] values e = cc e
values_admitted number (rule ∷ rules) (field ∷ fields) values e =
    let one = bind_ok (value_of_field number rule field) (λ value. values_of_fields number rules fields >>= λ rest. Ok (value ∷ rest)) values e in
    let more = bind_ok (values_of_fields number rules fields) (λ rest. Ok (one.0 ∷ rest)) values one.2 in
    let same : ◌≡◌ {A = List Value} (one.0 ∷ more.0) values = cc more.2 in
    rw (← same) (and_from _ _ (value_admitted number rule field one.0 one.1) (values_admitted number rules fields more.0 more.1))

-- the width and the number of a record that has a row, and the values of that row
pub record_passed : (number width : ℕ) (fields : List (List ℕ)) (values : Result (List Value) Fault) (row : List Value)
    → refused_if (not (eqb (length fields) width)) (at_record 203 number) (refused_if (ltb (2 ^ 24) number) (at_record 207 number) values) ≡ Ok row
    → (length fields ≡ width) × (number ≤ 2 ^ 24) × (values ≡ Ok row)
record_passed number width fields values row e =
    let one = not_refused (not (eqb (length fields) width)) (at_record 203 number) (refused_if (ltb (2 ^ 24) number) (at_record 207 number) values) row e in
    let two = not_refused (ltb (2 ^ 24) number) (at_record 207 number) values row one.1 in
    (eqb-true _ _ (not-false _ one.0), ltb-false _ _ two.0, two.1)

-- a record's row, if it has the width, the number and the values
pub row_made : (number : ℕ) (rules : List FieldRule) (fields : List (List ℕ)) (values : List Value) → number ≤ 2 ^ 24 → length fields ≡ length rules
    → values_of_fields number rules fields ≡ Ok values → row_of_record number rules fields ≡ Ok values
unfolding row_of_record
row_made number rules fields values few same e =
    rw (eq-eqb (length fields) (length rules) same, le-ltb (2 ^ 24) number few) e

-- rules allow the row of a record
pub row_admitted : (number : ℕ) (rules : List FieldRule) (fields : List (List ℕ)) (row : List Value) → row_of_record number rules fields ≡ Ok row → allow_values rules row ≡ true
unfolding row_of_record
row_admitted number rules fields row e =
    values_admitted number rules fields row (record_passed number (length rules) fields (values_of_fields number rules fields) row e).2

pub row_within : (number : ℕ) (rules : List FieldRule) (fields : List (List ℕ)) (row : List Value) → row_of_record number rules fields ≡ Ok row → number ≤ 2 ^ 24
unfolding row_of_record
row_within number rules fields row e = (record_passed number (length rules) fields (values_of_fields number rules fields) row e).1

-- the rows of a record and of those after it
pub rows_from-next : (rules : List FieldRule) (number : ℕ) (fields : List (List ℕ)) (row : List Value) (records more : List (List (List ℕ)))
    → records ≡ fields ∷ more → row_of_record number rules fields ≡ Ok row → rows_from rules number records ≡ with_row row (rows_from rules (number + 1) more)
unfolding rows_from
rows_from-next rules number fields row records more e r = rw (e, r) refl

pub rows_from-fault : (rules : List FieldRule) (number : ℕ) (fields : List (List ℕ)) (records more : List (List (List ℕ))) (fault : Fault)
    → records ≡ fields ∷ more → row_of_record number rules fields ≡ Err fault → rows_from rules number records ≡ Err fault
unfolding rows_from
rows_from-fault rules number fields records more fault e r = rw (e, r) refl

pub rows_from-end : (rules : List FieldRule) (number : ℕ) (records : List (List (List ℕ))) → records ≡ [] → rows_from rules number records ≡ Ok []
unfolding rows_from
rows_from-end rules number records e = rw e refl

pub ruleset rows_of_records = (rows_from-next, rows_from-fault, rows_from-end, row_admitted)

-- A consumer was led through the rows of the records that were read of the first ones.
unfoldable pub LedSoFar : {K : Type 0} → (K → List (List Value) → K → Type 0) → K → K → List FieldRule → List (List (List ℕ)) → ℕ → List (List (List ℕ)) → Type 0
LedSoFar led start now rules first number records = (before : List (List Value)) × led start before now × Passed (rows_from rules) first before number records

pub led-nothing : {K : Type 0} (led : K → List (List Value) → K → Type 0) (start : K) (rules : List FieldRule) (records : List (List (List ℕ)))
    → led start [] start → LedSoFar led start start rules records 1 records
unfolding LedSoFar
led-nothing led start rules records h = ([], h, passed-nothing (rows_from rules) records)

pub led-next : {K : Type 0} (led : K → List (List Value) → K → Type 0) (start old new : K) (rules : List FieldRule) (first : List (List (List ℕ))) (number : ℕ) (records more : List (List (List ℕ))) (fields : List (List ℕ)) (row : List Value)
    → LedSoFar led start old rules first number records → records ≡ fields ∷ more → row_of_record number rules fields ≡ Ok row
    → ((first : K) (before : List (List Value)) → led first before old → led first (before ++ row ∷ []) new)
    → LedSoFar led start new rules first (number + 1) more
unfolding LedSoFar
led-next led start old new rules first number records more fields row h e r step =
    (h.0 ++ row ∷ [], step start h.0 h.1, passed-next (rows_from rules) first h.0 number records more fields row h.2 e (λ rest. rows_from-next rules number fields row (fields ∷ rest) rest refl r))

pub led-fault : {K : Type 0} (led : K → List (List Value) → K → Type 0) (start now : K) (rules : List FieldRule) (first : List (List (List ℕ))) (number : ℕ) (records : List (List (List ℕ))) (fault : Fault)
    → LedSoFar led start now rules first number records → rows_from rules number records ≡ Err fault → rows_from rules 1 first ≡ Err fault
unfolding LedSoFar
led-fault led start now rules first number records fault h e = passed-on (rows_from rules) first h.0 number records h.2 ∙ ap (after h.0) e

pub led-all : {K : Type 0} (led : K → List (List Value) → K → Type 0) (start now : K) (rules : List FieldRule) (first : List (List (List ℕ))) (number : ℕ) (records : List (List (List ℕ)))
    → LedSoFar led start now rules first number records → rows_from rules number records ≡ Ok [] → IsOkAnd (rows_from rules 1 first) (λ rows. led start rows now)
unfolding LedSoFar
led-all led start now rules first number records h e = rw (passed-on (rows_from rules) first h.0 number records h.2 ∙ ap (after h.0) e ∙ ap Ok (append-nil h.0)) h.1

-- if the reader has an error of its own, it's after those
pub led-stops : {K : Type 0} (led : K → List (List Value) → K → Type 0) (start now : K) (rules : List FieldRule) (first : List (List (List ℕ))) (number : ℕ) (records : List (List (List ℕ))) (fault : Fault)
    → LedSoFar led start now rules first number records → located_at number fault ≡ true → is_reader_fault fault ≡ true → StopsAfter (rows_from rules) first fault
unfolding LedSoFar
led-stops led start now rules first number records fault h place own =
    passed-stops (rows_from rules) first h.0 number records fault h.2 (rows_from-end rules number [] refl) place own

pub ruleset so_far = (led-nothing, led-next, led-fault, led-all)

-- the heading, and the rows after it
pub rows_after-none : (columns : List Column) (records : List (List (List ℕ))) → records ≡ [] → rows_after columns records ≡ Err (at_record 201 0)
unfolding rows_after
rows_after-none columns records e = rw e refl

pub rows_after-other : (columns : List Column) (heading : List (List ℕ)) (more : List (List (List ℕ))) → is_heading columns heading ≡ false
    → rows_after columns (heading ∷ more) ≡ Err (at_record 202 0)
unfolding rows_after
rows_after-other columns heading more h = rw h refl

pub rows_after-rows : (columns : List Column) (records more : List (List (List ℕ))) (heading : List (List ℕ)) → records ≡ heading ∷ more → is_heading columns heading ≡ true
    → rows_after columns records ≡ rows_from (map rule_of columns) 1 more
unfolding rows_after
rows_after-rows columns records more heading e h = rw (e, h) refl

pub ruleset after_heading = (rows_after-none, rows_after-other, rows_after-rows)

-- a text has at most 2^24 rows, each of which rules allow
pub rows_good : (rules : List FieldRule) (records : List (List (List ℕ))) (number : ℕ) (rows : List (List Value)) → number ≤ 2 ^ 24 + 1
    → rows_from rules number records ≡ Ok rows → (number + length rows ≤ 2 ^ 24 + 1) × (list_all (allow_values rules) rows ≡ true)
unfolding rows_from
rows_good rules [] number rows h e = let same : ◌≡◌ {A = List (List Value)} [] rows = cc e in rw (← same) (omega (arith, h), refl)
rows_good rules (fields ∷ more) number rows h e =
    let one = bind_ok (row_of_record number rules fields) (λ row. with_row row (rows_from rules (number + 1) more)) rows e in
    let others = bind_ok (rows_from rules (number + 1) more) (λ rest. Ok (one.0 ∷ rest)) rows one.2 in
    let same : ◌≡◌ {A = List (List Value)} (one.0 ∷ others.0) rows = cc others.2 in
    let good = rows_good rules more (number + 1) others.0 (omega (arith, row_within number rules fields one.0 one.1)) others.1 in
    rw (← same) (omega (arith, good.0), and_from _ _ (row_admitted number rules fields one.0 one.1) good.1)

-- the rules of columns allow what the columns admit
pub allowed_is : (columns : List Column) (values : List Value) → allow_values (map rule_of columns) values ≡ admits_values columns values
allowed_is [] [] = refl
allowed_is [] (value ∷ values) = refl
allowed_is (column ∷ columns) [] = refl
allowed_is (column ∷ columns) (None ∷ values) = rw (allowed_is columns values) refl
allowed_is (column ∷ columns) (Some n ∷ values) = rw (allowed_is columns values) refl

all_allowed : (columns : List Column) (rows : List (List Value)) → list_all (allow_values (map rule_of columns)) rows ≡ list_all (admits_values columns) rows
all_allowed columns [] = refl
all_allowed columns (row ∷ rows) = rw (allowed_is columns row, all_allowed columns rows) refl

pub text_good : (columns : List Column) (records : List (List (List ℕ))) (rows : List (List Value)) → rows_after columns records ≡ Ok rows
    → (length rows ≤ 2 ^ 24) × (list_all (admits_values columns) rows ≡ true)
unfolding rows_after
text_good columns [] rows e = absurd (cc e)
text_good columns (heading ∷ more) rows e =
    let good = rows_good (map rule_of columns) more 1 rows (omega arith) (not_refused (not (is_heading columns heading)) (at_record 202 0) (rows_from (map rule_of columns) 1 more) rows e).1 in
    (omega (arith, good.0), sym (all_allowed columns rows) ∙ good.1)

pub if_ok : {A : Type 0} (r : Result A Fault) (P : A → Type 0) → ((x : A) → r ≡ Ok x → P x) → IfOk r P
if_ok (Ok x) P holds = holds x refl
if_ok (Err fault) P holds = tt
