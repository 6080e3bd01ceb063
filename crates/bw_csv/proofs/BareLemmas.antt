-- Rows that are read without a schema, and that columns admit, are the rows under the columns.
use Rattle.std.proofs.Common.{◌≡◌, ◌∙◌, ℕ, ℤ, suc, ◌+◌, List, [], ◌∷◌, length, map, Option, Some}
use Rattle.std.proofs.Common.{None, Ok, Bool, true, false, refl, sym, ap, subst, All, ◌&&◌, replicate}
use Rattle.std.proofs.Common.{not, int_le, if◌then◌else◌}
use Rattle.std.specs.List.{list_all}
use Rattle.std.proofs.lemmas.List.{length-replicate}
use Rattle.std.proofs.lemmas.List.Elements.{All-nil, All-cons}
use Rattle.std.proofs.lemmas.Bool.{and_parts}
use Rattle.bw_model.specs.declared.column.Column.{Column}
use Rattle.bw_model.specs.Fault.{◌>>=◌, at_record, refused_if}
use Rattle.bw_model.specs.Column.{admits_value, admits_values}
use Rattle.bw_text.specs.Number.{are_digits, number_of}
use Rattle.bw_model.specs.Row.{Value}
use Rattle.bw_model.proofs.FaultLemmas.{not_refused, bind_ok}
use Rattle.bw_csv.specs.Bare.{bare_rows}
use Rattle.bw_csv.specs.Rule.{any_number, rule_of}
use Rattle.bw_csv.specs.declared.rule.FieldRule.{FieldRule}
use Rattle.bw_csv.specs.Rows.{is_minus, is_null_text, number_value, row_of_record, rows_from}
use Rattle.bw_csv.specs.Rows.{text_value, without_sign, value_of_field, values_of_fields, with_row}
use Rattle.bw_csv.specs.Rows.{within_bounds, without_blanks}
use Rattle.bw_csv.proofs.RowLemmas.{record_passed, row_made}

-- the rules of as many columns without a schema as there are of these
abbrev bare_rules : List Column → List FieldRule
bare_rules columns = replicate (length columns) any_number

-- a value that a column admits is that of the field in the column
within_is : (number : ℕ) (column : Column) (spelled : Option ℤ) (value : Value) → within_bounds number any_number spelled ≡ Ok value → admits_value column value ≡ true
    → within_bounds number (rule_of column) spelled ≡ Ok value
within_is number column None value e admitted = cc e
within_is number column (Some n) value e admitted =
    let p = not_refused (not (int_le any_number.lo n && int_le n any_number.hi)) (at_record 205 number) (Ok (Some n)) value e in
    let same : ◌≡◌ {A = Value} (Some n) value = cc p.1 in
    let inside : (int_le column.lo n && int_le n column.hi) ≡ true = rw (← same) at admitted in
    rw inside p.1

value_is : (number : ℕ) (column : Column) (field : List ℕ) (value : Value) → value_of_field number any_number field ≡ Ok value → admits_value column value ≡ true
    → value_of_field number (rule_of column) field ≡ Ok value
unfolding value_of_field
value_is number column field value e admitted = by (is_null_text text) refl e
  where
    text : List ℕ
    text = without_blanks field

    by : (null : Bool) → is_null_text text ≡ null → (if null then refused_if (not true) (at_record 206 number) (Ok None) else number_value number any_number (is_minus text) (without_sign text)) ≡ Ok value
        → text_value number (rule_of column) text ≡ Ok value
    by true null e =
        let same : ◌≡◌ {A = Value} None value = cc e in
        let nullable : column.nullable ≡ true = rw (← same) at admitted in rw (null, nullable) e
    by false null e =
        let p = not_refused (not (are_digits (without_sign text))) (at_record 204 number) (within_bounds number any_number (number_of (is_minus text) (without_sign text))) value e in
        rw (null, p.0) (within_is number column (number_of (is_minus text) (without_sign text)) value p.1 admitted)

values_are : (number : ℕ) (columns : List Column) (fields : List (List ℕ)) (values : List Value) → values_of_fields number (bare_rules columns) fields ≡ Ok values → admits_values columns values ≡ true
    → values_of_fields number (map rule_of columns) fields ≡ Ok values
unfolding values_of_fields
values_are number [] fields values e admitted = e
values_are number (column ∷ columns) [] values e admitted = absurd (cc e)
values_are number (column ∷ columns) (field ∷ fields) values e admitted =
    let one = bind_ok (value_of_field number any_number field) (λ value. values_of_fields number (bare_rules columns) fields >>= λ rest. Ok (value ∷ rest)) values e in
    let more = bind_ok (values_of_fields number (bare_rules columns) fields) (λ rest. Ok (one.0 ∷ rest)) values one.2 in
    let same : one.0 ∷ more.0 ≡ values = cc more.2 in
    let all = and_parts (admits_value column one.0) (admits_values columns more.0) (rw (← same) at admitted) in
    rw (value_is number column field one.0 one.1 all.0, values_are number columns fields more.0 more.1 all.1) (ap Ok same)

many_rules : (columns : List Column) → length (map rule_of columns) ≡ length columns
many_rules [] = refl
many_rules (column ∷ columns) = ap suc (many_rules columns)

many_bare : (columns : List Column) → length (bare_rules columns) ≡ length columns
many_bare columns = length-replicate (length columns) any_number

row_is : (number : ℕ) (columns : List Column) (fields : List (List ℕ)) (row : List Value) → row_of_record number (bare_rules columns) fields ≡ Ok row → admits_values columns row ≡ true
    → row_of_record number (map rule_of columns) fields ≡ Ok row
unfolding row_of_record
row_is number columns fields row e admitted =
    let rules = bare_rules columns in
    let p = record_passed number (length rules) fields (values_of_fields number rules fields) row e in
    row_made number (map rule_of columns) fields row p.1 (p.0 ∙ many_bare columns ∙ sym (many_rules columns)) (values_are number columns fields row p.2 admitted)

pub rows_are : (columns : List Column) (number : ℕ) (records : List (List (List ℕ))) (rows : List (List Value)) → bare_rows (length columns) number records ≡ Ok rows
    → list_all (admits_values columns) rows ≡ true → rows_from (map rule_of columns) number records ≡ Ok rows
unfolding rows_from
rows_are columns number [] rows e admitted = e
rows_are columns number (fields ∷ more) rows e admitted =
    let one = bind_ok (row_of_record number (bare_rules columns) fields) (λ row. with_row row (bare_rows (length columns) (number + 1) more)) rows e in
    let others = bind_ok (bare_rows (length columns) (number + 1) more) (λ rest. Ok (one.0 ∷ rest)) rows one.2 in
    let same : one.0 ∷ others.0 ≡ rows = cc others.2 in
    let all = and_parts (admits_values columns one.0) (list_all (admits_values columns) others.0) (rw (← same) at admitted) in
    rw (row_is number columns fields one.0 one.1 all.0, rows_are columns (number + 1) more others.0 others.1 all.1) (ap Ok same)

-- each row has as many values as its record has fields, and as many as are wanted
values_wide : (number : ℕ) (rules : List FieldRule) (fields : List (List ℕ)) (values : List Value) → values_of_fields number rules fields ≡ Ok values → length values ≡ length rules
unfolding values_of_fields
values_wide number [] fields values e = let same : ◌≡◌ {A = List Value} [] values = cc e in ap length (sym same)
values_wide number (rule ∷ rules) [] values e = absurd (cc e)
values_wide number (rule ∷ rules) (field ∷ fields) values e =
    let one = bind_ok (value_of_field number rule field) (λ value. values_of_fields number rules fields >>= λ rest. Ok (value ∷ rest)) values e in
    let more = bind_ok (values_of_fields number rules fields) (λ rest. Ok (one.0 ∷ rest)) values one.2 in
    let same : one.0 ∷ more.0 ≡ values = cc more.2 in
    ap length (sym same) ∙ ap suc (values_wide number rules fields more.0 more.1)

pub row_wide : (number : ℕ) (rules : List FieldRule) (fields : List (List ℕ)) (row : List Value) → row_of_record number rules fields ≡ Ok row → length row ≡ length rules
unfolding row_of_record
row_wide number rules fields row e =
    let p = record_passed number (length rules) fields (values_of_fields number rules fields) row e in values_wide number rules fields row p.2

rows_wide : (rules : List FieldRule) (number : ℕ) (records : List (List (List ℕ))) (rows : List (List Value)) → rows_from rules number records ≡ Ok rows → All (λ (row : List Value). length row ≡ length rules) rows
unfolding rows_from
rows_wide rules number [] rows e = let same : ◌≡◌ {A = List (List Value)} [] rows = cc e in subst (All (λ (row : List Value). length row ≡ length rules)) same (All-nil (λ (row : List Value). length row ≡ length rules))
rows_wide rules number (fields ∷ more) rows e =
    let one = bind_ok (row_of_record number rules fields) (λ row. with_row row (rows_from rules (number + 1) more)) rows e in
    let others = bind_ok (rows_from rules (number + 1) more) (λ rest. Ok (one.0 ∷ rest)) rows one.2 in
    let same : one.0 ∷ others.0 ≡ rows = cc others.2 in
    subst (All (λ (row : List Value). length row ≡ length rules)) same (All-cons (λ (row : List Value). length row ≡ length rules) one.0 others.0 (row_wide number rules fields one.0 one.1) (rows_wide rules (number + 1) more others.0 others.1))

pub bare_rows_wide : (width number : ℕ) (records : List (List (List ℕ))) (rows : List (List Value)) → bare_rows width number records ≡ Ok rows → All (λ (row : List Value). length row ≡ width) rows
bare_rows_wide width number records rows e =
    subst (λ (n : ℕ). All (λ (row : List Value). length row ≡ n) rows) (length-replicate width any_number) (rows_wide (replicate width any_number) number records rows e)
