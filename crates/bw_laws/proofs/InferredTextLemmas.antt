-- The schema that is inferred from a CSV text has names that are names, and bounds that 64 bits
-- hold, as its rows do.
use Rattle.std.proofs.Common.{◌≡◌, ◌∙◌, sym, ap, subst, ℕ, ℤ, zero, suc, ◌+◌, ◌^◌, ◌<◌, ◌≤◌, ◌==◌}
use Rattle.std.proofs.Common.{Bool, true, false, not, if◌then◌else◌, nat_le, nat_lt, List, [], ◌∷◌}
use Rattle.std.proofs.Common.{◌++◌, length, map, get_or, All, Option, Some, None, Ok, FitsSigned}
use Rattle.std.proofs.Common.{w64, length-append, arith, refl, replicate, int_le}
use Rattle.std.specs.List.{list_all, list_any}
use Rattle.std.proofs.lemmas.Bool.{and_parts, leb-false, not-false}
use Rattle.std.proofs.lemmas.Int.{ints, clamps}
use Rattle.std.proofs.lemmas.List.{length-map}
use Rattle.std.proofs.lemmas.List.Elements.{All-nil, All-cons, All-head, All-tail, All-push}
use Rattle.bw_text.specs.Lines.{is_empty}
use Rattle.bw_text.specs.Number.{are_digits, number_of}
use Rattle.bw_text.specs.Text.{same_text}
use Rattle.bw_model.specs.declared.query.Item.TheVariants.{Min, Max}
use Rattle.bw_model.specs.Fault.{at_record, ◌>>=◌, refused_if}
use Rattle.bw_model.specs.Name.{is_name, are_apart}
use Rattle.bw_model.specs.Row.{Value, value_in}
use Rattle.bw_model.specs.SchemaText.{ColumnShape, SchemaShape, shape_names, is_range, IsSchemaText}
use Rattle.bw_model.specs.Total.{combine_totals, total}
use Rattle.bw_model.proofs.SchemaLemmas.{are_apart-push}
use Rattle.bw_model.proofs.TotalLemmas.{total_append}
use Rattle.bw_model.proofs.FaultLemmas.{not_refused, bind_ok}
use Rattle.bw_model.proofs.SchemaSpelling.{not_empty}
use Rattle.bw_csv.specs.Bare.{bare_rows, records_of}
use Rattle.bw_csv.specs.Rows.{without_blanks}
use Rattle.bw_csv.specs.Rule.{allow_values, allows, any_number}
use Rattle.bw_csv.proofs.RowLemmas.{rows_good}
use Rattle.bw_laws.proofs.SpelledValues.{fits_between}
use Rattle.bw_csv_calls.specs.Heading.{heading_names, names_from, some_names}
use Rattle.bw_csv_calls.specs.InferredSchema.{column_over, columns_over, infer_schema, inferred_after}
use Rattle.bw_csv_calls.specs.InferredSchema.{or_zero, check_bounds, ranged_column, schema_over}
use Rattle.bw_csv_calls.specs.InferredSchema.{table_of}
use Rattle.bw_csv_calls.specs.PrintedSchema.{schema_text}
use Rattle.bw_csv_calls.proofs.NarrowLemmas.{greatest_of_one, least_of_one}
use Rattle.bw_csv_calls.proofs.PrintedText.{IsSound, AreSound, shape_spelled}
use Rattle.bw_laws.proofs.SoundSchemaLemmas.{number_fits}

-- a value is null, or a number that 64 bits hold; so is each value of a row, and of rows
abbrev Fits : Value → Type 0
Fits None = Unit {0}
Fits (Some n) = FitsSigned w64 n

abbrev RowFits : List Value → Type 0
RowFits row = All Fits row

allowed_fits : (value : Value) → allows any_number value ≡ true → Fits value
allowed_fits None e = tt
allowed_fits (Some n) e =
    let sides = and_parts (int_le any_number.lo n) (int_le n any_number.hi) e in
    fits_between any_number.lo any_number.hi n (omega (arith, ints)) (omega (arith, ints)) sides.0 sides.1

values_fit : (width : ℕ) (row : List Value) → allow_values (replicate width any_number) row ≡ true → RowFits row
values_fit zero [] e = All-nil Fits
values_fit zero (value ∷ row) e = absurd (cc e)
values_fit (suc width) [] e = absurd (cc e)
values_fit (suc width) (value ∷ row) e =
    let is = and_parts (allows any_number value) (allow_values (replicate width any_number) row) e in
    All-cons Fits value row (allowed_fits value is.0) (values_fit width row is.1)

all_fit : (width : ℕ) (rows : List (List Value)) → list_all (allow_values (replicate width any_number)) rows ≡ true → All RowFits rows
all_fit width [] e = All-nil RowFits
all_fit width (row ∷ rows) e =
    let is = and_parts (allow_values (replicate width any_number) row) (list_all (allow_values (replicate width any_number)) rows) e in
    All-cons RowFits row rows (values_fit width row is.0) (all_fit width rows is.1)

rows_fit : (width : ℕ) (records : List (List (List ℕ))) (rows : List (List Value)) → bare_rows width 1 records ≡ Ok rows → All RowFits rows
rows_fit width records rows e = all_fit width rows (rows_good (replicate width any_number) records 1 rows (omega arith) e).1

-- so is the least, and the greatest, that rows have in a column
value_there : (row : List Value) (i : ℕ) → RowFits row → Fits (get_or row i None)
value_there [] zero fits = tt
value_there [] (suc i) fits = tt
value_there (v ∷ row) zero fits = All-head Fits v row fits
value_there (v ∷ row) (suc i) fits = value_there row i (All-tail Fits v row fits)

lesser_fits : (i : ℕ) (a b : Option ℤ) → Fits a → Fits b → Fits (combine_totals (Min i) a b)
lesser_fits i None b f g = g
lesser_fits i (Some a) None f g = f
lesser_fits i (Some a) (Some b) f g = omega (arith, ints, clamps)

greater_fits : (i : ℕ) (a b : Option ℤ) → Fits a → Fits b → Fits (combine_totals (Max i) a b)
greater_fits i None b f g = g
greater_fits i (Some a) None f g = f
greater_fits i (Some a) (Some b) f g = omega (arith, ints, clamps)

least_fits : (rows : List (List Value)) (i : ℕ) → All RowFits rows → Fits (total (Min i) rows)
least_fits [] i fits = tt
least_fits (row ∷ rows) i fits =
    let here = subst Fits (sym (least_of_one row i (value_in row i) refl)) (value_there row i (All-head RowFits row rows fits)) in
    let rest = least_fits rows i (All-tail RowFits row rows fits) in
    subst Fits (sym (total_append (Min i) (row ∷ []) rows)) (lesser_fits i (total (Min i) (row ∷ [])) (total (Min i) rows) here rest)

greatest_fits : (rows : List (List Value)) (i : ℕ) → All RowFits rows → Fits (total (Max i) rows)
greatest_fits [] i fits = tt
greatest_fits (row ∷ rows) i fits =
    let here = subst Fits (sym (greatest_of_one row i (value_in row i) refl)) (value_there row i (All-head RowFits row rows fits)) in
    let rest = greatest_fits rows i (All-tail RowFits row rows fits) in
    subst Fits (sym (total_append (Max i) (row ∷ []) rows)) (greater_fits i (total (Max i) (row ∷ [])) (total (Max i) rows) here rest)

bound_fits : (t : Option ℤ) → Fits t → FitsSigned w64 (or_zero t)
bound_fits None f = omega (arith, ints)
bound_fits (Some n) f = f

-- the names of a heading are names that stay apart
abbrev IsName : List ℕ → Type 0
IsName name = is_name name ≡ true

record AreNames (names : List (List ℕ)) : Type 0 where
  within_limit : length names ≤ 64
  are : All IsName names
  apart : are_apart names ≡ true

no_names : AreNames []
unfolding are_apart
no_names = record { within_limit = omega arith; are = All-nil IsName; apart = refl }

names_after : (before names all : List (List ℕ)) → AreNames before → names_from before names ≡ Ok all → AreNames all
unfolding names_from
names_after before [] all good e = let same : before ≡ all = cc e in subst AreNames same good
names_after before (name ∷ names) all good e =
    let rest = names_from (before ++ name ∷ []) names in
    let twice = refused_if (list_any (λ other. same_text other name) before) (at_record 104 0) rest in
    let room = not_refused (nat_le 64 (length before)) (at_record 105 0) (refused_if (not (is_name name)) (at_record 102 0) twice) all e in
    let named = not_refused (not (is_name name)) (at_record 102 0) twice all room.1 in
    let new = not_refused (list_any (λ other. same_text other name) before) (at_record 104 0) rest all named.1 in
    let fewer : length before < 64 = leb-false _ _ room.0 in
    names_after (before ++ name ∷ []) names all (record {
      within_limit = omega (arith, length-append before (name ∷ []));
      are = All-push IsName before name good.are (not-false (is_name name) named.0);
      apart = are_apart-push before name good.apart new.0;
    }) new.1

heading_sound : (fields names : List (List ℕ)) → heading_names fields ≡ Ok names → AreNames names × (1 ≤ length names)
unfolding heading_names
heading_sound fields names e =
    let one = bind_ok (names_from [] (map without_blanks fields)) some_names names e in
    let two = not_refused (is_empty one.0) (at_record 105 0) (Ok one.0) names one.2 in
    let same : one.0 ≡ names = cc two.1 in
    subst (λ (names : List (List ℕ)). AreNames names × (1 ≤ length names)) same (names_after [] (map without_blanks fields) one.0 no_names one.1, not_empty one.0 two.0)

-- columns over rows that aren't rejected
abbrev Columns : List (List ℕ) → List ColumnShape → Type 0
Columns names columns = All IsSound columns × (shape_names columns ≡ names)

column_sound : (rows : List (List Value)) (i : ℕ) (name : List ℕ) (column : ColumnShape) → All RowFits rows → is_name name ≡ true → ranged_column (column_over rows i name) ≡ Ok column
    → IsSound column × (column.name ≡ name)
column_sound rows i name column fits named e =
    let over = column_over rows i name in
    let one = not_refused (not (is_range over.lo over.hi)) (at_record 103 0) (Ok over) column e in
    let same : over ≡ column = cc one.1 in
    let is : IsSound over = record {
      is = record { name = named; lo = bound_fits (total (Min i) rows) (least_fits rows i fits); hi = bound_fits (total (Max i) rows) (greatest_fits rows i fits) };
      range = not-false (is_range over.lo over.hi) one.0;
    } in
    subst (λ (column : ColumnShape). IsSound column × (column.name ≡ name)) same (is, refl)

columns_sound : (rows : List (List Value)) (i : ℕ) (names : List (List ℕ)) (found : List ColumnShape) → All RowFits rows → All IsName names → check_bounds (columns_over rows i names) ≡ Ok found
    → Columns names found
unfolding check_bounds columns_over
columns_sound rows i [] found fits are e = let same : ◌≡◌ {A = List ColumnShape} [] found = cc e in subst (Columns []) same (All-nil IsSound, refl)
columns_sound rows i (name ∷ names) found fits are e =
    let others = check_bounds (columns_over rows (suc i) names) in
    let one = bind_ok (ranged_column (column_over rows i name)) (λ first. others >>= λ rest. Ok (first ∷ rest)) found e in
    let more = bind_ok others (λ rest. Ok (one.0 ∷ rest)) found one.2 in
    let same : one.0 ∷ more.0 ≡ found = cc more.2 in
    let first = column_sound rows i name one.0 fits (All-head IsName name names are) one.1 in
    let rest = columns_sound rows (suc i) names more.0 fits (All-tail IsName name names are) more.1 in
    subst (Columns (name ∷ names)) same (All-cons IsSound one.0 more.0 first.0 rest.0, rw (first.1, rest.1) refl)

inferred_sound : (table : List ℕ) (records : List (List (List ℕ))) (schema : SchemaShape) → is_name table ≡ true → inferred_after table records ≡ Ok schema → AreSound schema
unfolding inferred_after
inferred_sound table [] schema named e = absurd (cc e)
inferred_sound table (heading ∷ more) schema named e =
    let one = bind_ok (heading_names heading) (λ names. bare_rows (length names) 1 more >>= λ rows. schema_over table names rows) schema e in
    let names = one.0 in
    let two = bind_ok (bare_rows (length names) 1 more) (λ rows. schema_over table names rows) schema one.2 in
    let rows = two.0 in
    let three = bind_ok (check_bounds (columns_over rows 0 names)) (λ found. Ok (table_of table found)) schema two.2 in
    let same : table_of table three.0 ≡ schema = cc three.2 in
    let good = heading_sound heading names one.1 in
    let columns = columns_sound rows 0 names three.0 (rows_fit (length names) more rows two.1) good.0.are three.1 in
    let count : length three.0 ≡ length names = sym (length-map three.0 (λ (column : ColumnShape). column.name)) ∙ ap length columns.1 in
    subst AreSound same (record {
      name = named;
      columns = columns.0;
      nonempty = omega (arith, good.1);
      within_limit = omega (arith, good.0.within_limit);
      apart = ap are_apart columns.1 ∙ good.0.apart;
    })

pub inferred_spelled : (table csv : List ℕ) (schema : SchemaShape) → is_name table ≡ true → infer_schema table csv ≡ Ok schema → IsSchemaText (schema_text schema) schema
inferred_spelled table csv schema named e = shape_spelled schema (inferred_sound table (records_of csv) schema named e)
