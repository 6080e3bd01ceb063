-- The schema that is inferred from a text is exact for it.
use Rattle.std.proofs.Common.{◌≡◌, ◌∙◌, refl, sym, ap, subst, ℕ, ℤ, zero, suc, ◌+◌, ◌<◌, ◌≤ℤ◌, Bool}
use Rattle.std.proofs.Common.{true, not, int_le, All, List, [], ◌∷◌, length, map, drop, get_or}
use Rattle.std.proofs.Common.{Option, Some, None, Result, Ok, arith, ◌&&◌, drop-cons}
use Rattle.std.specs.List.{list_all}
use Rattle.std.proofs.lemmas.Bool.{or_left, or_right, and_parts}
use Rattle.std.proofs.lemmas.Int.{ints, clamps}
use Rattle.std.proofs.lemmas.List.{drop_all, length-map}
use Rattle.std.proofs.lemmas.List.Elements.{All-head, All-tail}
use Rattle.bw_model.specs.declared.column.Column.{Column}
use Rattle.bw_model.specs.declared.fault.Fault.{Fault}
use Rattle.bw_model.specs.declared.query.Item.TheVariants.{Min, Max}
use Rattle.bw_model.specs.declared.schema.Schema.{Schema}
use Rattle.bw_model.specs.Column.{admits_value, admits_values, names_of}
use Rattle.bw_model.specs.Fault.{at_record, ◌>>=◌}
use Rattle.bw_model.specs.Row.{Value, value_in}
use Rattle.bw_model.specs.SchemaText.{ColumnShape, SchemaShape, column_shape, schema_shape, shape}
use Rattle.bw_model.specs.SchemaText.{is_range}
use Rattle.bw_text.proofs.WordSpelling.{same_as_itself}
use Rattle.bw_model.specs.Total.{combine_totals, total}
use Rattle.bw_model.specs.Truth.{is_null}
use Rattle.bw_model.proofs.TotalLemmas.{total_append}
use Rattle.bw_model.proofs.FaultLemmas.{not_refused, bind_ok}
use Rattle.bw_model.proofs.SameColumns.{heads, tails}
use Rattle.bw_model.proofs.SchemaLemmas.{ordered}
use Rattle.bw_csv.specs.Bare.{bare_rows, records_of}
use Rattle.bw_csv.specs.Rows.{is_heading, rows_after, without_blanks}
use Rattle.bw_csv.proofs.BareLemmas.{bare_rows_wide, rows_are}
use Rattle.bw_csv_calls.specs.Heading.{heading_names}
use Rattle.bw_csv_calls.specs.InferredSchema.{column_over, columns_over, has_null, infer_schema}
use Rattle.bw_csv_calls.specs.InferredSchema.{inferred_after, or_zero, check_bounds, ranged_column}
use Rattle.bw_csv_calls.specs.InferredSchema.{schema_over, table_of, IsExact, IsNarrowest}
use Rattle.bw_csv_calls.proofs.HeadingLemmas.{heading_is}
use Rattle.bw_csv_calls.proofs.NarrowLemmas.{greatest_of_one, least_of_one}

-- a value that a column of this shape admits
abbrev within : ColumnShape → Value → Bool
within column None = column.nullable
within column (Some n) = int_le column.lo n && int_le n column.hi

admits_is : (column : Column) (v : Value) → admits_value column v ≡ within (column_shape column) v
admits_is column None = refl
admits_is column (Some n) = refl

-- a bound below and above a total
abbrev AtLeast : ℤ → Option ℤ → Type 0
AtLeast lo None = Unit {0}
AtLeast lo (Some m) = lo ≤ℤ m

abbrev AtMost : ℤ → Option ℤ → Type 0
AtMost hi None = Unit {0}
AtMost hi (Some m) = m ≤ℤ hi

least_own : (t : Option ℤ) → AtLeast (or_zero t) t
least_own None = tt
least_own (Some m) = omega (arith, ints)

greatest_own : (t : Option ℤ) → AtMost (or_zero t) t
greatest_own None = tt
greatest_own (Some m) = omega (arith, ints)

least_parts : (i : ℕ) (a b : Option ℤ) (lo : ℤ) → AtLeast lo (combine_totals (Min i) a b) → AtLeast lo a × AtLeast lo b
least_parts i None b lo h = (tt, h)
least_parts i (Some a) None lo h = (h, tt)
least_parts i (Some a) (Some b) lo h = (omega (arith, ints, clamps), omega (arith, ints, clamps))

greatest_parts : (i : ℕ) (a b : Option ℤ) (hi : ℤ) → AtMost hi (combine_totals (Max i) a b) → AtMost hi a × AtMost hi b
greatest_parts i None b hi h = (tt, h)
greatest_parts i (Some a) None hi h = (h, tt)
greatest_parts i (Some a) (Some b) hi h = (omega (arith, ints, clamps), omega (arith, ints, clamps))

-- the value of a row is within what bounds it
value_within : (row : List Value) (i : ℕ) (name : List ℕ) (lo hi : ℤ) (nullable : Bool) (v : Value) → value_in row i ≡ v → AtLeast lo (total (Min i) (row ∷ [])) → AtMost hi (total (Max i) (row ∷ []))
    → (is_null v ≡ true → nullable ≡ true) → within (shape name lo hi nullable) v ≡ true
value_within row i name lo hi nullable None e low high null = null refl
value_within row i name lo hi nullable (Some n) e low high null =
    let l : lo ≤ℤ n = subst (AtLeast lo) (least_of_one row i (Some n) e) low in
    let h : n ≤ℤ hi = subst (AtMost hi) (greatest_of_one row i (Some n) e) high in
    rw (ordered lo n l, ordered n hi h) refl

all_within : (part : List (List Value)) (i : ℕ) (name : List ℕ) (lo hi : ℤ) (nullable : Bool) → AtLeast lo (total (Min i) part) → AtMost hi (total (Max i) part)
    → (has_null i part ≡ true → nullable ≡ true) → list_all (λ (row : List Value). within (shape name lo hi nullable) (value_in row i)) part ≡ true
all_within [] i name lo hi nullable low high null = refl
all_within (row ∷ part) i name lo hi nullable low high null =
    let l = least_parts i (total (Min i) (row ∷ [])) (total (Min i) part) lo (subst (AtLeast lo) (total_append (Min i) (row ∷ []) part) low) in
    let h = greatest_parts i (total (Max i) (row ∷ [])) (total (Max i) part) hi (subst (AtMost hi) (total_append (Max i) (row ∷ []) part) high) in
    let here : within (shape name lo hi nullable) (value_in row i) ≡ true =
    value_within row i name lo hi nullable (value_in row i) refl l.0 h.0 (λ e. null (or_left _ _ e)) in
    let rest = all_within part i name lo hi nullable l.1 h.1 (λ e. null (or_right (is_null (value_in row i)) _ e)) in
    rw here rest

column_within : (rows : List (List Value)) (i : ℕ) (name : List ℕ) → list_all (λ (row : List Value). within (column_over rows i name) (value_in row i)) rows ≡ true
column_within rows i name = all_within rows i name _ _ (has_null i rows) (least_own (total (Min i) rows)) (greatest_own (total (Max i) rows)) (λ e. e)

-- columns over rows admit a row whose values are within
row_admitted : (columns : List Column) (rows : List (List Value)) (i : ℕ) (names : List (List ℕ)) (row : List Value) → map column_shape columns ≡ columns_over rows i names
    → ((i : ℕ) (name : List ℕ) → within (column_over rows i name) (value_in row i) ≡ true) → length row ≡ i + length names → admits_values columns (drop i row) ≡ true
unfolding columns_over
row_admitted [] rows i [] row e is wide = rw (drop_all i row (omega arith)) refl
row_admitted (column ∷ columns) rows i (name ∷ names) row e is wide =
    let first = heads e in
    let rest = tails e in
    let cut = drop-cons row i None (omega arith) in
    let here : admits_value column (get_or row i None) ≡ true =
    admits_is column (get_or row i None) ∙ ap (λ (c : ColumnShape). within c (get_or row i None)) first ∙ is i name in
    rw (cut, here) (row_admitted columns rows (suc i) names row rest is (omega arith))
row_admitted _ rows i _ row e is wide = absurd (cc e)

rows_admitted : (columns : List Column) (rows : List (List Value)) (names : List (List ℕ)) (part : List (List Value)) → map column_shape columns ≡ columns_over rows 0 names
    → ((i : ℕ) (name : List ℕ) → list_all (λ (row : List Value). within (column_over rows i name) (value_in row i)) part ≡ true)
    → All (λ (row : List Value). length row ≡ length names) part → list_all (admits_values columns) part ≡ true
rows_admitted columns rows names [] e is wide = refl
rows_admitted columns rows names (row ∷ part) e is wide =
    let own = λ (i : ℕ) (name : List ℕ). and_parts (within (column_over rows i name) (value_in row i)) (list_all (λ (r : List Value). within (column_over rows i name) (value_in r i)) part) (is i name) in
    let size = All-head (λ (row : List Value). length row ≡ length names) row part wide in
    let here : admits_values columns row ≡ true = row_admitted columns rows 0 names row e (λ i name. (own i name).0) (omega (arith, size)) in
    rw here (rows_admitted columns rows names part e (λ i name. (own i name).1) (All-tail (λ (row : List Value). length row ≡ length names) row part wide))

-- the columns are those of the names
names_over : (columns : List Column) (rows : List (List Value)) (i : ℕ) (names : List (List ℕ)) → map column_shape columns ≡ columns_over rows i names → names_of columns ≡ names
unfolding columns_over
names_over [] rows i [] e = refl
names_over (column ∷ columns) rows i (name ∷ names) e =
    let first = heads e in
    let rest = tails e in
    let own : column.name ≡ name = ap (λ (c : ColumnShape). c.name) first in
    rw (own, names_over columns rows (suc i) names rest) refl
names_over _ rows i _ e = absurd (cc e)

heading_same : (columns : List Column) (fields : List (List ℕ)) → names_of columns ≡ map without_blanks fields → is_heading columns fields ≡ true
unfolding is_heading
heading_same [] [] e = refl
heading_same (column ∷ columns) (field ∷ fields) e =
    let first : column.name ≡ without_blanks field = cc e in
    let rest : names_of columns ≡ map without_blanks fields = cc e in
    rw (first, same_as_itself (without_blanks field)) (heading_same columns fields rest)
heading_same _ _ e = absurd (cc e)

narrow_at : (columns : List Column) (rows : List (List Value)) (i : ℕ) (names : List (List ℕ)) → map column_shape columns ≡ columns_over rows i names
    → (k n : ℕ) (d : Column) → n ≡ i + k → k < length columns → IsNarrowest rows n (get_or columns k d)
unfolding columns_over
narrow_at [] rows i names e k n d same h = absurd (omega arith)
narrow_at (column ∷ columns) rows i [] e k n d same h = absurd (cc e)
narrow_at (column ∷ columns) rows i (name ∷ names) e zero n d same h =
    let first = heads e in
    let here : n ≡ i = omega arith in
    subst (λ (m : ℕ). IsNarrowest rows m column) (sym here)
    (record { lo = ap (λ (c : ColumnShape). c.lo) first; hi = ap (λ (c : ColumnShape). c.hi) first; nullable = ap (λ (c : ColumnShape). c.nullable) first })
narrow_at (column ∷ columns) rows i (name ∷ names) e (suc k) n d same h =
    let rest = tails e in
    narrow_at columns rows (suc i) names rest k n d (omega arith) (omega arith)

-- columns that aren't rejected are what they were
ranged_is : (columns found : List ColumnShape) → check_bounds columns ≡ Ok found → columns ≡ found
unfolding check_bounds
ranged_is [] found e = cc e
ranged_is (column ∷ columns) found e =
    let one = bind_ok (ranged_column column) (λ first. check_bounds columns >>= λ rest. Ok (first ∷ rest)) found e in
    let more = bind_ok (check_bounds columns) (λ rest. Ok (one.0 ∷ rest)) found one.2 in
    let first : ◌≡◌ {A = Result ColumnShape Fault} (Ok column) (Ok one.0) = (not_refused (not (is_range column.lo column.hi)) (at_record 103 0) (Ok column) one.0 one.1).1 in
    let here : column ≡ one.0 = cc first in
    let rest = ranged_is columns more.0 more.1 in
    let whole : one.0 ∷ more.0 ≡ found = cc more.2 in
    ap (λ (c : ColumnShape). c ∷ columns) here ∙ ap (λ (l : List ColumnShape). one.0 ∷ l) rest ∙ whole

record Found (columns : List Column) (records : List (List (List ℕ))) : Type 0 where
  rows : List (List Value)
  spelled : rows_after columns records ≡ Ok rows
  narrow : (number : ℕ) (column : Column) → number < length columns → IsNarrowest rows number (get_or columns number column)

found_in : (table : List ℕ) (schema : Schema) (records : List (List (List ℕ))) → inferred_after table records ≡ Ok (schema_shape schema) → Found schema.columns.items records
unfolding inferred_after rows_after
found_in table schema [] e = absurd (cc e)
found_in table schema (heading ∷ more) e =
    let columns = schema.columns.items in
    let one = bind_ok (heading_names heading) (λ names. bare_rows (length names) 1 more >>= λ rows. schema_over table names rows) (schema_shape schema) e in
    let names = one.0 in
    let two = bind_ok (bare_rows (length names) 1 more) (λ rows. schema_over table names rows) (schema_shape schema) one.2 in
    let rows = two.0 in
    let three = bind_ok (check_bounds (columns_over rows 0 names)) (λ found. Ok (table_of table found)) (schema_shape schema) two.2 in
    let told : table_of table three.0 ≡ schema_shape schema = cc three.2 in
    let shapes : map column_shape columns ≡ columns_over rows 0 names = sym (ranged_is (columns_over rows 0 names) three.0 three.1 ∙ ap (λ (s : SchemaShape). s.columns) told) in
    let named = names_over columns rows 0 names shapes in
    let count : length names ≡ length columns = ap length (sym named) ∙ length-map columns (λ (c : Column). c.name) in
    let head = heading_same columns heading (named ∙ heading_is heading names one.1) in
    let admitted = rows_admitted columns rows names rows shapes (column_within rows) (bare_rows_wide (length names) 1 more rows two.1) in
    let read = rows_are columns 1 more rows (subst (λ (n : ℕ). bare_rows n 1 more ≡ Ok rows) count two.1) admitted in
    record { rows = rows; spelled = rw head read; narrow = λ number column h. narrow_at columns rows 0 names shapes number number column (omega arith) h }

pub exact_for : (table text : List ℕ) (schema : Schema) → infer_schema table text ≡ Ok (schema_shape schema) → IsExact schema.columns.items text
exact_for table text schema e =
    let found = found_in table schema (records_of text) e in
    record { rows = found.rows; spelled = found.spelled; narrow = found.narrow }
