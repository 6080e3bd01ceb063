-- What is seen of columns while rows go by is what all rows have in them.
use Rattle.std.proofs.Common.{◌≡◌, ◌∙◌, refl, sym, ap, ℕ, ℤ, zero, suc, Bool, true, false, List, []}
use Rattle.std.proofs.Common.{◌∷◌, ◌++◌, length, drop, get_or, replicate, append_assoc, Option}
use Rattle.std.proofs.Common.{Some, None, Result, Ok, Err, ◌||◌, append-nil}
use Rattle.std.proofs.Math.Bool.{or-false}
use Rattle.std.proofs.lemmas.Bool.{or_right}
use Rattle.std.proofs.lemmas.List.Folds.{list_any-append}
use Rattle.bw_model.specs.declared.fault.Fault.{Fault}
use Rattle.bw_model.specs.declared.query.Item.{Item}
use Rattle.bw_model.specs.declared.query.Item.TheVariants.{Min, Max}
use Rattle.bw_model.specs.Fault.{◌>>=◌}
use Rattle.bw_model.specs.Row.{Value, value_in}
use Rattle.bw_model.specs.SchemaText.{ColumnShape}
use Rattle.bw_model.specs.Total.{combine_totals, total}
use Rattle.bw_model.specs.Truth.{is_null}
use Rattle.bw_model.proofs.TotalLemmas.{total_append}
use Rattle.bw_csv.specs.Bare.{bare_rows}
use Rattle.bw_csv_calls.specs.declared.column_stats.ColumnStats.{ColumnStats}
use Rattle.bw_csv_calls.specs.InferredSchema.{column_over, columns_over, has_null, check_bounds}
use Rattle.bw_csv_calls.specs.ColumnStats.{columns_after, columns_from_stats, greater, lesser}
use Rattle.bw_csv_calls.specs.ColumnStats.{no_stats, column_stats, stats_in, with_records, with_rows}
use Rattle.bw_csv_calls.specs.ColumnStats.{with_value, with_values}

-- what the rows have in this many columns from this one on
unfoldable seen_from : List (List Value) → ℕ → ℕ → List ColumnStats
seen_from rows column zero = []
seen_from rows column (suc count) = stats_in rows column ∷ seen_from rows (suc column) count

same_seen : (a b c d : Option ℤ) (e f : Bool) → a ≡ b → c ≡ d → e ≡ f → column_stats a c e ≡ column_stats b d f
same_seen a b c d e f p q r = rw (p, q, r) refl

-- the totals of one row
pub least_of_one : (row : List Value) (i : ℕ) (v : Value) → value_in row i ≡ v → total (Min i) (row ∷ []) ≡ v
least_of_one row i None e = rw e refl
least_of_one row i (Some n) e = rw e refl

pub greatest_of_one : (row : List Value) (i : ℕ) (v : Value) → value_in row i ≡ v → total (Max i) (row ∷ []) ≡ v
greatest_of_one row i None e = rw e refl
greatest_of_one row i (Some n) e = rw e refl

joined_none : (item : Item) (t : Option ℤ) → combine_totals item t None ≡ t
joined_none item None = refl
joined_none item (Some a) = refl

joined_least : (i : ℕ) (t : Option ℤ) (n : ℤ) → combine_totals (Min i) t (Some n) ≡ Some (lesser t n)
joined_least i None n = refl
joined_least i (Some a) n = refl

joined_greatest : (i : ℕ) (t : Option ℤ) (n : ℤ) → combine_totals (Max i) t (Some n) ≡ Some (greater t n)
joined_greatest i None n = refl
joined_greatest i (Some a) n = refl

null_more : (before : List (List Value)) (row : List Value) (i : ℕ) → has_null i (before ++ row ∷ []) ≡ (has_null i before || (is_null (value_in row i) || false))
null_more before row i = list_any-append (λ (r : List Value). is_null (value_in r i)) before (row ∷ [])

-- a row more
one_more : (before : List (List Value)) (row : List Value) (i : ℕ) (v : Value) → value_in row i ≡ v → stats_in (before ++ row ∷ []) i ≡ with_value (stats_in before i) v
one_more before row i None e =
    same_seen _ _ _ _ _ _
    (total_append (Min i) before (row ∷ []) ∙ ap (combine_totals (Min i) (total (Min i) before)) (least_of_one row i None e) ∙ joined_none (Min i) (total (Min i) before))
    (total_append (Max i) before (row ∷ []) ∙ ap (combine_totals (Max i) (total (Max i) before)) (greatest_of_one row i None e) ∙ joined_none (Max i) (total (Max i) before))
    (null_more before row i ∙ ap (λ (v : Value). has_null i before || (is_null v || false)) e ∙ or_right (has_null i before) true refl)
one_more before row i (Some n) e =
    same_seen _ _ _ _ _ _
    (total_append (Min i) before (row ∷ []) ∙ ap (combine_totals (Min i) (total (Min i) before)) (least_of_one row i (Some n) e) ∙ joined_least i (total (Min i) before) n)
    (total_append (Max i) before (row ∷ []) ∙ ap (combine_totals (Max i) (total (Max i) before)) (greatest_of_one row i (Some n) e) ∙ joined_greatest i (total (Max i) before) n)
    (null_more before row i ∙ ap (λ (v : Value). has_null i before || (is_null v || false)) e ∙ or-false (has_null i before))

values_at : (s : ColumnStats) (columns : List ColumnStats) (row : List Value) (i : ℕ) → with_values (s ∷ columns) (drop i row) ≡ with_value s (get_or row i None) ∷ with_values columns (drop (suc i) row)
unfolding with_values
values_at s columns [] (suc i) = refl
values_at s columns (v ∷ row) (suc i) = values_at s columns row i
values_at s columns _ _ = refl

row_more : (before : List (List Value)) (row : List Value) (i count : ℕ) → with_values (seen_from before i count) (drop i row) ≡ seen_from (before ++ row ∷ []) i count
unfolding seen_from with_values
row_more before row i zero = refl
row_more before row i (suc count) =
    values_at (stats_in before i) (seen_from before (suc i) count) row i
    ∙ ap (λ (s : ColumnStats). s ∷ with_values (seen_from before (suc i) count) (drop (suc i) row)) (sym (one_more before row i (value_in row i) refl))
    ∙ ap (λ (l : List ColumnStats). stats_in (before ++ row ∷ []) i ∷ l) (row_more before row (suc i) count)

rows_more : (before rows : List (List Value)) (count : ℕ) → with_rows (seen_from before 0 count) rows ≡ seen_from (before ++ rows) 0 count
unfolding with_rows
rows_more before [] count = ap (λ (l : List (List Value)). seen_from l 0 count) (sym (append-nil before))
rows_more before (row ∷ rows) count =
    ap (λ (l : List ColumnStats). with_rows l rows) (row_more before row 0 count) ∙ rows_more (before ++ row ∷ []) rows count
    ∙ ap (λ (l : List (List Value)). seen_from l 0 count) (append_assoc before (row ∷ []) rows)

nothing_yet : (i count : ℕ) → replicate count no_stats ≡ seen_from [] i count
unfolding seen_from
nothing_yet i zero = refl
nothing_yet i (suc count) = ap (λ (l : List ColumnStats). no_stats ∷ l) (nothing_yet (suc i) count)

columns_are : (rows : List (List Value)) (i : ℕ) (names : List (List ℕ)) → columns_from_stats names (seen_from rows i (length names)) ≡ columns_over rows i names
unfolding columns_from_stats columns_over seen_from
columns_are rows i [] = refl
columns_are rows i (name ∷ names) = ap (λ (l : List ColumnShape). column_over rows i name ∷ l) (columns_are rows (suc i) names)

-- the columns by what was seen are the columns over the rows
pub columns_by_rows : (names : List (List ℕ)) (rows : List (List Value)) → columns_from_stats names (with_rows (replicate (length names) no_stats) rows) ≡ columns_over rows 0 names
columns_by_rows names rows =
    ap (λ (l : List ColumnStats). columns_from_stats names (with_rows l rows)) (nothing_yet 0 (length names))
    ∙ ap (columns_from_stats names) (rows_more [] rows (length names)) ∙ columns_are rows 0 names

by_rows : (names : List (List ℕ)) (rows : Result (List (List Value)) Fault)
    → (rows >>= λ those. check_bounds (columns_over those 0 names))
    ≡ ((rows >>= λ those. Ok (with_rows (replicate (length names) no_stats) those)) >>= λ columns. check_bounds (columns_from_stats names columns))
by_rows names (Ok rows) = ap check_bounds (sym (columns_by_rows names rows))
by_rows names (Err fault) = refl

-- the columns after a heading, by what was seen, or by the error before that
pub after_seen : (names : List (List ℕ)) (more : List (List (List ℕ))) (width : ℕ) (found : Result (List ColumnStats) Fault)
    → width ≡ length names → with_records (replicate width no_stats) width 1 more ≡ found
    → columns_after names more ≡ (found >>= λ columns. check_bounds (columns_from_stats names columns))
after_seen names more width found e s =
    by_rows names (bare_rows (length names) 1 more)
    ∙ ap (λ (those : Result (List ColumnStats) Fault). those >>= λ columns. check_bounds (columns_from_stats names columns)) (rw e at s)
