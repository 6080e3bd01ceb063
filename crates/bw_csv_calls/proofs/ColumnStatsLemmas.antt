-- What is seen of columns, one value and one row more at a time.
use Rattle.std.proofs.Common.{◌≡◌, ◌∙◌, refl, ap, ℕ, zero, suc, ◌+◌, ◌<◌, ◌≤◌, List, [], ◌∷◌, ◌++◌}
use Rattle.std.proofs.Common.{length, take, drop, get_or, set, add-one, Result, Ok, Err, arith}
use Rattle.std.proofs.lemmas.List.{append-nil, drop_all, take_all}
use Rattle.bw_model.specs.declared.fault.Fault.{Fault}
use Rattle.bw_model.specs.Fault.{◌>>=◌}
use Rattle.bw_model.specs.Row.{Value}
use Rattle.bw_csv.specs.Bare.{bare_rows}
use Rattle.bw_csv.specs.Rows.{with_row}
use Rattle.bw_csv_calls.specs.declared.column_stats.ColumnStats.{ColumnStats}
use Rattle.bw_csv_calls.specs.ColumnStats.{with_records, with_rows, with_value, with_values}

-- one column more has taken its value
taken : (columns : List ColumnStats) (values : List Value) (i : ℕ) (d : ColumnStats) (e : Value) → i < length columns → i < length values
    → take i columns ++ with_values (drop i columns) (drop i values)
    ≡ take (suc i) (set columns i (with_value (get_or columns i d) (get_or values i e)))
    ++ with_values (drop (suc i) (set columns i (with_value (get_or columns i d) (get_or values i e)))) (drop (suc i) values)
unfolding with_values
taken (c ∷ columns) (v ∷ values) zero d e h k = refl
taken (c ∷ columns) (v ∷ values) (suc i) d e h k = ap (λ (l : List ColumnStats). c ∷ l) (taken columns values i d e (omega arith) (omega arith))
taken _ _ i d e h k = absurd (omega arith)

pub one_taken : (columns : List ColumnStats) (values : List Value) (i : ℕ) (d : ColumnStats) (e : Value) (s : ColumnStats) → i < length columns → i < length values
    → s ≡ with_value (get_or columns i d) (get_or values i e)
    → take i columns ++ with_values (drop i columns) (drop i values) ≡ take (i + 1) (set columns i s) ++ with_values (drop (i + 1) (set columns i s)) (drop (i + 1) values)
one_taken columns values i d e s h k same = rw (same, add-one) (taken columns values i d e h k)

pub taken_all : (columns : List ColumnStats) (values : List Value) (i : ℕ) → length columns ≤ i → take i columns ++ with_values (drop i columns) (drop i values) ≡ columns
unfolding with_values
taken_all columns values i all = rw (drop_all i columns all, take_all i columns all) (append-nil columns)

pub length-with_values : (columns : List ColumnStats) (values : List Value) → length (with_values columns values) ≡ length columns
unfolding with_values
length-with_values [] values = refl
length-with_values (c ∷ columns) [] = ap suc (length-with_values columns [])
length-with_values (c ∷ columns) (v ∷ values) = ap suc (length-with_values columns values)

-- one row more
row_more : (columns : List ColumnStats) (row : List Value) (more : Result (List (List Value)) Fault)
    → (with_row row more >>= λ rows. Ok (with_rows columns rows)) ≡ (more >>= λ rows. Ok (with_rows (with_values columns row) rows))
unfolding with_rows
row_more columns row (Ok rows) = refl
row_more columns row (Err fault) = refl

pub records-next : (columns : List ColumnStats) (width number : ℕ) (records more : List (List (List ℕ))) (row : List Value)
    → bare_rows width number records ≡ with_row row (bare_rows width (number + 1) more)
    → with_records columns width number records ≡ with_records (with_values columns row) width (number + 1) more
records-next columns width number records more row e =
    ap (λ (rows : Result (List (List Value)) Fault). rows >>= λ those. Ok (with_rows columns those)) e ∙ row_more columns row (bare_rows width (number + 1) more)

pub records-end : (columns : List ColumnStats) (width number : ℕ) (records : List (List (List ℕ))) → bare_rows width number records ≡ Ok [] → with_records columns width number records ≡ Ok columns
unfolding with_rows
records-end columns width number records e = rw e refl
