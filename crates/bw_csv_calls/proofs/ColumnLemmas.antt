-- The columns of names, one more at a time.
use Rattle.std.proofs.Common.{◌≡◌, ◌∙◌, refl, sym, ap, ℕ, suc, ◌+◌, ◌<◌, ◌≤◌, List, [], ◌∷◌, ◌++◌}
use Rattle.std.proofs.Common.{length, take, drop, get_or, add-one, Ok, Err, drop-cons}
use Rattle.std.proofs.lemmas.List.{append-nil, drop_all, map-append, take_more}
use Rattle.bw_model.specs.declared.column.Column.{Column}
use Rattle.bw_model.specs.declared.fault.Fault.{Fault}
use Rattle.bw_model.specs.Column.{names_of}
use Rattle.bw_model.specs.SchemaText.{ColumnShape}
use Rattle.bw_csv.proofs.FieldLemmas.{after, after-cons}
use Rattle.bw_csv_calls.specs.declared.column_stats.ColumnStats.{ColumnStats}
use Rattle.bw_csv_calls.specs.InferredSchema.{check_bounds, ranged_column}
use Rattle.bw_csv_calls.specs.ColumnStats.{column_from_stats, columns_from_stats}

abbrev columns_at : List (List ℕ) → List ColumnStats → ℕ → List ColumnShape
columns_at names seen i = columns_from_stats (drop i names) (drop i seen)

column_there : (names : List (List ℕ)) (seen : List ColumnStats) (i : ℕ) (name : List ℕ) (d : ColumnStats) → i < length names → i < length seen → name ≡ get_or names i name
    → columns_at names seen i ≡ column_from_stats name (get_or seen i d) ∷ columns_at names seen (i + 1)
unfolding columns_from_stats
column_there names seen i name d h k e =
    let first : drop i names ≡ name ∷ drop (suc i) names = drop-cons names i name h ∙ ap (λ (n : List ℕ). n ∷ drop (suc i) names) (sym e) in
    let second = drop-cons seen i d k in
    rw (first, second, add-one) refl

-- bounds that are too far apart
pub out_of_range : (names : List (List ℕ)) (seen : List ColumnStats) (i : ℕ) (name : List ℕ) (d : ColumnStats) (done : List ColumnShape) (fault : Fault) → i < length names → i < length seen → name ≡ get_or names i name
    → ranged_column (column_from_stats name (get_or seen i d)) ≡ Err fault → after done (check_bounds (columns_at names seen i)) ≡ Err fault
unfolding check_bounds
out_of_range names seen i name d done fault h k e wide = rw (column_there names seen i name d h k e, wide) refl

-- one column more
pub column_more : (names : List (List ℕ)) (seen : List ColumnStats) (i : ℕ) (name : List ℕ) (d : ColumnStats) (done : List ColumnShape) (column : ColumnShape) → i < length names → i < length seen → name ≡ get_or names i name
    → ranged_column (column_from_stats name (get_or seen i d)) ≡ Ok column
    → after done (check_bounds (columns_at names seen i)) ≡ after (done ++ column ∷ []) (check_bounds (columns_at names seen (i + 1)))
unfolding check_bounds
column_more names seen i name d done column h k e within =
    rw (column_there names seen i name d h k e, within) (after-cons done column (check_bounds (columns_at names seen (i + 1))))

pub columns_end : (names : List (List ℕ)) (seen : List ColumnStats) (i : ℕ) (done : List ColumnShape) → length names ≤ i → after done (check_bounds (columns_at names seen i)) ≡ Ok done
unfolding check_bounds columns_from_stats
columns_end names seen i done all = rw (drop_all i names all) (ap Ok (append-nil done))

-- the names of columns and of one more
pub names-push : (columns : List Column) (column : Column) (names : List (List ℕ)) (i : ℕ) → i < length names → names_of columns ≡ take i names → column.name ≡ get_or names i column.name
    → names_of (columns ++ column ∷ []) ≡ take (i + 1) names
names-push columns column names i h e n =
    map-append (λ (column : Column). column.name) columns (column ∷ []) ∙ rw (e, n) (sym (take_more names i column.name h))
