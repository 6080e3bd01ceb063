-- Statistics of columns, updated row by row.
use Rattle.std.specs.Prelude.{ℕ, ℤ, Bool, true, false, List, [], ◌∷◌, length, Option, Some, None}
use Rattle.std.specs.Prelude.{Result, Ok}
use Rattle.std.specs.Int.{int_min, int_max}
use Rattle.bw_model.specs.declared.fault.Fault.{Fault}
use Rattle.bw_model.specs.declared.query.Item.TheVariants.{Min, Max}
use Rattle.bw_model.specs.Fault.{◌>>=◌}
use Rattle.bw_model.specs.Row.{Value}
use Rattle.bw_model.specs.SchemaText.{ColumnShape, shape}
use Rattle.bw_model.specs.Total.{total}
use Rattle.bw_csv.specs.Bare.{bare_rows}
use Rattle.bw_csv_calls.specs.InferredSchema.{columns_over, has_null, or_zero, check_bounds}
use Rattle.bw_csv_calls.specs.declared.column_stats.ColumnStats.{ColumnStats}

abbrev pub column_stats : Option ℤ → Option ℤ → Bool → ColumnStats
column_stats least greatest has_null = record {
  least = least;
  greatest = greatest;
  has_null = has_null;
}

abbrev pub no_stats : ColumnStats
no_stats = column_stats None None false

-- the statistics of a column in the rows: its minimum and maximum, and whether a value is null
abbrev pub stats_in : List (List Value) → ℕ → ColumnStats
stats_in rows column = column_stats (total (Min column) rows) (total (Max column) rows)
    (has_null column rows)

abbrev pub lesser : Option ℤ → ℤ → ℤ
lesser None n = n
lesser (Some m) n = int_min m n

abbrev pub greater : Option ℤ → ℤ → ℤ
greater None n = n
greater (Some m) n = int_max m n

-- the statistics with one value more
abbrev pub with_value : ColumnStats → Value → ColumnStats
with_value s None = column_stats s.least s.greatest true
with_value s (Some n) = column_stats (Some (lesser s.least n))
    (Some (greater s.greatest n)) s.has_null

-- the statistics with one value more for each column; a missing one is null
unfoldable pub with_values : List ColumnStats → List Value → List ColumnStats
with_values [] values = []
with_values (s ∷ columns) [] = with_value s None ∷ with_values columns []
with_values (s ∷ columns) (value ∷ values) = with_value s value ∷ with_values columns values

-- the statistics with these rows more
unfoldable pub with_rows : List ColumnStats → List (List Value) → List ColumnStats
with_rows columns [] = columns
with_rows columns (row ∷ rows) = with_rows (with_values columns row) rows

-- the statistics with the rows of these records more, the first of which has this number, or the
-- first error
abbrev pub with_records : List ColumnStats → ℕ → ℕ → List (List (List ℕ))
    → Result (List ColumnStats) Fault
with_records columns width number records = bare_rows width number records
    >>= λ rows. Ok (with_rows columns rows)

-- the column of a name and its statistics
abbrev pub column_from_stats : List ℕ → ColumnStats → ColumnShape
column_from_stats name s = shape name (or_zero s.least) (or_zero s.greatest) s.has_null

unfoldable pub columns_from_stats : List (List ℕ) → List ColumnStats → List ColumnShape
columns_from_stats [] columns = []
columns_from_stats (name ∷ names) [] = []
columns_from_stats (name ∷ names) (s ∷ columns) = column_from_stats name s
    ∷ columns_from_stats names columns

-- the columns of these names over the rows of records, the first of which has number 1; or the
-- first error, in the records and then in the bounds
abbrev pub columns_after : List (List ℕ) → List (List (List ℕ)) → Result (List ColumnShape) Fault
columns_after names more = bare_rows (length names) 1 more
    >>= λ rows. check_bounds (columns_over rows 0 names)
