-- Columns in 512 lanes, and the rows that they have.
use Rattle.std.specs.Prelude.{◌≡◌, ◌<◌, ◌++◌, ℕ, All, Bool, List, [], true, false, length, map}
use Rattle.std.specs.Prelude.{slice_index, slice_index_or}
use Rattle.bw_lanes.specs.Lanes.{lanes_of_words}
use Rattle.bw_model.specs.Row.{Value, value_in}
use Rattle.bw_segment.specs.Keys.{value_in_lane}
use Rattle.bw_rowwise.specs.declared.column_lanes.ColumnLanes.{ColumnLanes}
use Rattle.bw_rowwise.specs.declared.columns.Columns.{Columns}
use Rattle.bw_rowwise.specs.declared.columns.LaneColumn.{LaneColumn}

-- the value in a lane
abbrev pub value_at : ColumnLanes → ℕ → Value
value_at lanes lane = value_in_lane (lanes_of_words lanes.none) lanes.keys lane

-- the row in a lane; past the last row it has no values
abbrev pub row_at : List (List Value) → ℕ → List Value
row_at rows lane = slice_index_or rows lane []

-- the lanes have the values of a column in these rows, and past the last row none
abbrev pub HasColumn : List (List Value) → ℕ → ColumnLanes → Type 0
HasColumn rows number lanes = (lane : ℕ) → lane < 512 → value_at lanes lane
    ≡ value_in (row_at rows lane) number

-- the lanes of the rows whose bit is 1 have their values of a column
abbrev pub HasSelected : List (List Value) → List Bool → ℕ → ColumnLanes → Type 0
HasSelected rows bits number lanes = (lane : ℕ) → lane < length rows
    → slice_index_or bits lane false ≡ true
    → value_at lanes lane ≡ value_in (row_at rows lane) number

-- the numbers of columns
abbrev pub numbers_of : Columns → List ℕ
numbers_of columns = map (λ (column : LaneColumn). column.number) columns.columns.items

-- the values in a lane, one for each column
abbrev pub row_in : Columns → ℕ → List Value
row_in columns lane = map (λ (column : LaneColumn). value_at column.lanes lane)
    columns.columns.items

-- a row's values in the columns of these numbers
abbrev pub values_in : List ℕ → List Value → List Value
values_in numbers row = map (value_in row) numbers

-- each column has its values in these rows
abbrev pub HaveRows : List (List Value) → Columns → Type 0
HaveRows rows columns = All (λ (column : LaneColumn). HasColumn rows column.number column.lanes)
    columns.columns.items

-- each column has its values in the rows whose bit is 1
abbrev pub HaveSelected : List (List Value) → List Bool → Columns → Type 0
HaveSelected rows bits columns =
    All (λ (column : LaneColumn). HasSelected rows bits column.number column.lanes)
    columns.columns.items

-- columns were added after those that were there
abbrev pub Grows : List ℕ → List ℕ → Type 0
Grows old new = (more : List ℕ) × (new ≡ old ++ more)

-- the column of this number is at this place
abbrev pub IsAt : List ℕ → ℕ → ℕ → Type 0
IsAt numbers number place = (place < length numbers) × (slice_index numbers place ≡ number)
