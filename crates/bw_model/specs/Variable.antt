-- Variables: the bits of a row, numbered from 0 over the whole schema, and rows as assignments of
-- them.
use Rattle.std.specs.Prelude.{ℕ, zero, suc, ◌+◌, ◌-◌, ◌^◌, Bool, false, List, [], ◌∷◌, ◌++◌, map}
use Rattle.std.specs.Prelude.{take, sum_by, slice_index_or, Option, Some, None, if◌then◌else◌, ◌&&◌}
use Rattle.bw_model.specs.declared.column.Column.{Column}
use Rattle.bw_model.specs.Row.{Value}
use Rattle.bw_model.specs.Truth.{is_null}
use Rattle.bw_model.specs.Code.{width_of, width_at, value_of_code, value_at, stored_code, has_bit}

-- Each column's variables follow those of the column before: its null variable, if it is nullable,
-- and then its bits from the top to bit 0.
abbrev pub null_count : Column → ℕ
null_count column = if column.nullable then 1 else 0

abbrev pub variable_count : Column → ℕ
variable_count column = null_count column + width_of column

-- the number of variables of these columns
abbrev pub variables_of : List Column → ℕ
variables_of columns = sum_by variable_count columns

-- the first variable of the column of this number
abbrev pub first_variable : List Column → ℕ → ℕ
first_variable columns column = variables_of (take column columns)

-- the column of this number is nullable
abbrev pub is_nullable : List Column → ℕ → Bool
is_nullable columns column = slice_index_or (map (λ c. c.nullable) columns) column false

-- a column's null variable
abbrev pub null_variable : List Column → ℕ → Option ℕ
null_variable columns column = if is_nullable columns column
    then Some (first_variable columns column) else None

-- the variable of a column's bit; bit 0 is the least, and is the last variable of its column
abbrev pub bit_variable : List Column → ℕ → ℕ → ℕ
bit_variable columns column bit = first_variable columns (suc column) - suc bit

-- an assignment gives each variable a bit
abbrev pub Assignment : Type 0
Assignment = ℕ → Bool

-- the assignment of a list of bits, one a variable
abbrev pub assignment_of : List Bool → Assignment
assignment_of bits variable = slice_index_or bits variable false

-- the `bits` lowest bits of n, from the top
abbrev pub low_bits : ℕ → ℕ → List Bool
low_bits zero n = []
low_bits (suc bits) n = has_bit n bits ∷ low_bits bits n

-- the bits of a value: null has null bit 1 and code bits 0
abbrev pub value_bits : Column → Value → List Bool
value_bits column value =
    (if column.nullable then is_null value ∷ [] else [])
    ++ low_bits (width_of column) (stored_code column value)

-- the bits of a row, in the order of the variables
abbrev pub bits_of : List Column → List Value → List Bool
bits_of [] values = []
bits_of (column ∷ columns) [] = []
bits_of (column ∷ columns) (value ∷ values) = value_bits column value ++ bits_of columns values

-- the number that `count` variables spell, from the top
abbrev pub binary_number : Assignment → ℕ → ℕ → ℕ
binary_number bits first zero = 0
binary_number bits first (suc count) = (if bits first then 2 ^ count else 0) + binary_number bits
    (suc first) count

-- the value of a column whose first variable is this: null if its null bit is 1, else the value of
-- the code that its bits spell, which may be an unused one
abbrev pub value_spelled : Column → Assignment → ℕ → Value
value_spelled column bits first =
    if column.nullable && bits first then None else Some (value_of_code column
    (binary_number bits (first + null_count column) (width_of column)))

-- the row of an assignment, for columns whose first variable is this
abbrev pub row_from : List Column → Assignment → ℕ → List Value
row_from [] bits first = []
row_from (column ∷ columns) bits first = value_spelled column bits first
    ∷ row_from columns bits (first + variable_count column)

-- the row of an assignment
abbrev pub row_of : List Column → Assignment → List Value
row_of columns bits = row_from columns bits 0

-- the value that an assignment has in the column of this number: null if its null bit is 1, else
-- the value of the code that its bits spell
abbrev pub value_assigned : List Column → Assignment → ℕ → Value
value_assigned columns bits column =
    if is_nullable columns column && bits (first_variable columns column) then None
    else Some (value_at columns column
    (binary_number bits (bit_variable columns column (width_at columns column - 1))
    (width_at columns column)))
