-- Codes: a value's distance from its column's minimum, and how many binary digits it has.
use Rattle.std.specs.Prelude.{ℕ, ℤ, Bool, pos, ◌==◌, unwrap_or, ◌+◌, ◌/◌, ◌+ℤ◌, ◌-ℤ◌, max, ◌&&◌}
use Rattle.std.specs.Prelude.{List, map, length, slice_index, slice_index_or, Option, Some, None}
use Rattle.std.specs.Prelude.{if◌then◌else◌, int_le, unsigned_abs}
use Rattle.std.specs.Int.{bit_at}
use Rattle.std.specs.Int.Digits.{digits_of}
use Rattle.bw_model.specs.declared.column.Column.{Column}
use Rattle.bw_model.specs.Row.{Value}

-- the maximum code of a column is the code of its maximum
abbrev pub span_of : Column → ℕ
span_of column = unsigned_abs (column.hi -ℤ column.lo)

-- the number of binary digits of the maximum code, at least 1
unfoldable pub width_of : Column → ℕ
width_of column = max 1 (length (digits_of 2 (span_of column)))

-- the code of a number within the column's bounds; null and other numbers have none
abbrev pub code_of : Column → Value → Option ℕ
code_of column None = None
code_of column (Some n) =
    if int_le column.lo n && int_le n column.hi then Some (unsigned_abs (n -ℤ column.lo)) else None

-- the value of a code
abbrev pub value_of_code : Column → ℕ → ℤ
value_of_code column code = column.lo +ℤ pos code

-- the code of a value as it is stored, in which null is 0
abbrev pub stored_code : Column → Value → ℕ
stored_code column value = unwrap_or (code_of column value) 0

-- bit 0 of a number is the least
abbrev pub has_bit : ℕ → ℕ → Bool
has_bit n bit = bit_at n bit == 1

-- the maximum code of the column of this number, from 0, and its width
abbrev pub span_at : List Column → ℕ → ℕ
span_at columns column = slice_index (map span_of columns) column

abbrev pub width_at : List Column → ℕ → ℕ
width_at columns column = slice_index (map width_of columns) column

-- the number of bytes of a column's codes
abbrev pub slices_at : List Column → ℕ → ℕ
slices_at columns column = (width_at columns column + 7) / 8

abbrev pub code_at : List Column → ℕ → Value → Option ℕ
code_at columns column value = slice_index_or (map (λ c. code_of c value) columns) column None

abbrev pub value_at : List Column → ℕ → ℕ → ℤ
value_at columns column code = slice_index_or (map (λ c. value_of_code c code) columns) column
    (pos 0)
