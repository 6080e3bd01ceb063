-- Codes as they are stored, null as 0, and the numbers that the bits of an assignment spell.
use Rattle.std.specs.Prelude.{ℕ, ◌+◌, ◌-◌, ◌*◌, ◌/◌, ◌%◌, ◌^◌, false, List, min, suc, unwrap_or}
use Rattle.bw_model.specs.declared.column.Column.{Column}
use Rattle.bw_model.specs.Row.{Value}
use Rattle.bw_model.specs.Code.{code_at, width_at}
use Rattle.bw_model.specs.Variable.{Assignment, first_variable, binary_number}

-- the stored code of a value of the column of this number, in which null is 0
abbrev pub stored_at : List Column → ℕ → Value → ℕ
stored_at columns column value = unwrap_or (code_at columns column value) 0

-- The number that `count` bits of a column spell in an assignment, from bit `start` upwards, which
-- is its least bit. A column's variables go from its top bit to bit 0, so these bits end `start`
-- variables before the next column's.
abbrev pub number_spelled : List Column → ℕ → ℕ → ℕ → Assignment → ℕ
number_spelled columns column start count bits = binary_number bits
    (first_variable columns (suc column) - (start + count)) count

-- the byte `slice` of a number; byte 0 is the least
abbrev pub byte_of : ℕ → ℕ → ℕ
byte_of slice n = n / 2 ^ (8 * slice) % 256

-- the number of a column's bits in the byte `slice` of its codes: 8, or fewer in the last byte;
-- byte 0 is the least
abbrev pub bits_in_slice : List Column → ℕ → ℕ → ℕ
bits_in_slice columns column slice = min 8 (width_at columns column - 8 * slice)

-- the byte of a column's code that an assignment spells, with zero bits above its top bit
abbrev pub byte_spelled : List Column → ℕ → ℕ → Assignment → ℕ
byte_spelled columns column slice bits = number_spelled columns column (8 * slice)
    (bits_in_slice columns column slice) bits

-- the assignment of zeros, as of padding rows
abbrev pub no_bits : Assignment
no_bits variable = false
