-- Where the variables of a column are.
use Rattle.std.proofs.Common.{◌≡◌, ℕ, zero, suc, ◌+◌, ◌^◌, ◌<◌, ◌≤◌, Bool, true, false, cond, List}
use Rattle.std.proofs.Common.{[], ◌∷◌, length, take, arith, add-one}
use Rattle.std.proofs.Math.Nat.{pow-succ'}
use Rattle.std.proofs.lemmas.List.Sums.{sum_by-cons, sum_by-take-drop}
use Rattle.bw_model.specs.declared.column.Column.{Column}
use Rattle.bw_model.specs.Code.{width_of, width_at}
use Rattle.bw_model.specs.Variable.{Assignment, binary_number, variable_count, variables_of}
use Rattle.bw_model.specs.Variable.{first_variable}

-- this many bits spell a number below that power of 2
pub binary_number-lt : (bits : Assignment) (first count : ℕ) → binary_number bits first count < 2 ^ count
binary_number-lt bits first zero = omega arith
binary_number-lt bits first (suc count) = by_bit (bits first) (binary_number-lt bits (suc first) count)
  where
    by_bit : (bit : Bool) → binary_number bits (suc first) count < 2 ^ count → cond bit (2 ^ count) 0 + binary_number bits (suc first) count < 2 ^ suc count
    by_bit true lt = omega (arith, pow-succ' 2 count)
    by_bit false lt = omega (arith, pow-succ' 2 count)

-- a column's bits stand before the next column
pub width_before_next : (columns : List Column) (column : ℕ) → column < length columns → width_at columns column ≤ first_variable columns (suc column)
width_before_next [] column lt = absurd (omega arith)
width_before_next (c ∷ columns) zero lt = omega (arith, sum_by-cons variable_count c [])
width_before_next (c ∷ columns) (suc column) lt =
    omega (arith, sum_by-cons variable_count c (take (suc column) columns), width_before_next columns column (omega arith))

-- a column has bits
pub width_positive : (columns : List Column) (column : ℕ) → column < length columns → 1 ≤ width_at columns column
unfolding width_of
width_positive [] column lt = absurd (omega arith)
width_positive (c ∷ columns) zero lt = omega arith
width_positive (c ∷ columns) (suc column) lt = width_positive columns column (omega arith)

-- a column's bits stand between its first variable and the next column's
pub first_variable_more : (columns : List Column) (column : ℕ) → column < length columns → first_variable columns column + width_at columns column ≤ first_variable columns (suc column)
first_variable_more [] column lt = absurd (omega arith)
first_variable_more (c ∷ columns) zero lt = omega (arith, sum_by-cons variable_count c [])
first_variable_more (c ∷ columns) (suc column) lt =
    omega (arith, sum_by-cons variable_count c (take (suc column) columns), sum_by-cons variable_count c (take column columns), first_variable_more columns column (omega arith))

-- the variables of the first columns are among those of all
pub first_variable_within : (columns : List Column) (column : ℕ) → first_variable columns column ≤ variables_of columns
first_variable_within columns column = omega (arith, sum_by-take-drop variable_count columns column)

pub first_variable_next : (columns : List Column) (column : ℕ) → first_variable columns (column + 1) ≡ first_variable columns (suc column)
first_variable_next columns column = rw add-one
