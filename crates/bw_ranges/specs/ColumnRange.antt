-- Ranges of a column's values, and what a comparison of values in them may be.
use Rattle.std.specs.Prelude.{ℕ, ℤ, Bool, true, false, List, Some, None, IsTrue, slice_index_or}
use Rattle.std.specs.Prelude.{int_le, int_lt, pos, ◌&&◌, ◌||◌}
use Rattle.bw_model.specs.declared.column.Column.{Column}
use Rattle.bw_model.specs.declared.cond.Op.{Op}
use Rattle.bw_model.specs.declared.cond.Op.TheVariants.{Eq, Ne, Lt, Gt, Le, Ge}
use Rattle.bw_model.specs.declared.cond.Operand.{Operand}
use Rattle.bw_model.specs.declared.cond.Operand.TheVariants.{Col, Lit, Null}
use Rattle.bw_model.specs.Row.{Value, value_in}
use Rattle.bw_ranges.specs.declared.column_range.ColumnRange.{ColumnRange}
use Rattle.bw_ranges.specs.declared.truth_set.TruthSet.{TruthSet}

-- the value is in the range: null if it has nulls, and the numbers from `least` to `greatest`
abbrev pub has_value : ColumnRange → Value → Bool
has_value range None = range.has_nulls
has_value range (Some n) = int_le range.least n && int_le n range.greatest

-- there is a number in the range
abbrev pub has_numbers : ColumnRange → Bool
has_numbers range = int_le range.least range.greatest

-- the range of one number, and that of null alone
abbrev pub one_number : ℤ → ColumnRange
one_number n = record { least = n; greatest = n; has_nulls = false }

abbrev pub only_null : ColumnRange
only_null = record { least = pos 1; greatest = pos 0; has_nulls = true }

-- the range of the values that a column admits
abbrev pub range_of_column : Column → ColumnRange
range_of_column column = record {
  least = column.lo;
  greatest = column.hi;
  has_nulls = column.nullable;
}

-- the range of the column of this number; beyond the last column there is only null
abbrev pub range_in : List ColumnRange → ℕ → ColumnRange
range_in ranges column = slice_index_or ranges column only_null

-- each value of the row is in the range of its column
abbrev pub IsWithin : List ColumnRange → List Value → Type 0
IsWithin ranges row = (column : ℕ) → IsTrue (has_value (range_in ranges column)
    (value_in row column))

-- the range of the values that an operand has
abbrev pub operand_range : List ColumnRange → Operand → ColumnRange
operand_range ranges (Col column) = range_in ranges column
operand_range ranges (Lit n) = one_number n
operand_range ranges Null = only_null

-- the comparison that holds exactly if this one doesn't
abbrev pub opposite_op : Op → Op
opposite_op Eq = Ne
opposite_op Ne = Eq
opposite_op Lt = Ge
opposite_op Gt = Le
opposite_op Le = Gt
opposite_op Ge = Lt

-- the comparison holds of some number in one range and some number in another, if both have numbers
abbrev pub may_hold : Op → ColumnRange → ColumnRange → Bool
may_hold Eq x y = int_le x.least y.greatest && int_le y.least x.greatest
may_hold Ne x y = int_lt x.least y.greatest || int_lt y.least x.greatest
may_hold Lt x y = int_lt x.least y.greatest
may_hold Gt x y = int_lt y.least x.greatest
may_hold Le x y = int_le x.least y.greatest
may_hold Ge x y = int_le y.least x.greatest

-- what a comparison of a value in one range with a value in another may be: TRUE if it may hold,
-- FALSE if its opposite may hold, and UNKNOWN if a range has nulls
abbrev pub compare_ranges : Op → ColumnRange → ColumnRange → TruthSet
compare_ranges op x y = record {
  no = has_numbers x && has_numbers y && may_hold (opposite_op op) x y;
  unknown = x.has_nulls || y.has_nulls;
  yes = has_numbers x && has_numbers y && may_hold op x y;
}

-- what `IS NULL` of a value in a range may be
abbrev pub null_truths : ColumnRange → TruthSet
null_truths range = record { no = has_numbers range; unknown = false; yes = range.has_nulls }
