-- Rows within ranges: those that columns admit, and those within after a range was replaced.
use Rattle.std.proofs.Common.{◌≡◌, refl, ℕ, zero, suc, true, List, [], ◌∷◌, map, Some, None, IsTrue, slice_set}
use Rattle.std.proofs.lemmas.Bool.{and_parts, false≢true}
use Rattle.bw_model.specs.declared.column.Column.{Column}
use Rattle.bw_model.specs.Column.{admits_value, admits_values}
use Rattle.bw_model.specs.Row.{Value, value_in}
use Rattle.bw_ranges.specs.declared.column_range.ColumnRange.{ColumnRange}
use Rattle.bw_ranges.specs.ColumnRange.{IsWithin, has_value, range_in, range_of_column}

column_has : (column : Column) (value : Value) → admits_value column value ≡ true → has_value (range_of_column column) value ≡ true
column_has column None is = is
column_has column (Some n) is = is

pub admitted_within : (columns : List Column) (row : List Value) → IsTrue (admits_values columns row) → IsWithin (map range_of_column columns) row
admitted_within [] [] is n = refl
admitted_within [] (value ∷ values) is n = absurd (false≢true is)
admitted_within (column ∷ columns) [] is n = absurd (false≢true is)
admitted_within (column ∷ columns) (value ∷ values) is zero = column_has column value (and_parts (admits_value column value) (admits_values columns values) is).0
admitted_within (column ∷ columns) (value ∷ values) is (suc n) = admitted_within columns values (and_parts (admits_value column value) (admits_values columns values) is).1 n

-- the values of a row are given by the numbers of columns
set_has : (ranges : List ColumnRange) (value : ℕ → Value) (column : ℕ) (range : ColumnRange) → ((n : ℕ) → has_value (range_in ranges n) (value n) ≡ true) → has_value range (value column) ≡ true →
    (n : ℕ) → has_value (range_in (slice_set ranges column range) n) (value n) ≡ true
set_has [] value column range has is n = has n
set_has (first ∷ ranges) value zero range has is zero = is
set_has (first ∷ ranges) value zero range has is (suc n) = has (suc n)
set_has (first ∷ ranges) value (suc column) range has is zero = has zero
set_has (first ∷ ranges) value (suc column) range has is (suc n) = set_has ranges (λ k. value (suc k)) column range (λ k. has (suc k)) is n

pub replaced_within : (ranges : List ColumnRange) (row : List Value) (column : ℕ) (range : ColumnRange) → IsWithin ranges row → IsTrue (has_value range (value_in row column)) → IsWithin (slice_set ranges column range) row
replaced_within ranges row column range has is = set_has ranges (value_in row) column range has is

pub ruleset within = (admitted_within, replaced_within)
