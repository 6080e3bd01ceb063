-- A condition's truth on a row within ranges is one of its possible truth values.
use Rattle.std.proofs.Common.{◌≡◌, refl, sym, ap, subst, ℤ, Bool, true, false, not, List, [], ◌∷◌, map, Some, None, ◌&&◌, ◌||◌, int_le, int_lt, arith}
use Rattle.std.specs.Ordering.{int_eq}
use Rattle.std.proofs.lemmas.Int.{ints}
use Rattle.std.proofs.lemmas.Bool.{and_from, and_parts, or_left, or_right}
use Rattle.bw_model.specs.declared.cond.Truth.{Truth}
use Rattle.bw_model.specs.declared.cond.Op.{Op}
use Rattle.bw_model.specs.declared.cond.Op.TheVariants.{Eq, Ne, Lt, Gt, Le, Ge}
use Rattle.bw_model.specs.declared.cond.Operand.{Operand}
use Rattle.bw_model.specs.declared.cond.Operand.TheVariants.{Col, Lit, Null}
use Rattle.bw_model.specs.declared.cond.Cond.{Cond, Cond-F, fold-roll-Cond, roll-Cond}
use Rattle.bw_model.specs.declared.cond.Cond.{ind-Cond}
use Rattle.bw_model.specs.declared.cond.Cond.TheFolds.{map-Cond}
use Rattle.bw_model.specs.Row.{Value}
use Rattle.bw_model.specs.Truth.{all_of, any_of, compare_values, holds, in_list, is_null, truth_from}
use Rattle.bw_model.specs.Cond.{operand_value, truth_of, truth_step}
use Rattle.bw_ranges.specs.declared.column_range.ColumnRange.{ColumnRange}
use Rattle.bw_ranges.specs.declared.truth_set.TruthSet.{TruthSet}
use Rattle.bw_ranges.specs.ColumnRange.{IsWithin, compare_ranges, has_numbers, has_value, may_hold, null_truths, operand_range, opposite_op}
use Rattle.bw_ranges.specs.PossibleTruths.{in_ranges, possible_step, possible_truths}
use Rattle.bw_ranges.specs.TruthSet.{all_of_sets, any_of_sets, has_truth}
use Rattle.bw_ranges.proofs.SetLemmas.{both_has, either_has, opposite_has, test_has}

-- a number in a range lies between its bounds
lies : (x : ColumnRange) (m : ℤ) → has_value x (Some m) ≡ true → (int_le x.least m ≡ true) × (int_le m x.greatest ≡ true)
lies x m p = and_parts (int_le x.least m) (int_le m x.greatest) p

le_trans : (a b c : ℤ) → int_le a b ≡ true → int_le b c ≡ true → int_le a c ≡ true
le_trans a b c p q = grind (arith, ints)

le_lt : (a b c d : ℤ) → int_le a b ≡ true → int_lt b c ≡ true → int_le c d ≡ true → int_lt a d ≡ true
le_lt a b c d p q r = grind (arith, ints)

le_le : (a b c d : ℤ) → int_le a b ≡ true → int_le b c ≡ true → int_le c d ≡ true → int_le a d ≡ true
le_le a b c d p q r = grind (arith, ints)

pub numbers : (x : ColumnRange) (m : ℤ) → has_value x (Some m) ≡ true → has_numbers x ≡ true
numbers x m p = le_trans x.least m x.greatest (lies x m p).0 (lies x m p).1

may_equal : (a b c d : ℤ) → int_eq b c ≡ true → int_le a b ≡ true → int_le c d ≡ true → int_le a d ≡ true
may_equal a b c d p q r = grind (arith, ints)

may_differ : (a b c d m n : ℤ) → not (int_eq m n) ≡ true → (int_le a m ≡ true) × (int_le m b ≡ true) → (int_le c n ≡ true) × (int_le n d ≡ true) → (int_lt a d || int_lt c b) ≡ true
may_differ a b c d m n is p q = grind (arith, ints)

not_not : (b : Bool) → not b ≡ false → b ≡ true
not_not true e = refl
not_not false e = sym e

-- a comparison that holds of two numbers may hold of their ranges
may : (op : Op) (x y : ColumnRange) (m n : ℤ) → has_value x (Some m) ≡ true → has_value y (Some n) ≡ true → holds op m n ≡ true → may_hold op x y ≡ true
may Eq x y m n p q is = and_from (int_le x.least y.greatest) (int_le y.least x.greatest) (may_equal x.least m n y.greatest is (lies x m p).0 (lies y n q).1) (may_equal y.least n m x.greatest (grind (arith, ints, is)) (lies y n q).0 (lies x m p).1)
may Ne x y m n p q is = may_differ x.least x.greatest y.least y.greatest m n is (lies x m p) (lies y n q)
may Lt x y m n p q is = le_lt x.least m n y.greatest (lies x m p).0 is (lies y n q).1
may Gt x y m n p q is = le_lt y.least n m x.greatest (lies y n q).0 is (lies x m p).1
may Le x y m n p q is = le_le x.least m n y.greatest (lies x m p).0 is (lies y n q).1
may Ge x y m n p q is = le_le y.least n m x.greatest (lies y n q).0 is (lies x m p).1

opposite_holds : (op : Op) (m n : ℤ) → holds op m n ≡ false → holds (opposite_op op) m n ≡ true
opposite_holds Eq m n is = ap not is
opposite_holds Ne m n is = not_not (int_eq m n) is
opposite_holds Lt m n is = grind (arith, ints)
opposite_holds Gt m n is = grind (arith, ints)
opposite_holds Le m n is = grind (arith, ints)
opposite_holds Ge m n is = grind (arith, ints)

both_numbers : (x y : ColumnRange) (m n : ℤ) → has_value x (Some m) ≡ true → has_value y (Some n) ≡ true → {b : Bool} → b ≡ true → (has_numbers x && has_numbers y && b) ≡ true
both_numbers x y m n p q {b} is = and_from (has_numbers x && has_numbers y) b (and_from (has_numbers x) (has_numbers y) (numbers x m p) (numbers y n q)) is

compared : (op : Op) (x y : ColumnRange) (m n : ℤ) → has_value x (Some m) ≡ true → has_value y (Some n) ≡ true → (is : Bool) → holds op m n ≡ is → has_truth (compare_ranges op x y) (truth_from is) ≡ true
compared op x y m n p q true e = both_numbers x y m n p q (may op x y m n p q e)
compared op x y m n p q false e = both_numbers x y m n p q (may (opposite_op op) x y m n p q (opposite_holds op m n e))

-- what a comparison of two values is may be that of their ranges
pub compare_has : (op : Op) (x y : ColumnRange) (v w : Value) → has_value x v ≡ true → has_value y w ≡ true → has_truth (compare_ranges op x y) (compare_values op v w) ≡ true
compare_has op x y None w p q = or_left x.has_nulls y.has_nulls p
compare_has op x y (Some m) None p q = or_right x.has_nulls y.has_nulls q
compare_has op x y (Some m) (Some n) p q = compared op x y m n p q (holds op m n) refl

null_has : (x : ColumnRange) (v : Value) → has_value x v ≡ true → has_truth (null_truths x) (truth_from (is_null v)) ≡ true
null_has x None p = p
null_has x (Some m) p = numbers x m p

le_refl : (n : ℤ) → int_le n n ≡ true
le_refl n = grind (arith, ints)

-- The rows within some ranges.
module _ (ranges : List ColumnRange) (row : List Value) (within : IsWithin ranges row) where
  operand_has : (x : Operand) → has_value (operand_range ranges x) (operand_value row x) ≡ true
  operand_has (Col column) = within column
  operand_has (Lit n) = and_from (int_le n n) (int_le n n) (le_refl n) (le_refl n)
  operand_has Null = refl

  operands_compare : (op : Op) (x y : Operand) → has_truth (compare_ranges op (operand_range ranges x) (operand_range ranges y)) (compare_values op (operand_value row x) (operand_value row y)) ≡ true
  operands_compare op x y = compare_has op (operand_range ranges x) (operand_range ranges y) (operand_value row x) (operand_value row y) (operand_has x) (operand_has y)

  among_has : (x : Operand) (items : List Operand) → has_truth (in_ranges (operand_range ranges x) (map (operand_range ranges) items)) (in_list (operand_value row x) (map (operand_value row) items)) ≡ true
  among_has x [] = refl
  among_has x (item ∷ items) = either_has (compare_ranges Eq (operand_range ranges x) (operand_range ranges item)) (in_ranges (operand_range ranges x) (map (operand_range ranges) items)) (compare_values Eq (operand_value row x) (operand_value row item)) (in_list (operand_value row x) (map (operand_value row) items)) (operands_compare Eq x item) (among_has x items)

  -- a condition whose truth is possible
  abbrev Known : Type 0
  Known = (cond : Cond) × (has_truth (possible_truths ranges cond) (truth_of row cond) ≡ true)

  abbrev bare : Cond-F Known → Cond-F Cond
  bare layer = map-Cond Known Cond (λ e. e.0) layer

  all_known : (parts : List Known) → has_truth (all_of_sets (map (possible_truths ranges) (map (λ e. e.0) parts))) (all_of (map (truth_of row) (map (λ e. e.0) parts))) ≡ true
  all_known [] = refl
  all_known (part ∷ parts) = both_has (possible_truths ranges part.0) (all_of_sets (map (possible_truths ranges) (map (λ e. e.0) parts))) (truth_of row part.0) (all_of (map (truth_of row) (map (λ e. e.0) parts))) part.1 (all_known parts)

  any_known : (parts : List Known) → has_truth (any_of_sets (map (possible_truths ranges) (map (λ e. e.0) parts))) (any_of (map (truth_of row) (map (λ e. e.0) parts))) ≡ true
  any_known [] = refl
  any_known (part ∷ parts) = either_has (possible_truths ranges part.0) (any_of_sets (map (possible_truths ranges) (map (λ e. e.0) parts))) (truth_of row part.0) (any_of (map (truth_of row) (map (λ e. e.0) parts))) part.1 (any_known parts)

  step_known : (layer : Cond-F Known) → has_truth (possible_step ranges (map-Cond Cond TruthSet (possible_truths ranges) (bare layer))) (truth_step row (map-Cond Cond Truth (truth_of row) (bare layer))) ≡ true
  step_known Cond-F.Always = refl
  step_known (Cond-F.Cmp op x y) = operands_compare op x y
  step_known (Cond-F.Between x y z) = both_has (compare_ranges Ge (operand_range ranges x) (operand_range ranges y)) (compare_ranges Le (operand_range ranges x) (operand_range ranges z)) (compare_values Ge (operand_value row x) (operand_value row y)) (compare_values Le (operand_value row x) (operand_value row z)) (operands_compare Ge x y) (operands_compare Le x z)
  step_known (Cond-F.Among x items) = among_has x items.items
  step_known (Cond-F.IsNull x) = null_has (operand_range ranges x) (operand_value row x) (operand_has x)
  step_known (Cond-F.And parts) = all_known parts.items
  step_known (Cond-F.Or parts) = any_known parts.items
  step_known (Cond-F.Not part) = opposite_has (possible_truths ranges part.value.0) (truth_of row part.value.0) part.value.1
  step_known (Cond-F.Test part wanted) = test_has (possible_truths ranges part.value.0) (truth_of row part.value.0) wanted part.value.1

  rolled : (layer : Cond-F Cond) → has_truth (possible_step ranges (map-Cond Cond TruthSet (possible_truths ranges) layer)) (truth_step row (map-Cond Cond Truth (truth_of row) layer)) ≡ true →
      has_truth (possible_truths ranges (roll-Cond layer)) (truth_of row (roll-Cond layer)) ≡ true
  unfolding possible_truths truth_of
  rolled layer known = rw (fold-roll-Cond TruthSet (possible_step ranges) layer, fold-roll-Cond Truth (truth_step row) layer) known

  pub possible_on_row : (cond : Cond) → has_truth (possible_truths ranges cond) (truth_of row cond) ≡ true
  possible_on_row = ind-Cond (λ cond. has_truth (possible_truths ranges cond) (truth_of row cond) ≡ true) (λ x y is.
      subst (λ layer. has_truth (possible_truths ranges (roll-Cond layer)) (truth_of row (roll-Cond layer)) ≡ true) is (rolled (bare y) (step_known y)))
