-- The truth values that a condition may have on a row within ranges, made of those of its parts.
use Rattle.std.specs.Prelude.{List, map}
use Rattle.bw_model.specs.declared.cond.Truth.TheVariants.{Yes}
use Rattle.bw_model.specs.declared.cond.Op.TheVariants.{Eq, Ge, Le}
use Rattle.bw_model.specs.declared.cond.Cond.{Cond, Cond-F, fold-Cond}
use Rattle.bw_model.specs.declared.cond.Cond.TheOpen.{Always, Cmp, Between, Among, IsNull, And, Or}
use Rattle.bw_model.specs.declared.cond.Cond.TheOpen.{Not, Test}
use Rattle.bw_ranges.specs.declared.column_range.ColumnRange.{ColumnRange}
use Rattle.bw_ranges.specs.declared.truth_set.TruthSet.{TruthSet}
use Rattle.bw_ranges.specs.ColumnRange.{compare_ranges, null_truths, operand_range}
use Rattle.bw_ranges.specs.TruthSet.{all_of_sets, any_of_sets, both, one_truth, opposite, test}

-- x BETWEEN y AND z is x >= y AND x <= z
abbrev pub between_ranges : ColumnRange → ColumnRange → ColumnRange → TruthSet
between_ranges x y z = both (compare_ranges Ge x y) (compare_ranges Le x z)

-- x IN (a, b, ..) is x = a OR x = b OR ..
abbrev pub in_ranges : ColumnRange → List ColumnRange → TruthSet
in_ranges x items = any_of_sets (map (compare_ranges Eq x) items)

-- the truth values of a condition, from those of its parts
abbrev pub possible_step : List ColumnRange → Cond-F TruthSet → TruthSet
possible_step ranges Always = one_truth Yes
possible_step ranges (Cmp op x y) = compare_ranges op (operand_range ranges x)
    (operand_range ranges y)
possible_step ranges (Between x y z) = between_ranges (operand_range ranges x)
    (operand_range ranges y) (operand_range ranges z)
possible_step ranges (Among x items) = in_ranges (operand_range ranges x)
    (map (operand_range ranges) items.items)
possible_step ranges (IsNull x) = null_truths (operand_range ranges x)
possible_step ranges (And parts) = all_of_sets parts.items
possible_step ranges (Or parts) = any_of_sets parts.items
possible_step ranges (Not part) = opposite part.value
possible_step ranges (Test part wanted) = test part.value wanted

-- the truth values that a condition may have on a row within the ranges
unfoldable pub possible_truths : List ColumnRange → Cond → TruthSet
possible_truths ranges cond = fold-Cond TruthSet (possible_step ranges) cond
