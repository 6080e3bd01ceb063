-- The possible truth values of each kind of condition.
use Rattle.std.proofs.Common.{◌≡◌, ◌∙◌, List, map, Vec, Box, Global, sym, ap}
use Rattle.bw_model.specs.declared.cond.Truth.{Truth}
use Rattle.bw_model.specs.declared.cond.Truth.TheVariants.{Yes}
use Rattle.bw_model.specs.declared.cond.Op.{Op}
use Rattle.bw_model.specs.declared.cond.Operand.{Operand}
use Rattle.bw_model.specs.declared.cond.Cond.{Cond, Cond-F, fold-roll-Cond, roll-Cond}
use Rattle.bw_model.specs.declared.cond.Cond.TheFolds.{map-Cond}
use Rattle.bw_model.specs.declared.cond.Cond.TheVariants.{Always, Cmp, Between, Among, IsNull, And}
use Rattle.bw_model.specs.declared.cond.Cond.TheVariants.{Or, Not, Test, rolls-Always, rolls-Cmp}
use Rattle.bw_model.specs.declared.cond.Cond.TheVariants.{rolls-Between, rolls-Among, rolls-IsNull}
use Rattle.bw_model.specs.declared.cond.Cond.TheVariants.{rolls-And, rolls-Or, rolls-Not}
use Rattle.bw_model.specs.declared.cond.Cond.TheVariants.{rolls-Test}
use Rattle.bw_ranges.specs.declared.column_range.ColumnRange.{ColumnRange}
use Rattle.bw_ranges.specs.declared.truth_set.TruthSet.{TruthSet}
use Rattle.bw_ranges.specs.ColumnRange.{compare_ranges, null_truths, operand_range}
use Rattle.bw_ranges.specs.TruthSet.{all_of_sets, any_of_sets, one_truth, opposite, test}
use Rattle.bw_ranges.specs.PossibleTruths.{between_ranges, in_ranges, possible_step, possible_truths}

-- they are made of those of its parts by its outermost layer
folded : (ranges : List ColumnRange) (layer : Cond-F Cond) {cond : Cond} → roll-Cond layer ≡ cond → possible_truths ranges cond ≡ possible_step ranges (map-Cond Cond TruthSet (possible_truths ranges) layer)
unfolding possible_truths
folded ranges layer is = ap (possible_truths ranges) (sym is) ∙ fold-roll-Cond TruthSet (possible_step ranges) layer

pub possible-Always : (ranges : List ColumnRange) → possible_truths ranges Always ≡ one_truth Yes
possible-Always ranges = folded ranges Cond-F.Always rolls-Always

pub possible-Cmp : (ranges : List ColumnRange) (op : Op) (x y : Operand) → possible_truths ranges (Cmp op x y) ≡ compare_ranges op (operand_range ranges x) (operand_range ranges y)
possible-Cmp ranges op x y = folded ranges (Cond-F.Cmp op x y) (rolls-Cmp op x y)

pub possible-Between : (ranges : List ColumnRange) (x y z : Operand) → possible_truths ranges (Between x y z) ≡ between_ranges (operand_range ranges x) (operand_range ranges y) (operand_range ranges z)
possible-Between ranges x y z = folded ranges (Cond-F.Between x y z) (rolls-Between x y z)

pub possible-Among : (ranges : List ColumnRange) (x : Operand) (items : Vec Operand Global) → possible_truths ranges (Among x items) ≡ in_ranges (operand_range ranges x) (map (operand_range ranges) items.items)
possible-Among ranges x items = folded ranges (Cond-F.Among x items) (rolls-Among x items)

pub possible-IsNull : (ranges : List ColumnRange) (x : Operand) → possible_truths ranges (IsNull x) ≡ null_truths (operand_range ranges x)
possible-IsNull ranges x = folded ranges (Cond-F.IsNull x) (rolls-IsNull x)

pub possible-And : (ranges : List ColumnRange) (parts : Vec Cond Global) → possible_truths ranges (And parts) ≡ all_of_sets (map (possible_truths ranges) parts.items)
possible-And ranges parts = folded ranges (Cond-F.And parts) (rolls-And parts)

pub possible-Or : (ranges : List ColumnRange) (parts : Vec Cond Global) → possible_truths ranges (Or parts) ≡ any_of_sets (map (possible_truths ranges) parts.items)
possible-Or ranges parts = folded ranges (Cond-F.Or parts) (rolls-Or parts)

pub possible-Not : (ranges : List ColumnRange) (part : Box Cond Global) → possible_truths ranges (Not part) ≡ opposite (possible_truths ranges part.value)
possible-Not ranges part = folded ranges (Cond-F.Not part) (rolls-Not part)

pub possible-Test : (ranges : List ColumnRange) (part : Box Cond Global) (wanted : Truth) → possible_truths ranges (Test part wanted) ≡ test (possible_truths ranges part.value) wanted
possible-Test ranges part wanted = folded ranges (Cond-F.Test part wanted) (rolls-Test part wanted)

pub ruleset possible = (possible-Always, possible-Cmp, possible-Between, possible-Among, possible-IsNull, possible-And, possible-Or, possible-Not, possible-Test)
