-- A condition as plain data: its tree, without the addresses of its parts. Two conditions are equal
-- if their trees are.
use Rattle.std.specs.Prelude.{ℕ, suc, zero, Bool, true, List, [], ◌∷◌, map, length, ◌&&◌, nat_le}
use Rattle.std.specs.List.{list_all}
use Rattle.bw_model.specs.declared.cond.Truth.{Truth}
use Rattle.bw_model.specs.declared.cond.Truth.TheVariants.{Yes}
use Rattle.bw_model.specs.declared.cond.Op.{Op}
use Rattle.bw_model.specs.declared.cond.Operand.{Operand}
use Rattle.bw_model.specs.declared.cond.Cond.{Cond, Cond-F, fold-Cond}
use Rattle.bw_model.specs.declared.cond.Cond.TheOpen as layer
use Rattle.bw_model.specs.Row.{Value}
use Rattle.bw_model.specs.Truth.{truth_from, all_of, any_of, negation, is_truth, compare_values}
use Rattle.bw_model.specs.Truth.{between, in_list, is_null}
use Rattle.bw_model.specs.Cond.{operand_value, is_within}

mutual
  pub data CondTree : Type 0 where
    Always : CondTree
    Cmp : Op → Operand → Operand → CondTree
    Between : Operand → Operand → Operand → CondTree
    Among : Operand → List Operand → CondTree
    IsNull : Operand → CondTree
    And : CondTrees → CondTree
    Or : CondTrees → CondTree
    Not : CondTree → CondTree
    Test : CondTree → Truth → CondTree

  pub data CondTrees : Type 0 where
    none : CondTrees
    more : CondTree → CondTrees → CondTrees

abbrev pub trees_of : List CondTree → CondTrees
trees_of [] = none
trees_of (t ∷ ts) = more t (trees_of ts)

-- one layer of a condition, each part replaced by its tree
abbrev pub tree_step : Cond-F CondTree → CondTree
tree_step layer.Always = Always
tree_step (layer.Cmp op x y) = Cmp op x y
tree_step (layer.Between x y z) = Between x y z
tree_step (layer.Among x items) = Among x items.items
tree_step (layer.IsNull x) = IsNull x
tree_step (layer.And parts) = And (trees_of parts.items)
tree_step (layer.Or parts) = Or (trees_of parts.items)
tree_step (layer.Not part) = Not part.value
tree_step (layer.Test part t) = Test part.value t

unfoldable pub tree_of : Cond → CondTree
tree_of cond = fold-Cond CondTree tree_step cond

-- the truth of a tree on a row, by the same rules as that of a condition
abbrev mutual
  pub tree_truth : List Value → CondTree → Truth
  tree_truth row Always = Yes
  tree_truth row (Cmp op x y) = compare_values op (operand_value row x) (operand_value row y)
  tree_truth row (Between x y z) = between (operand_value row x) (operand_value row y)
      (operand_value row z)
  tree_truth row (Among x items) = in_list (operand_value row x) (map (operand_value row) items)
  tree_truth row (IsNull x) = truth_from (is_null (operand_value row x))
  tree_truth row (And parts) = all_of (tree_truths row parts)
  tree_truth row (Or parts) = any_of (tree_truths row parts)
  tree_truth row (Not part) = negation (tree_truth row part)
  tree_truth row (Test part t) = truth_from (is_truth (tree_truth row part) t)

  pub tree_truths : List Value → CondTrees → List Truth
  tree_truths row none = []
  tree_truths row (more part parts) = tree_truth row part ∷ tree_truths row parts

-- each column that a tree names is one of the first `columns`, by the same rules as for a condition
abbrev mutual
  pub tree_within : ℕ → CondTree → Bool
  tree_within columns Always = true
  tree_within columns (Cmp op x y) = is_within columns x && is_within columns y
  tree_within columns (Between x y z) = is_within columns x && is_within columns y
      && is_within columns z
  tree_within columns (Among x items) = is_within columns x && list_all (is_within columns) items
  tree_within columns (IsNull x) = is_within columns x
  tree_within columns (And parts) = trees_within columns parts
  tree_within columns (Or parts) = trees_within columns parts
  tree_within columns (Not part) = tree_within columns part
  tree_within columns (Test part t) = tree_within columns part

  pub trees_within : ℕ → CondTrees → Bool
  trees_within columns none = true
  trees_within columns (more part parts) = tree_within columns part && trees_within columns parts

-- the number of trees
abbrev pub count_of : CondTrees → ℕ
count_of none = zero
count_of (more part parts) = suc (count_of parts)

-- And and Or have two or more parts, and Among one or more items, by the same rules as for a
-- condition
abbrev mutual
  pub is_whole_tree : CondTree → Bool
  is_whole_tree Always = true
  is_whole_tree (Cmp op x y) = true
  is_whole_tree (Between x y z) = true
  is_whole_tree (Among x items) = nat_le 1 (length items)
  is_whole_tree (IsNull x) = true
  is_whole_tree (And parts) = nat_le 2 (count_of parts) && are_whole_trees parts
  is_whole_tree (Or parts) = nat_le 2 (count_of parts) && are_whole_trees parts
  is_whole_tree (Not part) = is_whole_tree part
  is_whole_tree (Test part t) = is_whole_tree part

  pub are_whole_trees : CondTrees → Bool
  are_whole_trees none = true
  are_whole_trees (more part parts) = is_whole_tree part && are_whole_trees parts
