-- The tree of each kind of condition.
use Rattle.std.proofs.Common.{◌≡◌, ◌∙◌, map, Vec, Box, Global, sym, ap}
use Rattle.bw_model.specs.declared.cond.Truth.{Truth}
use Rattle.bw_model.specs.declared.cond.Op.{Op}
use Rattle.bw_model.specs.declared.cond.Operand.{Operand}
use Rattle.bw_model.specs.declared.cond.Cond.{Cond, Cond-F, fold-roll-Cond}
use Rattle.bw_model.specs.declared.cond.Cond.TheVariants.{Always, Cmp, Between, Among, IsNull, And}
use Rattle.bw_model.specs.declared.cond.Cond.TheVariants.{Or, Not, Test, rolls-Always, rolls-Cmp}
use Rattle.bw_model.specs.declared.cond.Cond.TheVariants.{rolls-Between, rolls-Among, rolls-IsNull}
use Rattle.bw_model.specs.declared.cond.Cond.TheVariants.{rolls-And, rolls-Or, rolls-Not}
use Rattle.bw_model.specs.declared.cond.Cond.TheVariants.{rolls-Test}
use Rattle.bw_model.specs.CondTree.{CondTree, trees_of, tree_step, tree_of}
use Rattle.bw_model.specs.CondTree as shape

pub tree_of-Always : tree_of Always ≡ shape.Always
unfolding tree_of
tree_of-Always = ap tree_of (sym rolls-Always) ∙ fold-roll-Cond CondTree tree_step Cond-F.Always

pub tree_of-Cmp : (op : Op) (x y : Operand) → tree_of (Cmp op x y) ≡ shape.Cmp op x y
unfolding tree_of
tree_of-Cmp op x y = ap tree_of (sym (rolls-Cmp op x y)) ∙ fold-roll-Cond CondTree tree_step (Cond-F.Cmp op x y)

pub tree_of-Between : (x y z : Operand) → tree_of (Between x y z) ≡ shape.Between x y z
unfolding tree_of
tree_of-Between x y z = ap tree_of (sym (rolls-Between x y z)) ∙ fold-roll-Cond CondTree tree_step (Cond-F.Between x y z)

pub tree_of-Among : (x : Operand) (items : Vec Operand Global) → tree_of (Among x items) ≡ shape.Among x items.items
unfolding tree_of
tree_of-Among x items = ap tree_of (sym (rolls-Among x items)) ∙ fold-roll-Cond CondTree tree_step (Cond-F.Among x items)

pub tree_of-IsNull : (x : Operand) → tree_of (IsNull x) ≡ shape.IsNull x
unfolding tree_of
tree_of-IsNull x = ap tree_of (sym (rolls-IsNull x)) ∙ fold-roll-Cond CondTree tree_step (Cond-F.IsNull x)

pub tree_of-And : (parts : Vec Cond Global) → tree_of (And parts) ≡ shape.And (trees_of (map tree_of parts.items))
unfolding tree_of
tree_of-And parts = ap tree_of (sym (rolls-And parts)) ∙ fold-roll-Cond CondTree tree_step (Cond-F.And parts)

pub tree_of-Or : (parts : Vec Cond Global) → tree_of (Or parts) ≡ shape.Or (trees_of (map tree_of parts.items))
unfolding tree_of
tree_of-Or parts = ap tree_of (sym (rolls-Or parts)) ∙ fold-roll-Cond CondTree tree_step (Cond-F.Or parts)

pub tree_of-Not : (part : Box Cond Global) → tree_of (Not part) ≡ shape.Not (tree_of part.value)
unfolding tree_of
tree_of-Not part = ap tree_of (sym (rolls-Not part)) ∙ fold-roll-Cond CondTree tree_step (Cond-F.Not part)

pub tree_of-Test : (part : Box Cond Global) (t : Truth) → tree_of (Test part t) ≡ shape.Test (tree_of part.value) t
unfolding tree_of
tree_of-Test part t = ap tree_of (sym (rolls-Test part t)) ∙ fold-roll-Cond CondTree tree_step (Cond-F.Test part t)

pub ruleset trees = (tree_of-Always, tree_of-Cmp, tree_of-Between, tree_of-Among, tree_of-IsNull, tree_of-And, tree_of-Or, tree_of-Not, tree_of-Test)
