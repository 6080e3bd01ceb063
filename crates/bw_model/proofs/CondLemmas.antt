-- The truth of each kind of condition, and the columns that it names.
use Rattle.std.proofs.Common.{◌≡◌, ◌∙◌, ℕ, Bool, true, ◌&&◌, List, map, Vec, Box, Global, sym, ap}
use Rattle.std.specs.List.{list_all}
use Rattle.std.proofs.lemmas.List.Folds.{list_all-map}
use Rattle.bw_model.specs.declared.cond.Truth.{Truth}
use Rattle.bw_model.specs.declared.cond.Truth.TheVariants.{Yes}
use Rattle.bw_model.specs.declared.cond.Op.{Op}
use Rattle.bw_model.specs.declared.cond.Operand.{Operand}
use Rattle.bw_model.specs.declared.cond.Cond.{Cond, Cond-F, fold-roll-Cond, roll-Cond}
use Rattle.bw_model.specs.declared.cond.Cond.TheFolds.{map-Cond}
use Rattle.bw_model.specs.declared.cond.Cond.TheVariants.{Always, Cmp, Between, Among, IsNull, And}
use Rattle.bw_model.specs.declared.cond.Cond.TheVariants.{Or, Not, Test, rolls-Always, rolls-Cmp}
use Rattle.bw_model.specs.declared.cond.Cond.TheVariants.{rolls-Between, rolls-Among, rolls-IsNull}
use Rattle.bw_model.specs.declared.cond.Cond.TheVariants.{rolls-And, rolls-Or, rolls-Not}
use Rattle.bw_model.specs.declared.cond.Cond.TheVariants.{rolls-Test}
use Rattle.bw_model.specs.Row.{Value}
use Rattle.bw_model.specs.Truth.{truth_from, all_of, any_of, negation, is_truth, compare_values}
use Rattle.bw_model.specs.Truth.{between, in_list, is_null}
use Rattle.bw_model.specs.Cond.{truth_of, truth_step, names_within, within_step, operand_value}
use Rattle.bw_model.specs.Cond.{is_within}

-- a condition's truth is made of its parts' by its outermost layer, and so are the names
truth_folded : (row : List Value) (layer : Cond-F Cond) {cond : Cond} → roll-Cond layer ≡ cond → truth_of row cond ≡ truth_step row (map-Cond Cond Truth (truth_of row) layer)
unfolding truth_of
truth_folded row layer is = ap (truth_of row) (sym is) ∙ fold-roll-Cond Truth (truth_step row) layer

names_folded : (columns : ℕ) (layer : Cond-F Cond) {cond : Cond} → roll-Cond layer ≡ cond → names_within columns cond ≡ within_step columns (map-Cond Cond Bool (names_within columns) layer)
unfolding names_within
names_folded columns layer is = ap (names_within columns) (sym is) ∙ fold-roll-Cond Bool (within_step columns) layer

pub truth_of-Always : (row : List Value) → truth_of row Always ≡ Yes
truth_of-Always row = truth_folded row Cond-F.Always rolls-Always

pub truth_of-Cmp : (row : List Value) (op : Op) (x y : Operand) → truth_of row (Cmp op x y) ≡ compare_values op (operand_value row x) (operand_value row y)
truth_of-Cmp row op x y = truth_folded row (Cond-F.Cmp op x y) (rolls-Cmp op x y)

pub truth_of-Between : (row : List Value) (x y z : Operand) → truth_of row (Between x y z) ≡ between (operand_value row x) (operand_value row y) (operand_value row z)
truth_of-Between row x y z = truth_folded row (Cond-F.Between x y z) (rolls-Between x y z)

pub truth_of-Among : (row : List Value) (x : Operand) (items : Vec Operand Global) → truth_of row (Among x items) ≡ in_list (operand_value row x) (map (operand_value row) items.items)
truth_of-Among row x items = truth_folded row (Cond-F.Among x items) (rolls-Among x items)

pub truth_of-IsNull : (row : List Value) (x : Operand) → truth_of row (IsNull x) ≡ truth_from (is_null (operand_value row x))
truth_of-IsNull row x = truth_folded row (Cond-F.IsNull x) (rolls-IsNull x)

pub truth_of-And : (row : List Value) (parts : Vec Cond Global) → truth_of row (And parts) ≡ all_of (map (truth_of row) parts.items)
truth_of-And row parts = truth_folded row (Cond-F.And parts) (rolls-And parts)

pub truth_of-Or : (row : List Value) (parts : Vec Cond Global) → truth_of row (Or parts) ≡ any_of (map (truth_of row) parts.items)
truth_of-Or row parts = truth_folded row (Cond-F.Or parts) (rolls-Or parts)

pub truth_of-Not : (row : List Value) (part : Box Cond Global) → truth_of row (Not part) ≡ negation (truth_of row part.value)
truth_of-Not row part = truth_folded row (Cond-F.Not part) (rolls-Not part)

pub truth_of-Test : (row : List Value) (part : Box Cond Global) (t : Truth) → truth_of row (Test part t) ≡ truth_from (is_truth (truth_of row part.value) t)
truth_of-Test row part t = truth_folded row (Cond-F.Test part t) (rolls-Test part t)

pub names_within-Always : (columns : ℕ) → names_within columns Always ≡ true
names_within-Always columns = names_folded columns Cond-F.Always rolls-Always

pub names_within-Cmp : (columns : ℕ) (op : Op) (x y : Operand) → names_within columns (Cmp op x y) ≡ (is_within columns x && is_within columns y)
names_within-Cmp columns op x y = names_folded columns (Cond-F.Cmp op x y) (rolls-Cmp op x y)

pub names_within-Between : (columns : ℕ) (x y z : Operand) → names_within columns (Between x y z) ≡ (is_within columns x && is_within columns y && is_within columns z)
names_within-Between columns x y z = names_folded columns (Cond-F.Between x y z) (rolls-Between x y z)

pub names_within-Among : (columns : ℕ) (x : Operand) (items : Vec Operand Global) → names_within columns (Among x items) ≡ (is_within columns x && list_all (is_within columns) items.items)
names_within-Among columns x items = names_folded columns (Cond-F.Among x items) (rolls-Among x items)

pub names_within-IsNull : (columns : ℕ) (x : Operand) → names_within columns (IsNull x) ≡ is_within columns x
names_within-IsNull columns x = names_folded columns (Cond-F.IsNull x) (rolls-IsNull x)

pub names_within-And : (columns : ℕ) (parts : Vec Cond Global) → names_within columns (And parts) ≡ list_all (names_within columns) parts.items
names_within-And columns parts = names_folded columns (Cond-F.And parts) (rolls-And parts) ∙ list_all-map _ (names_within columns) parts.items

pub names_within-Or : (columns : ℕ) (parts : Vec Cond Global) → names_within columns (Or parts) ≡ list_all (names_within columns) parts.items
names_within-Or columns parts = names_folded columns (Cond-F.Or parts) (rolls-Or parts) ∙ list_all-map _ (names_within columns) parts.items

pub names_within-Not : (columns : ℕ) (part : Box Cond Global) → names_within columns (Not part) ≡ names_within columns part.value
names_within-Not columns part = names_folded columns (Cond-F.Not part) (rolls-Not part)

pub names_within-Test : (columns : ℕ) (part : Box Cond Global) (t : Truth) → names_within columns (Test part t) ≡ names_within columns part.value
names_within-Test columns part t = names_folded columns (Cond-F.Test part t) (rolls-Test part t)

pub ruleset truths = (truth_of-Always, truth_of-Cmp, truth_of-Between, truth_of-Among, truth_of-IsNull, truth_of-And, truth_of-Or, truth_of-Not, truth_of-Test)

pub ruleset names = (names_within-Always, names_within-Cmp, names_within-Between, names_within-Among, names_within-IsNull, names_within-And, names_within-Or, names_within-Not, names_within-Test)
