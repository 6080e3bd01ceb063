-- Whether each kind of condition has rules.
use Rattle.std.proofs.Common.{◌≡◌, ◌∙◌, Bool, true, ◌&&◌, nat_le, length, map, List, Vec, Box, Global, sym, ap, refl}
use Rattle.std.specs.List.{list_all}
use Rattle.std.proofs.lemmas.List.{length-map}
use Rattle.std.proofs.lemmas.List.Folds.{list_all-map}
use Rattle.bw_model.specs.declared.column.Column as stored
use Rattle.bw_model.specs.declared.cond.Truth.{Truth}
use Rattle.bw_model.specs.declared.cond.Op.{Op}
use Rattle.bw_model.specs.declared.cond.Op.TheVariants.{Eq, Le, Ge}
use Rattle.bw_model.specs.declared.cond.Operand.{Operand}
use Rattle.bw_model.specs.declared.cond.Cond.{Cond, Cond-F, fold-roll-Cond, roll-Cond}
use Rattle.bw_model.specs.declared.cond.Cond.TheFolds.{map-Cond}
use Rattle.bw_model.specs.declared.cond.Cond.TheVariants.{Always, Cmp, Between, Among, IsNull, And}
use Rattle.bw_model.specs.declared.cond.Cond.TheVariants.{Or, Not, Test, rolls-Always, rolls-Cmp}
use Rattle.bw_model.specs.declared.cond.Cond.TheVariants.{rolls-Between, rolls-Among, rolls-IsNull}
use Rattle.bw_model.specs.declared.cond.Cond.TheVariants.{rolls-And, rolls-Or, rolls-Not}
use Rattle.bw_model.specs.declared.cond.Cond.TheVariants.{rolls-Test}
use Rattle.bw_prover.specs.Rules.{has_rules, rules_step, is_comparable}

rules_folded : (columns : List stored.Column) (layer : Cond-F Cond) {cond : Cond} → roll-Cond layer ≡ cond → has_rules columns cond ≡ rules_step columns (map-Cond Cond Bool (has_rules columns) layer)
unfolding has_rules
rules_folded columns layer is = ap (has_rules columns) (sym is) ∙ fold-roll-Cond Bool (rules_step columns) layer

pub has_rules-Always : (columns : List stored.Column) → has_rules columns Always ≡ true
has_rules-Always columns = rules_folded columns Cond-F.Always rolls-Always

pub has_rules-Cmp : (columns : List stored.Column) (op : Op) (x y : Operand) → has_rules columns (Cmp op x y) ≡ is_comparable columns op x y
has_rules-Cmp columns op x y = rules_folded columns (Cond-F.Cmp op x y) (rolls-Cmp op x y)

pub has_rules-Between : (columns : List stored.Column) (x y z : Operand) → has_rules columns (Between x y z) ≡ (is_comparable columns Ge x y && is_comparable columns Le x z)
has_rules-Between columns x y z = rules_folded columns (Cond-F.Between x y z) (rolls-Between x y z)

pub has_rules-Among : (columns : List stored.Column) (x : Operand) (items : Vec Operand Global) → has_rules columns (Among x items) ≡ (nat_le 1 (length items.items) && list_all (is_comparable columns Eq x) items.items)
has_rules-Among columns x items = rules_folded columns (Cond-F.Among x items) (rolls-Among x items)

pub has_rules-IsNull : (columns : List stored.Column) (x : Operand) → has_rules columns (IsNull x) ≡ true
has_rules-IsNull columns x = rules_folded columns (Cond-F.IsNull x) (rolls-IsNull x)

parts_have : (columns : List stored.Column) (parts : List Cond) → (nat_le 1 (length (map (has_rules columns) parts)) && list_all (λ part. part) (map (has_rules columns) parts)) ≡ (nat_le 1 (length parts) && list_all (has_rules columns) parts)
parts_have columns parts = rw (length-map parts (has_rules columns), list_all-map (λ part. part) (has_rules columns) parts) refl

pub has_rules-And : (columns : List stored.Column) (parts : Vec Cond Global) → has_rules columns (And parts) ≡ (nat_le 1 (length parts.items) && list_all (has_rules columns) parts.items)
has_rules-And columns parts = rules_folded columns (Cond-F.And parts) (rolls-And parts) ∙ parts_have columns parts.items

pub has_rules-Or : (columns : List stored.Column) (parts : Vec Cond Global) → has_rules columns (Or parts) ≡ (nat_le 1 (length parts.items) && list_all (has_rules columns) parts.items)
has_rules-Or columns parts = rules_folded columns (Cond-F.Or parts) (rolls-Or parts) ∙ parts_have columns parts.items

pub has_rules-Not : (columns : List stored.Column) (part : Box Cond Global) → has_rules columns (Not part) ≡ has_rules columns part.value
has_rules-Not columns part = rules_folded columns (Cond-F.Not part) (rolls-Not part)

pub has_rules-Test : (columns : List stored.Column) (part : Box Cond Global) (t : Truth) → has_rules columns (Test part t) ≡ has_rules columns part.value
has_rules-Test columns part t = rules_folded columns (Cond-F.Test part t) (rolls-Test part t)

pub ruleset rules = (has_rules-Always, has_rules-Cmp, has_rules-Between, has_rules-Among, has_rules-IsNull, has_rules-And, has_rules-Or, has_rules-Not, has_rules-Test)
