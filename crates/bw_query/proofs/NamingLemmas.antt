-- The columns that each kind of condition names.
use Rattle.std.proofs.Common.{◌≡◌, ◌∙◌, refl, sym, ap, ℕ, zero, suc, Bool, ◌||◌, List, [], ◌∷◌, map, drop, Option, Some, Vec, Box, Global, false}
use Rattle.std.specs.Prelude.{slice_get}
use Rattle.std.specs.List.{list_any}
use Rattle.bw_model.specs.declared.cond.Truth.{Truth}
use Rattle.bw_model.specs.declared.cond.Op.{Op}
use Rattle.bw_model.specs.declared.cond.Operand.{Operand}
use Rattle.bw_model.specs.declared.cond.Cond.{Cond, Cond-F, fold-roll-Cond, roll-Cond}
use Rattle.bw_model.specs.declared.cond.Cond.TheFolds.{map-Cond}
use Rattle.bw_model.specs.declared.cond.Cond.TheVariants.{Always, Cmp, Between, Among, IsNull, And}
use Rattle.bw_model.specs.declared.cond.Cond.TheVariants.{Or, Not, Test, rolls-Always, rolls-Cmp}
use Rattle.bw_model.specs.declared.cond.Cond.TheVariants.{rolls-Between, rolls-Among, rolls-IsNull}
use Rattle.bw_model.specs.declared.cond.Cond.TheVariants.{rolls-And, rolls-Or, rolls-Not}
use Rattle.bw_model.specs.declared.cond.Cond.TheVariants.{rolls-Test}
use Rattle.bw_query.specs.NamedColumns.{cond_names, names_step, operand_names}

any-map : (names : Cond → Bool) (parts : List Cond) → list_any (λ part. part) (map names parts) ≡ list_any names parts
any-map names [] = refl
any-map names (part ∷ parts) = ap (λ b. names part || b) (any-map names parts)

-- what a condition names is what its outermost layer names
folded : (column : ℕ) (layer : Cond-F Cond) {cond : Cond} → roll-Cond layer ≡ cond → cond_names column cond ≡ names_step column (map-Cond Cond Bool (cond_names column) layer)
unfolding cond_names
folded column layer is = ap (cond_names column) (sym is) ∙ fold-roll-Cond Bool (names_step column) layer

pub names-Always : (column : ℕ) → cond_names column Always ≡ false
names-Always column = folded column Cond-F.Always rolls-Always

pub names-Cmp : (column : ℕ) (op : Op) (x y : Operand) → cond_names column (Cmp op x y) ≡ (operand_names column x || operand_names column y)
names-Cmp column op x y = folded column (Cond-F.Cmp op x y) (rolls-Cmp op x y)

pub names-Between : (column : ℕ) (x y z : Operand) → cond_names column (Between x y z) ≡ (operand_names column x || operand_names column y || operand_names column z)
names-Between column x y z = folded column (Cond-F.Between x y z) (rolls-Between x y z)

pub names-Among : (column : ℕ) (x : Operand) (items : Vec Operand Global) → cond_names column (Among x items) ≡ (operand_names column x || list_any (operand_names column) items.items)
names-Among column x items = folded column (Cond-F.Among x items) (rolls-Among x items)

pub names-IsNull : (column : ℕ) (x : Operand) → cond_names column (IsNull x) ≡ operand_names column x
names-IsNull column x = folded column (Cond-F.IsNull x) (rolls-IsNull x)

pub names-And : (column : ℕ) (parts : Vec Cond Global) → cond_names column (And parts) ≡ list_any (cond_names column) parts.items
names-And column parts = folded column (Cond-F.And parts) (rolls-And parts) ∙ any-map (cond_names column) parts.items

pub names-Or : (column : ℕ) (parts : Vec Cond Global) → cond_names column (Or parts) ≡ list_any (cond_names column) parts.items
names-Or column parts = folded column (Cond-F.Or parts) (rolls-Or parts) ∙ any-map (cond_names column) parts.items

pub names-Not : (column : ℕ) (part : Box Cond Global) → cond_names column (Not part) ≡ cond_names column part.value
names-Not column part = folded column (Cond-F.Not part) (rolls-Not part)

pub names-Test : (column : ℕ) (part : Box Cond Global) (t : Truth) → cond_names column (Test part t) ≡ cond_names column part.value
names-Test column part t = folded column (Cond-F.Test part t) (rolls-Test part t)

-- the items from one of a number on
pub any_at : {A : Type 0} (names : A → Bool) (xs : List A) (number : ℕ) (x : A) → slice_get xs number ≡ Some x → list_any names (drop number xs) ≡ (names x || list_any names (drop (suc number) xs))
any_at names [] number x is = absurd cc
any_at names (y ∷ xs) zero x is = ap (λ z. names z || list_any names xs) (some_is y x is)
  where
    some_is : {A : Type 0} (y x : A) → ◌≡◌ {A = Option A} (Some y) (Some x) → y ≡ x
    some_is y x e = cc
any_at names (y ∷ xs) (suc number) x is = any_at names xs number x is

pub ruleset names = (names-Always, names-Cmp, names-Between, names-Among, names-IsNull, names-And, names-Or, names-Not, names-Test)
