-- Conditions with the same tree are of the same kind.
use Rattle.std.proofs.Common.{◌≡◌, ◌∙◌, refl, sym, ap, ap₂, ℕ, List, [], ◌∷◌, Vec, Box, Global, arith}
use Rattle.bw_model.specs.declared.cond.Truth.{Truth}
use Rattle.bw_model.specs.declared.cond.Op.{Op}
use Rattle.bw_model.specs.declared.cond.Operand.{Operand}
use Rattle.bw_model.specs.declared.cond.Cond.{Cond, Cond-F, fold-roll-Cond, roll-Cond, ind-Cond}
use Rattle.bw_model.specs.declared.cond.Cond.TheFolds.{map-Cond}
use Rattle.bw_model.specs.declared.cond.Cond.TheVariants.{Always, Cmp, Between, Among, IsNull, And}
use Rattle.bw_model.specs.declared.cond.Cond.TheVariants.{Or, Not, Test, rolls-Always, rolls-Cmp}
use Rattle.bw_model.specs.declared.cond.Cond.TheVariants.{rolls-Between, rolls-Among, rolls-IsNull}
use Rattle.bw_model.specs.declared.cond.Cond.TheVariants.{rolls-And, rolls-Or, rolls-Not}
use Rattle.bw_model.specs.declared.cond.Cond.TheVariants.{rolls-Test}
use Rattle.bw_model.specs.CondTree.{CondTree, CondTrees, count_of, tree_of, tree_step, trees_of}
use Rattle.bw_model.specs.CondTree as shape

-- the number of a tree's kind, and of a condition's outermost layer
abbrev pub tree_kind : CondTree → ℕ
tree_kind shape.Always = 0
tree_kind (shape.Cmp op x y) = 1
tree_kind (shape.Between x y z) = 2
tree_kind (shape.Among x items) = 3
tree_kind (shape.IsNull x) = 4
tree_kind (shape.And parts) = 5
tree_kind (shape.Or parts) = 6
tree_kind (shape.Not part) = 7
tree_kind (shape.Test part t) = 8

abbrev layer_kind : Cond-F Cond → ℕ
layer_kind layer = tree_kind (tree_step (map-Cond Cond CondTree tree_of layer))

of_layer : (layer : Cond-F Cond) → tree_kind (tree_of (roll-Cond layer)) ≡ layer_kind layer
unfolding tree_of
of_layer layer = ap tree_kind (fold-roll-Cond CondTree tree_step layer)

-- no layer of a condition is of a kind
abbrev HasNot : ℕ → Cond → Type 0
HasNot k cond = (layer : Cond-F Cond) → cond ≡ roll-Cond layer → layer_kind layer ≡ k → ⊥

unlike : (k : ℕ) (cond : Cond) → HasNot k cond → tree_kind (tree_of cond) ≡ k → ⊥
unlike k = ind-Cond (λ cond. HasNot k cond → tree_kind (tree_of cond) ≡ k → ⊥) (λ x y is none kind. none x refl (sym (of_layer x) ∙ kind))

pub not_always : (cond : Cond) → (cond ≡ Always → ⊥) → tree_kind (tree_of cond) ≡ 0 → ⊥
not_always cond none = unlike 0 cond by
  where
    by : HasNot 0 cond
    by Cond-F.Always is kind = none (is ∙ rolls-Always)
    by _ is kind = omega (arith, kind)

pub not_cmp : (cond : Cond) → ((op : Op) (x y : Operand) → cond ≡ Cmp op x y → ⊥) → tree_kind (tree_of cond) ≡ 1 → ⊥
not_cmp cond none = unlike 1 cond by
  where
    by : HasNot 1 cond
    by (Cond-F.Cmp op x y) is kind = none op x y (is ∙ rolls-Cmp op x y)
    by _ is kind = omega (arith, kind)

pub not_between : (cond : Cond) → ((x y z : Operand) → cond ≡ Between x y z → ⊥) → tree_kind (tree_of cond) ≡ 2 → ⊥
not_between cond none = unlike 2 cond by
  where
    by : HasNot 2 cond
    by (Cond-F.Between x y z) is kind = none x y z (is ∙ rolls-Between x y z)
    by _ is kind = omega (arith, kind)

pub not_among : (cond : Cond) → ((x : Operand) (items : Vec Operand Global) → cond ≡ Among x items → ⊥) → tree_kind (tree_of cond) ≡ 3 → ⊥
not_among cond none = unlike 3 cond by
  where
    by : HasNot 3 cond
    by (Cond-F.Among x items) is kind = none x items (is ∙ rolls-Among x items)
    by _ is kind = omega (arith, kind)

pub not_is_null : (cond : Cond) → ((x : Operand) → cond ≡ IsNull x → ⊥) → tree_kind (tree_of cond) ≡ 4 → ⊥
not_is_null cond none = unlike 4 cond by
  where
    by : HasNot 4 cond
    by (Cond-F.IsNull x) is kind = none x (is ∙ rolls-IsNull x)
    by _ is kind = omega (arith, kind)

pub not_and : (cond : Cond) → ((parts : Vec Cond Global) → cond ≡ And parts → ⊥) → tree_kind (tree_of cond) ≡ 5 → ⊥
not_and cond none = unlike 5 cond by
  where
    by : HasNot 5 cond
    by (Cond-F.And parts) is kind = none parts (is ∙ rolls-And parts)
    by _ is kind = omega (arith, kind)

pub not_or : (cond : Cond) → ((parts : Vec Cond Global) → cond ≡ Or parts → ⊥) → tree_kind (tree_of cond) ≡ 6 → ⊥
not_or cond none = unlike 6 cond by
  where
    by : HasNot 6 cond
    by (Cond-F.Or parts) is kind = none parts (is ∙ rolls-Or parts)
    by _ is kind = omega (arith, kind)

pub not_not : (cond : Cond) → ((part : Box Cond Global) → cond ≡ Not part → ⊥) → tree_kind (tree_of cond) ≡ 7 → ⊥
not_not cond none = unlike 7 cond by
  where
    by : HasNot 7 cond
    by (Cond-F.Not part) is kind = none part (is ∙ rolls-Not part)
    by _ is kind = omega (arith, kind)

pub not_test : (cond : Cond) → ((part : Box Cond Global) (t : Truth) → cond ≡ Test part t → ⊥) → tree_kind (tree_of cond) ≡ 8 → ⊥
not_test cond none = unlike 8 cond by
  where
    by : HasNot 8 cond
    by (Cond-F.Test part t) is kind = none part t (is ∙ rolls-Test part t)
    by _ is kind = omega (arith, kind)

-- equal trees of parts are those of equal lists
trees_same : (xs ys : List CondTree) → trees_of xs ≡ trees_of ys → xs ≡ ys
trees_same [] [] is = refl
trees_same (x ∷ xs) (y ∷ ys) is = ap₂ (λ t ts. t ∷ ts) (cc is) (trees_same xs ys (cc is))
trees_same _ _ is = absurd (omega (arith, ap count_of is))

abbrev parts_of : CondTree → CondTrees
parts_of (shape.And parts) = parts
parts_of (shape.Or parts) = parts
parts_of _ = shape.none

pub parts_same : (P : CondTrees → CondTree) (xs ys : List CondTree) → ((parts : CondTrees) → parts_of (P parts) ≡ parts) → P (trees_of xs) ≡ P (trees_of ys) → xs ≡ ys
parts_same P xs ys keeps is = trees_same xs ys (sym (keeps (trees_of xs)) ∙ ap parts_of is ∙ keeps (trees_of ys))
