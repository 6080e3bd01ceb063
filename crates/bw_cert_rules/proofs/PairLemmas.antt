-- The lines of each kind of condition.
use Rattle.std.proofs.Common.{◌≡◌, ◌∙◌, ℕ, List, [], ◌∷◌, map, Vec, Box, Global, sym, ap}
use Rattle.bw_model.specs.declared.column.Column.{Column}
use Rattle.bw_model.specs.declared.cond.Truth.{Truth}
use Rattle.bw_model.specs.declared.cond.Truth.TheVariants.{Yes}
use Rattle.bw_model.specs.declared.cond.Op.{Op}
use Rattle.bw_model.specs.declared.cond.Op.TheVariants.{Le, Ge}
use Rattle.bw_model.specs.declared.cond.Operand.{Operand}
use Rattle.bw_model.specs.declared.cond.Cond.{Cond, Cond-F, fold-roll-Cond, map-Cond, roll-Cond}
use Rattle.bw_model.specs.declared.cond.Cond.TheVariants.{Always, Cmp, Between, Among, IsNull, And}
use Rattle.bw_model.specs.declared.cond.Cond.TheVariants.{Or, Not, Test, rolls-Always, rolls-Cmp}
use Rattle.bw_model.specs.declared.cond.Cond.TheVariants.{rolls-Between, rolls-Among, rolls-IsNull}
use Rattle.bw_model.specs.declared.cond.Cond.TheVariants.{rolls-And, rolls-Or, rolls-Not}
use Rattle.bw_model.specs.declared.cond.Cond.TheVariants.{rolls-Test}
use Rattle.bw_model.specs.Fault.{◌>>=◌}
use Rattle.bw_diagram.specs.Facts.{Facts}
use Rattle.bw_cert_text.specs.declared.lines.BodyLine.{BodyLine}
use Rattle.bw_model.specs.declared.junction.Junction.TheVariants.{All, Any}
use Rattle.bw_cert_rules.specs.Comparison.{fixed_pair, comparison}
use Rattle.bw_cert_rules.specs.Pair.{Reading, by_line, is_null_test, negated_pair, tested_pair}
use Rattle.bw_cert_rules.specs.Pair.{joined_parts, equations, pair_step, pair_of}

module _ (columns : List Column) (facts : Facts) (end : ℕ) where
  by_layer : (cond : Cond) (layer : Cond-F Cond) (lines : List BodyLine) → roll-Cond layer ≡ cond → pair_of columns facts end cond lines ≡ pair_step columns facts end (map-Cond Cond (List BodyLine → Reading) (pair_of columns facts end) layer) lines
  unfolding pair_of
  by_layer cond layer lines rolls = ap (λ cond. pair_of columns facts end cond lines) (sym rolls) ∙ ap (λ reader. reader lines) (fold-roll-Cond (List BodyLine → Reading) (pair_step columns facts end) layer)

  pub pair_of-Always : (lines : List BodyLine) → pair_of columns facts end Always lines ≡ by_line end (fixed_pair Yes) lines
  pair_of-Always lines = by_layer Always Cond-F.Always lines rolls-Always

  pub pair_of-Cmp : (op : Op) (x y : Operand) (lines : List BodyLine) → pair_of columns facts end (Cmp op x y) lines ≡ by_line end (comparison columns facts op x y) lines
  pair_of-Cmp op x y lines = by_layer (Cmp op x y) (Cond-F.Cmp op x y) lines (rolls-Cmp op x y)

  pub pair_of-Between : (x y z : Operand) (lines : List BodyLine) → pair_of columns facts end (Between x y z) lines ≡ joined_parts columns facts end All (by_line end (comparison columns facts Ge x y) ∷ by_line end (comparison columns facts Le x z) ∷ []) lines
  pair_of-Between x y z lines = by_layer (Between x y z) (Cond-F.Between x y z) lines (rolls-Between x y z)

  pub pair_of-Among : (x : Operand) (items : Vec Operand Global) (lines : List BodyLine) → pair_of columns facts end (Among x items) lines ≡ joined_parts columns facts end Any (equations columns facts end x items.items) lines
  pair_of-Among x items lines = by_layer (Among x items) (Cond-F.Among x items) lines (rolls-Among x items)

  pub pair_of-IsNull : (x : Operand) (lines : List BodyLine) → pair_of columns facts end (IsNull x) lines ≡ by_line end (is_null_test columns facts x) lines
  pair_of-IsNull x lines = by_layer (IsNull x) (Cond-F.IsNull x) lines (rolls-IsNull x)

  pub pair_of-And : (parts : Vec Cond Global) (lines : List BodyLine) → pair_of columns facts end (And parts) lines ≡ joined_parts columns facts end All (map (pair_of columns facts end) parts.items) lines
  pair_of-And parts lines = by_layer (And parts) (Cond-F.And parts) lines (rolls-And parts)

  pub pair_of-Or : (parts : Vec Cond Global) (lines : List BodyLine) → pair_of columns facts end (Or parts) lines ≡ joined_parts columns facts end Any (map (pair_of columns facts end) parts.items) lines
  pair_of-Or parts lines = by_layer (Or parts) (Cond-F.Or parts) lines (rolls-Or parts)

  pub pair_of-Not : (part : Box Cond Global) (lines : List BodyLine) → pair_of columns facts end (Not part) lines ≡ (pair_of columns facts end part.value lines >>= λ read. by_line end (negated_pair read.0) read.1)
  pair_of-Not part lines = by_layer (Not part) (Cond-F.Not part) lines (rolls-Not part)

  pub pair_of-Test : (part : Box Cond Global) (t : Truth) (lines : List BodyLine) → pair_of columns facts end (Test part t) lines ≡ (pair_of columns facts end part.value lines >>= λ read. by_line end (tested_pair facts t read.0) read.1)
  pair_of-Test part t lines = by_layer (Test part t) (Cond-F.Test part t) lines (rolls-Test part t)

pub ruleset pairs = (pair_of-Always, pair_of-Cmp, pair_of-Between, pair_of-Among, pair_of-IsNull, pair_of-And, pair_of-Or, pair_of-Not, pair_of-Test)
