-- A comparison with a literal, as one of a code with a bound.
use Rattle.std.proofs.Common.{◌≡◌, refl, ap, ℕ, ℤ, pos, ◌+ℤ◌, ◌-ℤ◌, ◌<◌, Bool, true, false, not}
use Rattle.std.proofs.Common.{cond, arith, int_le, int_lt, unsigned_abs, ◌==◌, nat_lt, int_eq}
use Rattle.std.proofs.lemmas.Int.{ints}
use Rattle.bw_model.specs.declared.cond.Op.{Op}
use Rattle.bw_model.specs.declared.cond.Op.TheVariants.{Eq, Ne, Lt, Gt, Le, Ge}
use Rattle.bw_model.specs.Truth.{holds, swap_operands}
use Rattle.bw_diagram.specs.declared.chain.ChainKind.{ChainKind}
use Rattle.bw_diagram.specs.declared.chain.ChainKind.TheVariants.{Less, Equal}
use Rattle.bw_diagram.specs.Comparison.{literal_comparison}

-- less than, or equal to, of whole numbers
abbrev pub compares_to : ChainKind → ℤ → ℤ → Bool
compares_to Less x k = int_lt x k
compares_to Equal x k = int_eq x k

-- a bit, or its opposite
abbrev pub turned_bit : Bool → Bool → Bool
turned_bit negated bit = cond negated (not bit) bit

pub lt_low : (x : ℕ) (k : ℤ) → int_le k (pos 0) ≡ true → int_lt (pos x) k ≡ false
lt_low x k low = grind (arith, ints)

pub lt_high : (x w : ℕ) (k : ℤ) → x < w → int_le (pos w) k ≡ true → int_lt (pos x) k ≡ true
lt_high x w k below high = grind (arith, ints)

pub eq_low : (x : ℕ) (k : ℤ) → int_lt k (pos 0) ≡ true → int_eq (pos x) k ≡ false
eq_low x k low = grind (arith, ints)

pub eq_high : (x w : ℕ) (k : ℤ) → x < w → int_le (pos w) k ≡ true → int_eq (pos x) k ≡ false
eq_high x w k below high = grind (arith, ints)

pub lt_within : (x : ℕ) (k : ℤ) → int_le k (pos 0) ≡ false → nat_lt x (unsigned_abs k) ≡ int_lt (pos x) k
lt_within x k low = grind (arith, ints)

pub eq_within : (x : ℕ) (k : ℤ) → int_lt k (pos 0) ≡ false → (x == unsigned_abs k) ≡ int_eq (pos x) k
eq_within x k low = grind (arith, ints)

lt_moved : (lo x n : ℤ) → int_lt (lo +ℤ x) n ≡ int_lt x (n -ℤ lo)
lt_moved lo x n = grind (arith, ints)

le_moved : (lo x n : ℤ) → int_le (lo +ℤ x) n ≡ int_lt x ((n -ℤ lo) +ℤ pos 1)
le_moved lo x n = grind (arith, ints)

ge_moved : (lo x n : ℤ) → int_le n (lo +ℤ x) ≡ not (int_lt x (n -ℤ lo))
ge_moved lo x n = grind (arith, ints)

gt_moved : (lo x n : ℤ) → int_lt n (lo +ℤ x) ≡ not (int_lt x ((n -ℤ lo) +ℤ pos 1))
gt_moved lo x n = grind (arith, ints)

eq_moved : (lo x n : ℤ) → int_eq (lo +ℤ x) n ≡ int_eq x (n -ℤ lo)
eq_moved lo x n = grind (arith, ints)

-- what a comparison of a value with a literal says of the value's distance from any number
pub holds_moved : (op : Op) (lo x n : ℤ) → holds op (lo +ℤ x) n ≡ turned_bit (literal_comparison op (n -ℤ lo)).negated (compares_to (literal_comparison op (n -ℤ lo)).kind x (literal_comparison op (n -ℤ lo)).limit)
holds_moved Lt lo x n = lt_moved lo x n
holds_moved Ge lo x n = ge_moved lo x n
holds_moved Le lo x n = le_moved lo x n
holds_moved Gt lo x n = gt_moved lo x n
holds_moved Eq lo x n = eq_moved lo x n
holds_moved Ne lo x n = ap not (eq_moved lo x n)

eq_turned : (x y : ℤ) → int_eq x y ≡ int_eq y x
eq_turned x y = grind (arith, ints)

-- a comparison the other way round
pub holds_turned : (op : Op) (x y : ℤ) → holds (swap_operands op) x y ≡ holds op y x
holds_turned Eq x y = eq_turned x y
holds_turned Ne x y = ap not (eq_turned x y)
holds_turned _ x y = refl

-- comparisons of numbers at the same distance
pub lt_apart : (lo : ℤ) (x y : ℕ) → int_lt (lo +ℤ pos x) (lo +ℤ pos y) ≡ nat_lt x y
lt_apart lo x y = grind (arith, ints)

pub le_apart : (lo : ℤ) (x y : ℕ) → int_le (lo +ℤ pos x) (lo +ℤ pos y) ≡ not (nat_lt y x)
le_apart lo x y = grind (arith, ints)

pub eq_apart : (lo : ℤ) (x y : ℕ) → int_eq (lo +ℤ pos x) (lo +ℤ pos y) ≡ (x == y)
eq_apart lo x y = grind (arith, ints)

pub equal-lo : (x y : ℤ) → int_eq x y ≡ true → x ≡ y
equal-lo x y is = grind (arith, ints)
