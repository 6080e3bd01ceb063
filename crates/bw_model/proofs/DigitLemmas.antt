-- Binary digits of numbers between two powers of 2.
use Rattle.std.proofs.Common.{◌≡◌, ℕ, zero, suc, ◌+◌, ◌*◌, ◌/◌, ◌^◌, ◌<◌, ◌≤◌, max, length, arith}
use Rattle.std.proofs.Common.{ap, ◌∙◌, add-one, ℤ, pos, ◌-ℤ◌, ◌≤ℤ◌, ◌<ℤ◌, unsigned_abs, List, [], ◌∷◌}
use Rattle.std.proofs.Math.Nat.{pow-succ'}
use Rattle.std.proofs.Math.Pow.{pow_mono}
use Rattle.std.proofs.lemmas.Int.{ints}
use Rattle.std.proofs.lemmas.Nat.{pow_pos}
use Rattle.std.specs.Int.Digits.{digits_of}
use Rattle.bw_model.specs.declared.column.Column.{Column}
use Rattle.bw_model.specs.Code.{span_of, width_of, width_at}
use Rattle.std.proofs.lemmas.Int.Digits.{length-digits_of-le, length-digits_of_step}

-- a number that is at least a power of 2 has more digits than its exponent
digits_above : (k n : ℕ) → 2 ^ k ≤ n → suc k ≤ length (digits_of 2 n)
digits_above zero n le = omega (arith, length-digits_of_step 2 n (omega arith) (omega arith))
digits_above (suc k) n le =
    let twice = pow-succ' 2 k in
    let some : 0 < n = omega (arith, pow_pos k) in
    omega (arith, length-digits_of_step 2 n (omega arith) some, digits_above k (n / 2) (omega arith))

pub length_digits_between : (k n : ℕ) → 2 ^ k ≤ n → n < 2 * 2 ^ k → max 1 (length (digits_of 2 n)) ≡ k + 1
length_digits_between k n low high =
    omega (arith, digits_above k n low, length-digits_of-le 2 (suc k) n (omega arith) (omega arith))

digits_below : (fuel n : ℕ) → n ≤ fuel → n < 2 ^ length (digits_of 2 n)
digits_below fuel zero le = pow_pos (length (digits_of 2 0))
digits_below zero (suc n) le = absurd (omega arith)
digits_below (suc fuel) (suc n) le =
    let half = digits_below fuel (suc n / 2) (omega arith) in
    let more = length-digits_of_step 2 (suc n) (omega arith) (omega arith) in
    let twice : 2 ^ length (digits_of 2 (suc n)) ≡ 2 * 2 ^ length (digits_of 2 (suc n / 2)) = ap (λ k. 2 ^ k) (more ∙ add-one _) ∙ pow-succ' 2 (length (digits_of 2 (suc n / 2))) in
    omega arith

-- a code has at most as many digits as its column's greatest code
pub below_width : (column : Column) (code : ℕ) → code ≤ span_of column → code < 2 ^ width_of column
unfolding width_of
below_width column code le =
    let below = digits_below (span_of column) (span_of column) (omega arith) in
    let mono = pow_mono {i = length (digits_of 2 (span_of column))} {j = max 1 (length (digits_of 2 (span_of column)))} (omega arith) in
    omega arith

-- a code has at most 63 binary digits
distance_small : (lo hi : ℤ) → lo ≤ℤ hi → (hi -ℤ lo) <ℤ pos (2 ^ 63) → unsigned_abs (hi -ℤ lo) < 2 ^ 63
distance_small lo hi ordered narrow = grind (arith, ints)

pub width_of-le : (column : Column) → width_of column ≤ 63
unfolding width_of
width_of-le column =
    omega (arith, length-digits_of-le 2 63 (span_of column) (omega arith) (distance_small column.lo column.hi column.ordered column.narrow))

pub width_at-le : (columns : List Column) (column : ℕ) → width_at columns column ≤ 63
width_at-le [] column = omega arith
width_at-le (first ∷ columns) zero = width_of-le first
width_at-le (first ∷ columns) (suc column) = width_at-le columns column
