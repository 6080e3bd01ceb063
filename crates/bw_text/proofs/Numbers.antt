-- Decimal digits, one more at a time.
use Rattle.std.proofs.Common.{◌≡◌, ◌∙◌, ap, sym, ℕ, suc, ◌+◌, ◌-◌, ◌*◌, ◌^◌, ◌<◌, ◌≤◌, List, []}
use Rattle.std.proofs.Common.{◌∷◌, ◌++◌, fold, length, take, drop, min, get_or, refl, arith, ℤ, pos}
use Rattle.std.proofs.Common.{◌-ℤ◌, cond, true, false, Option, Some, None, FitsSigned, w64, leb}
use Rattle.std.proofs.Common.{ltb, take-append-drop, SomeIff}
use Rattle.std.proofs.lemmas.List.Sums.{fold_more, fold-append}
use Rattle.std.proofs.lemmas.Int.{ints}
use Rattle.std.proofs.Math.Nat.{pow-le-pow_right, pow-succ'}
use Rattle.std.proofs.lemmas.Bool.{le-leb, lt-leb, lt-ltb, le-ltb}
use Rattle.bw_text.specs.Number.{digits_value, where_64_bits_hold}

pub decimal-nothing : 0 ≡ min (digits_value []) (2 ^ 64 - 1)
unfolding digits_value
decimal-nothing = refl

pub decimal_more : (digits : List ℕ) (i : ℕ) → i < length digits → digits_value (take (i + 1) digits) ≡ 10 * digits_value (take i digits) + (get_or digits i 0 - 48)
unfolding digits_value
decimal_more digits i h = fold_more (λ n digit. 10 * n + (digit - 48)) 0 digits i 0 h

-- a number that is cut at the greatest of 64 bits takes one more digit
pub cut_more : (n m u : ℕ) → m ≡ min n (2 ^ 64 - 1) → min (min (m * 10) (2 ^ 64 - 1) + u) (2 ^ 64 - 1) ≡ min (10 * n + u) (2 ^ 64 - 1)
cut_more n m u e = omega arith

pub one_more : (n m u : ℕ) → m ≡ min n (2 ^ 64 - 1) → min (10 * m + u) (2 ^ 64 - 1) ≡ min (10 * n + u) (2 ^ 64 - 1)
one_more n m u e = omega arith

-- a number that is cut at the greatest of 64 bits has a sign and fits if and only if the number
-- does
pub negative_is : (r : Option ℤ) (m n : ℕ) → m ≡ min n (2 ^ 64 - 1) → SomeIff r (FitsSigned w64 (pos 0 -ℤ pos m)) (pos 0 -ℤ pos m)
    → r ≡ cond (leb n (2 ^ 63)) (Some (pos 0 -ℤ pos n)) None
negative_is None m n e h = let over : leb n (2 ^ 63) ≡ false = lt-leb _ _ (grind (arith, ints)) in rw over refl
negative_is (Some v) m n e h =
    let within : leb n (2 ^ 63) ≡ true = le-leb _ _ (omega (arith, ints, h.0)) in
    let same : v ≡ pos 0 -ℤ pos n = omega (arith, ints, h.0, h.1) in
    rw (within, same) refl

pub positive_is : (r : Option ℤ) (m n : ℕ) → m ≡ min n (2 ^ 64 - 1) → SomeIff r (FitsSigned w64 (pos (0 + m))) (pos (0 + m))
    → r ≡ cond (ltb n (2 ^ 63)) (Some (pos n)) None
positive_is None m n e h = let over : ltb n (2 ^ 63) ≡ false = le-ltb _ _ (grind (arith, ints)) in rw over refl
positive_is (Some v) m n e h =
    let within : ltb n (2 ^ 63) ≡ true = lt-ltb _ _ (omega (arith, ints, h.0)) in
    let same : v ≡ pos n = omega (arith, ints, h.0, h.1) in
    rw (within, same) refl

-- more digits spell no less
fold_grows : (n : ℕ) (digits : List ℕ) → n ≤ fold (λ n digit. 10 * n + (digit - 48)) n digits
fold_grows n [] = omega arith
fold_grows n (digit ∷ digits) = omega (arith, fold_grows (10 * n + (digit - 48)) digits)

decimal_of_front : (digits : List ℕ) (i : ℕ) → digits_value (take i digits) ≤ digits_value digits
unfolding digits_value
decimal_of_front digits i =
    let step : ℕ → ℕ → ℕ = λ n digit. 10 * n + (digit - 48) in
    let whole : fold step 0 (take i digits ++ drop i digits) ≡ fold step (fold step 0 (take i digits)) (drop i digits) = fold-append step 0 (take i digits) (drop i digits) in
    let same : take i digits ++ drop i digits ≡ digits = take-append-drop i digits in
    let all : fold step 0 digits ≡ fold step (fold step 0 (take i digits)) (drop i digits) = ap (fold step 0) (sym same) ∙ whole in
    omega (arith, fold_grows (fold step 0 (take i digits)) (drop i digits))

-- if the digits so far and one more spell too much, all do
pub too_much : (digits : List ℕ) (i n : ℕ) → i < length digits → n ≡ digits_value (take i digits) → 2 ^ 64 ≤ 10 * n + (get_or digits i 0 - 48) → None ≡ where_64_bits_hold (digits_value digits)
too_much digits i n lt is over =
    let past : ltb (digits_value digits) (2 ^ 64) ≡ false = le-ltb _ _ (omega (arith, decimal_more digits i lt, decimal_of_front digits (i + 1))) in
    rw past refl

pub enough : (n : ℕ) → n < 2 ^ 64 → Some n ≡ where_64_bits_hold n
enough n lt = let within : ltb n (2 ^ 64) ≡ true = lt-ltb _ _ lt in rw within refl

-- this many digits spell less than the power of ten with this many zeros
pub one_zero_more : (i n u : ℕ) → n < 10 ^ i → u < 10 → 10 * n + u < 10 ^ (i + 1)
one_zero_more i n u below digit =
    let next : i + 1 ≡ suc i = omega arith in
    let tenfold : 10 ^ (i + 1) ≡ 10 * 10 ^ i = ap (λ (k : ℕ). 10 ^ k) next ∙ pow-succ' 10 i in
    omega arith

pub few_zeros : (i n : ℕ) → i ≤ 18 → n < 10 ^ i → n < 10 ^ 18
few_zeros i n few below = let most : 10 ^ i ≤ 10 ^ 18 = pow-le-pow_right (omega arith) few in omega arith

pub zeros_before_last : (i n : ℕ) → i < 18 → n < 10 ^ i → n < 10 ^ 17
zeros_before_last i n few below =
    let place : i ≤ 17 = omega arith in
    let most : 10 ^ i ≤ 10 ^ 17 = pow-le-pow_right (omega arith) place in
    omega arith
