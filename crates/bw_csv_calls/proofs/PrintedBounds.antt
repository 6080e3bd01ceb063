-- Bounds in decimal spell themselves.
use Rattle.std.proofs.Common.{◌≡◌, refl, ap, ◌-ℤ◌, ℕ, ℤ, pos, negsuc, FitsSigned, suc, ◌^◌, ◌<◌}
use Rattle.std.proofs.Common.{◌≤◌, true, List, [], ◌∷◌, length, Some, arith, w64}
use Rattle.std.specs.Char.{is_ascii_digit}
use Rattle.std.specs.Fmt.{decimal, signed_decimal}
use Rattle.std.specs.List.{list_all}
use Rattle.std.proofs.lemmas.Bool.{lt-ltb, le-leb, leb-true, ne_eqb}
use Rattle.std.proofs.lemmas.Fmt.{length-decimal-le}
use Rattle.std.proofs.lemmas.Int.{ints}
use Rattle.bw_text.specs.Number as number
use Rattle.bw_model.specs.SchemaText.{bound_of}
use Rattle.bw_model.proofs.BitsLemmas.{both}
use Rattle.bw_text.proofs.DecimalLemmas.{Spells, decimal_spells, plain_digits, plain_number}
use Rattle.bw_text.specs.Printing.{is_plain_word}

-- a bound without a sign begins with a digit, and with one it doesn't
positive_spells : (n : ℕ) (digits : List ℕ) → n < 2 ^ 63 → Spells n digits → bound_of digits ≡ Some (pos n)
unfolding bound_of number.number_of
positive_spells n [] lt spells = absurd (omega (arith, spells.nonempty))
positive_spells n (d ∷ digits) lt spells =
    let here = both (is_ascii_digit d) (list_all is_ascii_digit digits) spells.all in
    let low = both _ _ here.0 in
    let above : 48 ≤ d = leb-true 48 d low.0 in
    rw (ne_eqb d 45 (λ e. absurd (omega arith)), spells.all, spells.value, lt-ltb n (2 ^ 63) lt) refl

below_zero : (n : ℕ) → pos 0 -ℤ pos (suc n) ≡ negsuc n
below_zero n = omega (arith, ints)

negative_spells : (n : ℕ) (digits : List ℕ) → suc n ≤ 2 ^ 63 → Spells (suc n) digits → bound_of (45 ∷ digits) ≡ Some (negsuc n)
unfolding bound_of number.number_of
negative_spells n [] le spells = absurd (omega (arith, spells.nonempty))
negative_spells n (d ∷ digits) le spells = rw (spells.all, spells.value, le-leb (suc n) (2 ^ 63) le) (ap Some (below_zero n))

pub bound_spelled : (z : ℤ) → FitsSigned w64 z → bound_of (signed_decimal z) ≡ Some z
bound_spelled (pos n) fits = let lt : n < 2 ^ 63 = omega (arith, ints) in positive_spells n (decimal n) lt (decimal_spells n (omega arith))
bound_spelled (negsuc n) fits = let le : suc n ≤ 2 ^ 63 = omega (arith, ints) in negative_spells n (decimal (suc n)) le (decimal_spells (suc n) (omega arith))

pub bound_plain : (z : ℤ) → FitsSigned w64 z → is_plain_word (signed_decimal z) ≡ true
bound_plain (pos n) fits = let lt : n < 2 ^ 63 = omega (arith, ints) in plain_number n (omega arith)
bound_plain (negsuc n) fits = let le : suc n ≤ 2 ^ 63 = omega (arith, ints) in plain_digits (decimal (suc n)) (decimal_spells (suc n) (omega arith)).all

pub bound_length : (z : ℤ) → FitsSigned w64 z → length (signed_decimal z) ≤ 20
bound_length (pos n) fits = let lt : n < 2 ^ 63 = omega (arith, ints) in omega (arith, length-decimal-le 19 n (omega arith) (omega arith) (omega arith))
bound_length (negsuc n) fits = let le : suc n ≤ 2 ^ 63 = omega (arith, ints) in omega (arith, length-decimal-le 19 (suc n) (omega arith) (omega arith) (omega arith))

-- a number without sign has at most 20 bytes
pub natural_short : (n : ℕ) → n < 2 ^ 64 → length (decimal n) ≤ 20
natural_short n lt = length-decimal-le 20 n (omega arith) (omega arith) (omega arith)
