-- Numbers in decimal digits spell themselves.
use Rattle.std.proofs.Common.{◌≡◌, refl, ℕ, ◌+◌, ◌-◌, ◌*◌, ◌/◌, ◌%◌, ◌^◌, ◌<◌, ◌≤◌, true, List, []}
use Rattle.std.proofs.Common.{◌∷◌, ◌++◌, length, Some, None, cond, nat_le, length-append, arith}
use Rattle.std.specs.Char.{is_ascii_digit}
use Rattle.std.specs.Fmt.{decimal}
use Rattle.std.specs.List.{list_all}
use Rattle.std.proofs.lemmas.Bool.{and_parts, lt-ltb, le-leb, leb-true}
use Rattle.std.proofs.lemmas.Fmt.{decimal_by_steps}
use Rattle.std.proofs.lemmas.List.Folds.{list_all-append}
use Rattle.std.proofs.lemmas.List.Sums.{fold-append}
use Rattle.bw_text.specs.Number as number
use Rattle.bw_text.specs.Printing.{is_above_blank, is_plain_word}

-- digits and nothing else, at least one, which spell a number
pub record Spells (n : ℕ) (digits : List ℕ) : Type 0 where
  pub all : list_all is_ascii_digit digits ≡ true
  pub nonempty : 0 < length digits
  pub value : number.digits_value digits ≡ n

digit_is : (d : ℕ) → d < 10 → is_ascii_digit (48 + d) ≡ true
digit_is d lt = rw (le-leb 48 (48 + d) (omega arith), le-leb (48 + d) 57 (omega arith)) refl

one_digit : (n : ℕ) → n < 10 → Spells n ((48 + n) ∷ [])
unfolding number.digits_value
one_digit n lt = record { all = rw (digit_is n lt) refl; nonempty = omega arith; value = omega arith }

one_more : (n : ℕ) (digits : List ℕ) → 10 ≤ n → Spells (n / 10) digits → Spells n (digits ++ (48 + n % 10) ∷ [])
unfolding number.digits_value
one_more n digits le front = record {
  all = rw (list_all-append is_ascii_digit digits ((48 + n % 10) ∷ []), front.all, digit_is (n % 10) (omega arith)) refl;
  nonempty = omega (arith, length-append digits ((48 + n % 10) ∷ []));
  value =
      let e = fold-append (λ (m digit : ℕ). 10 * m + (digit - 48)) 0 digits ((48 + n % 10) ∷ []) in
      let v = front.value in
      rw (e, v) (omega arith);
}

pub decimal_spells : (n : ℕ) → n < 2 ^ 64 → Spells n (decimal n)
decimal_spells n lt = decimal_by_steps Spells one_digit one_more n lt

pub natural_of-decimal : (n : ℕ) → n < 2 ^ 64 → number.natural_of (decimal n) ≡ Some n
unfolding number.natural_of
natural_of-decimal n lt =
    let spells = decimal_spells n lt in
    go (decimal n) spells
  where
    go : (digits : List ℕ) → Spells n digits → cond (number.are_digits digits) (number.where_64_bits_hold (number.digits_value digits)) None ≡ Some n
    go [] spells = absurd (omega (arith, spells.nonempty))
    go (d ∷ digits) spells = rw (spells.all, spells.value, lt-ltb n (2 ^ 64) lt) refl

-- they are plain words
pub plain_digits : (digits : List ℕ) → list_all is_ascii_digit digits ≡ true → list_all is_above_blank digits ≡ true
plain_digits [] h = refl
plain_digits (d ∷ digits) h =
    let here = and_parts (is_ascii_digit d) (list_all is_ascii_digit digits) h in
    let low = and_parts (nat_le 48 d) (nat_le d 57) here.0 in
    let above : 48 ≤ d = leb-true 48 d low.0 in
    rw (lt-ltb 32 d (omega arith)) (plain_digits digits here.1)

pub plain_number : (n : ℕ) → n < 2 ^ 64 → is_plain_word (decimal n) ≡ true
plain_number n lt = go (decimal n) (decimal_spells n lt)
  where
    go : (digits : List ℕ) → Spells n digits → is_plain_word digits ≡ true
    go [] spells = absurd (omega (arith, spells.nonempty))
    go (d ∷ digits) spells = plain_digits (d ∷ digits) spells.all
