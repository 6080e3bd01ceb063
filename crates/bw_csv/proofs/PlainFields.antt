-- Fields of digits are plain, and spell numbers that 64 bits hold.
use Rattle.std.proofs.Common.{◌≡◌, ◌∙◌, ℕ, ℤ, pos, ◌-ℤ◌, ◌^◌, List, [], ◌∷◌, Some, Ok, Bool, true}
use Rattle.std.proofs.Common.{false, refl, arith, eqb, leb, ltb, SFits, w64, of_z, to_z, Option}
use Rattle.std.specs.Prelude.{◌&&◌, int_le}
use Rattle.std.specs.Char.{is_ascii_digit}
use Rattle.std.specs.List.{list_all}
use Rattle.std.proofs.lemmas.Bool.{cond_both, eqb-true, leb-true, ltb-true, and_parts}
use Rattle.std.proofs.lemmas.Int.{ints, to_z-of_z}
use Rattle.bw_csv.specs.declared.rule.FieldRule.{FieldRule}
use Rattle.bw_text.specs.Number.{are_digits, digits_value, number_of}
use Rattle.bw_csv.specs.Plain.{is_plain}
use Rattle.bw_csv.specs.Rows.{after_minus, is_minus, value_of_field}
use Rattle.bw_csv.proofs.DigitsAlone.{other_than, signed_digits}

-- digits are plain, and so is a minus sign
digit_plain : (c : ℕ) → is_ascii_digit c ≡ true → is_plain c ≡ true
digit_plain c e = rw (other_than c 44 e (omega arith), other_than c 13 e (omega arith), other_than c 10 e (omega arith), other_than c 34 e (omega arith)) refl

digits_plain : (cs : List ℕ) → list_all is_ascii_digit cs ≡ true → list_all is_plain cs ≡ true
digits_plain [] e = refl
digits_plain (c ∷ cs) e = let is = and_parts (is_ascii_digit c) (list_all is_ascii_digit cs) e in rw (digit_plain c is.0, digits_plain cs is.1) refl

all_digits : (cs : List ℕ) → are_digits cs ≡ true → list_all is_ascii_digit cs ≡ true
all_digits [] e = refl
all_digits (c ∷ cs) e = e

pub plain_number : (field : List ℕ) → are_digits (after_minus field) ≡ true → list_all is_plain field ≡ true
plain_number [] e = refl
plain_number (c ∷ cs) e = cond_both (eqb c 45) _ _ (λ (digits : List ℕ). are_digits digits ≡ true → list_all is_plain (c ∷ cs) ≡ true)
    (λ s e. rw (eqb-true c 45 s) (digits_plain cs (all_digits cs e))) (λ s e. digits_plain (c ∷ cs) e) e

-- a number within the bounds of a rule
number_fits : (is_negative : Bool) (digits : List ℕ) (n : ℤ) → number_of is_negative digits ≡ Some n → SFits w64 n
unfolding number_of
number_fits true digits n = cond_both (leb (digits_value digits) (2 ^ 63)) _ _ (λ (r : Option ℤ). r ≡ Some n → SFits w64 n)
    (λ l e. let below = leb-true _ _ l in let same : n ≡ pos 0 -ℤ pos (digits_value digits) = cc in rw same (grind (arith, ints)))
    (λ l e. absurd (cc e))
number_fits false digits n = cond_both (ltb (digits_value digits) (2 ^ 63)) _ _ (λ (r : Option ℤ). r ≡ Some n → SFits w64 n)
    (λ l e. let below = ltb-true _ _ l in let same : n ≡ pos (digits_value digits) = cc in rw same (grind (arith, ints)))
    (λ l e. absurd (cc e))

number_within : (number : ℕ) (rule : FieldRule) (field : List ℕ) (n : ℤ) → are_digits (after_minus field) ≡ true
    → number_of (is_minus field) (after_minus field) ≡ Some n → (int_le rule.lo n && int_le n rule.hi) ≡ true
    → value_of_field number rule field ≡ Ok (Some n)
number_within number rule field n digits e within = signed_digits number rule field digits ∙ rw (e, within) refl

-- and as the code has it
pub number_found : (number : ℕ) (rule : FieldRule) (field : List ℕ) (n : ℤ) → are_digits (after_minus field) ≡ true
    → number_of (is_minus field) (after_minus field) ≡ Some n → (int_le rule.lo (to_z w64 (of_z w64 n)) && int_le (to_z w64 (of_z w64 n)) rule.hi) ≡ true
    → value_of_field number rule field ≡ Ok (Some (to_z w64 (of_z w64 n)))
number_found number rule field n digits e within =
    let same = to_z-of_z w64 n (number_fits (is_minus field) (after_minus field) n e) in
    rw same (number_within number rule field n digits e (rw same at within))
