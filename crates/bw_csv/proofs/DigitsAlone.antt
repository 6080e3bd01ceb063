-- A field of digits, alone or after a minus sign.
use Rattle.std.proofs.Common.{◌≡◌, ◌∙◌, ℕ, ◌-◌, ◌<◌, List, [], ◌∷◌, ℤ, Option, Some, None, Bool}
use Rattle.std.proofs.Common.{true, false, length, take, get_or, refl, ap, arith, eqb, suc}
use Rattle.std.proofs.Common.{if◌then◌else◌, take_all}
use Rattle.std.specs.Char.{is_ascii_digit, to_ascii_lowercase}
use Rattle.std.specs.List.{list_all, suffix_len}
use Rattle.std.proofs.lemmas.Bool.{cond_both, eqb-true, and_parts}
use Rattle.std.proofs.lemmas.Bool.Decides.{nat_tests}
use Rattle.std.proofs.Math.Dec.{eqb-suc-zero}
use Rattle.std.proofs.lemmas.List.Sums.{AllPass-from_list_all, suffix_len-take_no}
use Rattle.bw_csv.specs.declared.rule.FieldRule.{FieldRule}
use Rattle.bw_text.specs.Number.{are_digits, number_of}
use Rattle.bw_text.specs.Text.{same_text}
use Rattle.bw_csv.specs.Rows.{after_minus, is_blank, is_minus, is_null_text, text_value}
use Rattle.bw_csv.specs.Rows.{value_of_field, within_bounds, without_blanks, without_end_blanks}
use Rattle.bw_csv.specs.Rows.{without_front_blanks}

-- a digit, byte 48 to 57, is no byte below 48, no blank and not the first letter of NULL
pub other_than : (c d : ℕ) → is_ascii_digit c ≡ true → (d < 48) → eqb c d ≡ false
other_than c d e low = grind (arith, nat_tests)

no_blank : (c : ℕ) → is_ascii_digit c ≡ true → is_blank c ≡ false
no_blank c e = grind (arith, nat_tests)

no_letter : (c : ℕ) → is_ascii_digit c ≡ true → eqb (to_ascii_lowercase c) 110 ≡ false
no_letter c e = grind (arith, nat_tests)

-- digits have no blanks in front, nor after
front : (c : ℕ) (cs : List ℕ) → is_ascii_digit c ≡ true → without_front_blanks (c ∷ cs) ≡ c ∷ cs
front c cs e = rw (no_blank c e) refl

pub ended : (text : List ℕ) → 0 < length text → is_blank (get_or text (length text - 1) 0) ≡ false → without_end_blanks text ≡ text
ended text some last =
    let whole : take (length text) text ≡ text = take_all (length text) text (omega arith) in
    let zeros : suffix_len is_blank text ≡ 0 = rw whole at (suffix_len-take_no is_blank text (length text) 0 some (omega arith) last) in
    rw zeros (take_all (length text - 0) text (omega arith))

-- the last of bytes that are no blanks is none
pub last_of : (p : ℕ → Bool) → ((c : ℕ) → p c ≡ true → is_blank c ≡ false) → (text : List ℕ) → 0 < length text → list_all p text ≡ true → is_blank (get_or text (length text - 1) 0) ≡ false
last_of p solid text some all = solid (get_or text (length text - 1) 0) (AllPass-from_list_all p text all (length text - 1) 0 (omega (arith, some)))

-- no digits are NULL
no_null : (c : ℕ) (cs : List ℕ) → is_ascii_digit c ≡ true → is_null_text (c ∷ cs) ≡ false
unfolding same_text
no_null c cs e = rw (eqb-suc-zero (length cs), no_letter c e) refl

spells_itself : (number : ℕ) (rule : FieldRule) (c : ℕ) (cs : List ℕ) → is_ascii_digit c ≡ true → are_digits (c ∷ cs) ≡ true
    → text_value number rule (c ∷ cs) ≡ within_bounds number rule (number_of false (c ∷ cs))
spells_itself number rule c cs e digits = rw (no_null c cs e, other_than c 45 e (omega arith), other_than c 43 e (omega arith), digits) refl

digits_alone : (number : ℕ) (rule : FieldRule) (field : List ℕ) → are_digits field ≡ true
    → value_of_field number rule field ≡ within_bounds number rule (number_of false field)
unfolding value_of_field
digits_alone number rule [] e = absurd (cc e)
digits_alone number rule (c ∷ cs) e =
    let all = and_parts (is_ascii_digit c) (list_all is_ascii_digit cs) e in
    let whole : without_blanks (c ∷ cs) ≡ c ∷ cs = rw (front c cs all.0) (ended (c ∷ cs) (omega arith) (last_of is_ascii_digit no_blank (c ∷ cs) (omega arith) e)) in
    rw whole (spells_itself number rule c cs all.0 e)

-- a minus sign is no blank, and no text that begins with it is NULL
whole_after : (cs : List ℕ) → are_digits cs ≡ true → without_blanks (45 ∷ cs) ≡ 45 ∷ cs
whole_after [] e = absurd (cc e)
whole_after (c ∷ cs) e =
    let last : length (45 ∷ c ∷ cs) - 1 ≡ suc (length (c ∷ cs) - 1) = omega arith in
    ended (45 ∷ c ∷ cs) (omega arith) (rw last (last_of is_ascii_digit no_blank (c ∷ cs) (omega arith) e))

digits_after_minus : (number : ℕ) (rule : FieldRule) (cs : List ℕ) → are_digits cs ≡ true
    → value_of_field number rule (45 ∷ cs) ≡ within_bounds number rule (number_of true cs)
unfolding value_of_field same_text
digits_after_minus number rule cs e = rw (whole_after cs e, eqb-suc-zero (length cs), e) refl

by_sign : (number : ℕ) (rule : FieldRule) (c : ℕ) (cs : List ℕ) (minus : Bool) → eqb c 45 ≡ minus
    → are_digits (if minus then cs else c ∷ cs) ≡ true
    → value_of_field number rule (c ∷ cs) ≡ within_bounds number rule (number_of minus (if minus then cs else c ∷ cs))
by_sign number rule c cs true s e = rw (eqb-true c 45 s) (digits_after_minus number rule cs e)
by_sign number rule c cs false s e = digits_alone number rule (c ∷ cs) e

-- digits, after a minus sign if there is one
pub signed_digits : (number : ℕ) (rule : FieldRule) (field : List ℕ) → are_digits (after_minus field) ≡ true
    → value_of_field number rule field ≡ within_bounds number rule (number_of (is_minus field) (after_minus field))
signed_digits number rule [] e = absurd (cc e)
signed_digits number rule (c ∷ cs) e = by_sign number rule c cs (eqb c 45) refl e

-- what was read of a field of digits
pub read_digits : (number : ℕ) (rule : FieldRule) (field : List ℕ) (n : Option ℤ) (is_negative : Bool) (digits : List ℕ)
    → is_negative ≡ is_minus field → digits ≡ after_minus field
    → Some n ≡ (if are_digits digits then Some (number_of is_negative digits) else None)
    → value_of_field number rule field ≡ within_bounds number rule n
read_digits number rule field n is_negative digits s d e =
    let spelled = number_of (is_minus field) (after_minus field) in
    cond_both (are_digits (after_minus field)) (Some spelled) None (λ (r : Option (Option ℤ)). Some n ≡ r → value_of_field number rule field ≡ within_bounds number rule n)
    (λ is read. let same : spelled ≡ n = cc in signed_digits number rule field is ∙ ap (within_bounds number rule) same)
    (λ none read. absurd (cc read)) (rw (← d, ← s) e)
