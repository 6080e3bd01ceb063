-- Whole numbers, spelled in decimal digits.
use Rattle.std.specs.Prelude.{ℕ, ℤ, pos, ◌+◌, ◌-◌, ◌*◌, ◌^◌, ◌-ℤ◌, Bool, true, false, not, List, []}
use Rattle.std.specs.Prelude.{◌∷◌, fold, Option, Some, None, ◌&&◌, if◌then◌else◌, nat_le, nat_lt}
use Rattle.std.specs.List.{list_all}
use Rattle.std.specs.Char.{is_ascii_digit}

-- the number that decimal digits spell; 48 is the digit 0
unfoldable pub digits_value : List ℕ → ℕ
digits_value digits = fold (λ n digit. 10 * n + (digit - 48)) 0 digits

abbrev pub text_is_empty : List ℕ → Bool
text_is_empty [] = true
text_is_empty (c ∷ cs) = false

-- the text is at least one digit, and nothing else
abbrev pub are_digits : List ℕ → Bool
are_digits text = not (text_is_empty text) && list_all is_ascii_digit text

-- the number that a text of digits spells, with any number of leading zeros, if it fits 64 bits
-- without a sign: if it is less than 2^64
abbrev pub where_64_bits_hold : ℕ → Option ℕ
where_64_bits_hold n = if nat_lt n (2 ^ 64) then Some n else None

unfoldable pub natural_of : List ℕ → Option ℕ
natural_of text = if are_digits text then where_64_bits_hold (digits_value text) else None

-- the number of a sign and digits, if it fits 64 bits: if it is from -2^63 to 2^63 - 1
unfoldable pub number_of : Bool → List ℕ → Option ℤ
number_of true digits = if nat_le (digits_value digits) (2 ^ 63) then Some
    (pos 0 -ℤ pos (digits_value digits)) else None
number_of false digits = if nat_lt (digits_value digits) (2 ^ 63)
    then Some (pos (digits_value digits)) else None
