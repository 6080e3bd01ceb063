-- Values as bw prints them, without the word for null.
use Rattle.std.specs.Prelude.{◌≡◌, ◌==◌, ◌||◌, not, ℕ, Bool, List, [], ◌∷◌, Some, None, FitsSigned}
use Rattle.std.specs.Prelude.{Option, ⊤, false, length, drop, slice_index, if◌then◌else◌}
use Rattle.std.specs.Fmt.{signed_decimal}
use Rattle.std.specs.Int.{w64}
use Rattle.bw_model.specs.Row.{Value}

-- a number in decimal without leading zeros, after a minus sign if it is negative; null is spelled
-- by nothing
abbrev pub value_text : Value → List ℕ
value_text None = []
value_text (Some n) = signed_decimal n

-- a number fits 64 bits
abbrev pub FitsValue : Value → Type 0
FitsValue None = ⊤
FitsValue (Some n) = FitsSigned w64 n

-- a field spells this value
pub record Spells (field : List ℕ) (value : Value) : Type 0 where
  pub fits : FitsValue value
  pub text : value_text value ≡ field

-- The value that a field spells, if it spells one.
abbrev pub IsValueOf : List ℕ → Option Value → Type 0
IsValueOf field None = (value : Value) → Spells field value → ⊥
IsValueOf field (Some value) = Spells field value

-- a text starts with the digit 0
abbrev pub starts_with_zero : List ℕ → Bool
starts_with_zero [] = false
starts_with_zero (c ∷ cs) = c == 48

-- a text starts as a number in decimal does: with no zero, unless that is all, after a minus sign or
-- none
abbrev pub starts_number : List ℕ → Bool
starts_number text = if slice_index text 0 == 45 then not (starts_with_zero (drop 1 text))
    else not (starts_with_zero text) || (length text == 1)
