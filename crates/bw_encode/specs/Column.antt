-- The two kinds of a column, and what each says of the column's fields.
use Rattle.std.specs.Prelude.{◌≡◌, ◌^◌, ℕ, ℤ, pos, ◌-ℤ◌, ◌<ℤ◌, List, map, Some, All, Contains}
use Rattle.bw_model.specs.Row.{Value}
use Rattle.bw_encode.specs.Dictionary.{IsEncoded}
use Rattle.bw_encode.specs.Number.{FitsValue, value_text}

-- any two numbers among values are less than 2^63 apart
abbrev pub AreNear : List Value → Type 0
AreNear values = (lo hi : ℤ) → Contains values (Some lo) → Contains values (Some hi)
    → (hi -ℤ lo) <ℤ pos (2 ^ 63)

-- The fields of a column are these values, as they are printed, and a table can have the values in
-- one column: its numbers fit 64 bits, and are near each other.
pub record AreNumbers (fields : List (List ℕ)) (values : List Value) : Type 0 where
  pub fit : All FitsValue values
  pub spelled : map value_text values ≡ fields
  pub near : AreNear values

-- a column of numbers has values; one of codes has the list of its distinct fields, how often each
-- occurs, and the places of its fields in that list
pub data Encoding : Type 0 where
  Numbers : List Value → Encoding
  Codes : List (List ℕ) → List ℕ → List ℕ → Encoding

-- the fields are no column of numbers
abbrev pub AreTexts : List (List ℕ) → Type 0
AreTexts fields = (values : List Value) → AreNumbers fields values → ⊥

-- what encodes the fields of a column: numbers if they are a column of numbers, else codes
abbrev pub IsEncodingOf : List (List ℕ) → Encoding → Type 0
IsEncodingOf fields (Numbers values) = AreNumbers fields values
IsEncodingOf fields (Codes list counts codes) = AreTexts fields
    × IsEncoded fields list counts codes

-- the values of a column of a table, one of each row
abbrev pub values_in : Encoding → List Value
values_in (Numbers values) = values
values_in (Codes list counts codes) = map (λ code. Some (pos code)) codes
