-- The least and the greatest number among values.
use Rattle.std.specs.Prelude.{◌≡◌, ℕ, ◌-◌, nat_lt, ℤ, pos, ◌≤ℤ◌, Bool, true, false, List, Some}
use Rattle.std.specs.Prelude.{None, All, Contains, ⊤}
use Rattle.std.specs.List.{list_any}
use Rattle.bw_model.specs.Row.{Value}
use Rattle.bw_model.specs.Truth.{is_null}
use Rattle.bw_encode.specs.declared.seen.Seen.{Seen}

-- a number is between two bounds; null is always
abbrev pub IsWithin : ℤ → ℤ → Value → Type 0
IsWithin lo hi None = ⊤
IsWithin lo hi (Some n) = (lo ≤ℤ n) × (n ≤ℤ hi)

-- The bounds are the least and the greatest number among values, or 0 and 0 if there is no number.
pub record AreBounds (values : List Value) (lo hi : ℤ) (has_number : Bool) : Type 0 where
  pub within : All (IsWithin lo hi) values
  pub some : has_number ≡ true → Contains values (Some lo) × Contains values (Some hi)
  pub none : has_number ≡ false → All (λ value. value ≡ None) values × (lo ≡ pos 0) × (hi ≡ pos 0)

-- what was seen of these values
pub record IsSeenOf (values : List Value) (seen : Seen) : Type 0 where
  pub bounds : AreBounds values seen.lo seen.hi seen.has_number
  pub null : seen.has_null ≡ list_any is_null values

-- what is seen of codes, each of which is below this count
abbrev pub seen_of_codes : ℕ → Seen
seen_of_codes count = record {
  lo = pos 0;
  hi = pos (count - 1);
  has_number = nat_lt 0 count;
  has_null = false;
}
