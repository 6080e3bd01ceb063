-- Lists of numbers in which a value is looked up.
use Rattle.std.specs.Prelude.{◌≡◌, ℕ, ℤ, ◌%◌, Bool, true, List, map, get_or, unsigned_abs, Some}
use Rattle.std.specs.List.{list_any}
use Rattle.std.specs.Ordering.{int_eq}
use Rattle.bw_model.specs.declared.cond.Truth.{Truth}
use Rattle.bw_model.specs.Row.{Value}
use Rattle.bw_model.specs.Truth.{in_list}

-- the value is one of the numbers, as IN has it
abbrev pub among_numbers : Value → List ℤ → Truth
among_numbers x numbers = in_list x (map Some numbers)

-- the place of a number: the remainder of its magnitude by a prime number
abbrev pub place_of : ℤ → ℕ
place_of n = unsigned_abs n % 16381

-- the place of each of these numbers is taken, as far as there are places
abbrev pub ArePlaced : List Bool → List ℤ → Type 0
ArePlaced places numbers = (n : ℤ) → list_any (int_eq n) numbers ≡ true
    → get_or places (place_of n) true ≡ true
