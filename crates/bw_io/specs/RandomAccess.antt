-- Devices that are read at places: their bytes, their failures, and whether they have changed.
use Rattle.std.specs.Prelude.{◌≡◌, ◌⊎◌, ◌≤◌, ℕ, Bool, List, [], Option, drop, length, take}

-- A device before or after a call: its bytes, if it states them; how many calls have failed; and
-- whether it was found unchanged since the last read.
pub record AccessState : Type 0 where
  pub known : Option (List ℕ)
  pub failures : ℕ
  pub confirmed : Bool

abbrev pub access_state : Option (List ℕ) → ℕ → Bool → AccessState
access_state known failures confirmed =
    record { known = known; failures = failures; confirmed = confirmed }

-- the first `count` bytes of a buffer are those of the device from this place on
abbrev pub AreAt : ℕ → ℕ → List ℕ → List ℕ → Type 0
AreAt at count buffer bytes = take count buffer ≡ take count (drop at bytes)

-- no byte was read: the buffer is empty, or the device has no byte from this place on
abbrev pub IsPastEnd : ℕ → List ℕ → List ℕ → Type 0
IsPastEnd at buffer bytes = (buffer ≡ []) ⊎ (length bytes ≤ at)
