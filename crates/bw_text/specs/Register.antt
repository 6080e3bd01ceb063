-- Registers, and how they are written.
use Rattle.std.specs.Prelude.{ℕ, Bool, ◌||◌, ◌==◌, List, ◌∷◌, drop, Option, Some, None}
use Rattle.std.specs.Prelude.{if◌then◌else◌, nat_lt, slice_index}
use Rattle.std.specs.Fmt.{decimal}
use Rattle.bw_text.specs.Number.{natural_of}

-- how many registers there are, numbered from 0
abbrev pub register_count : ℕ
register_count = 64

abbrev pub is_register : ℕ → Bool
is_register register = nat_lt register register_count

-- the register that a word names: r, which is byte 114, or R, byte 82, and then a number below 64
abbrev pub register_below : Option ℕ → Option ℕ
register_below None = None
register_below (Some n) = if is_register n then Some n else None

unfoldable pub register_of : List ℕ → Option ℕ
register_of word =
    if (slice_index word 0 == 114) || (slice_index word 0 == 82) then register_below
    (natural_of (drop 1 word)) else None

-- a register as it is written: r, and its number
abbrev pub register_text : ℕ → List ℕ
register_text register = 114 ∷ decimal register
