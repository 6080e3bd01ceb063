-- Bits shifted into bytes.
use Rattle.std.specs.Prelude.{ℕ, ◌+◌, ◌*◌, ◌%◌, Bool, if◌then◌else◌}

-- a byte becomes its double, plus 1 if the bit is 1, modulo 256
abbrev pub with_bit : ℕ → Bool → ℕ
with_bit byte bit = (2 * byte + (if bit then 1 else 0)) % 256
