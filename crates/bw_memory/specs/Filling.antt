-- Bytes that are read from a place of a device on.
use Rattle.std.specs.Prelude.{◌≡◌, ◌⊎◌, ◌+◌, ◌<◌, true, ℕ, List, IfSome, Option, drop, length, take}
use Rattle.bw_model.specs.FaultTable.{TRUNCATED}
use Rattle.bw_model.specs.declared.fault.Fault.{Fault}
use Rattle.bw_io.specs.Source.{is_read_fault}

-- these bytes are those of a device from this place on
abbrev pub AreBytesAt : ℕ → List ℕ → List ℕ → Type 0
AreBytesAt at read bytes = read ≡ take (length read) (drop at bytes)

-- a read failed, or the device has less than `size` bytes from this place on
abbrev pub IsFillFault : Option (List ℕ) → ℕ → ℕ → Fault → Type 0
IsFillFault known at size fault = (is_read_fault fault ≡ true)
    ⊎ ((fault.code ≡ TRUNCATED) × IfSome known (λ bytes. length bytes < at + size))
