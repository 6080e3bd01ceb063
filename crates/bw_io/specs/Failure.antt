-- The count of an I/O device's failures.
use Rattle.std.specs.Prelude.{ℕ, ◌+◌, Result, Ok, Err}

-- the count after a call: an error raises it by one
abbrev pub failures_after : {T E : Type 0} → Result T E → ℕ → ℕ
failures_after (Ok x) count = count
failures_after (Err e) count = count + 1
