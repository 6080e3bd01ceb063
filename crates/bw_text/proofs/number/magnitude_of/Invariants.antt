use Rattle.std.proofs.Common.{◌≡◌, ◌^◌, ◌-◌, min, take}
use Rattle.bw_text.specs.Number.{digits_value}
use Rattle.bw_text.proofs.number.magnitude_of.Given as goal

-- what the digits so far spell, as far as 64 bits hold it
abbrev pub invariant-loop-digit : goal.invariant-loop-digit
invariant-loop-digit l = l.magnitude ≡ min (digits_value (take l.digit-index l.digits)) (2 ^ 64 - 1)
