use Rattle.std.proofs.Common.{◌≡◌, ◌<◌, ◌^◌, take}
use Rattle.bw_text.specs.Number.{digits_value}
use Rattle.bw_text.proofs.number.number_of_digits.Given as goal

-- what the digits so far spell
abbrev pub invariant-loop-digit : goal.invariant-loop-digit
invariant-loop-digit l = record { spelled : l.number ≡ digits_value (take l.digit-index l.digits); fits : l.number < 2 ^ 64 }
