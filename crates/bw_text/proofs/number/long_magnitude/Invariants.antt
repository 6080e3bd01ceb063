use Rattle.std.proofs.Common.{◌≡◌, ◌^◌, ◌-◌, min, take, true}
use Rattle.std.specs.Char.{is_ascii_digit}
use Rattle.std.specs.List.{list_all}
use Rattle.bw_text.specs.Number.{digits_value}
use Rattle.bw_text.proofs.number.long_magnitude.Given as goal

-- all so far are digits, and what they spell is known as far as 64 bits hold it
abbrev pub invariant-loop-digit : goal.invariant-loop-digit
invariant-loop-digit l = record {
  digits : list_all is_ascii_digit (take l.digit-index l.text) ≡ true;
  magnitude : l.magnitude ≡ min (digits_value (take l.digit-index l.text)) (2 ^ 64 - 1);
}
