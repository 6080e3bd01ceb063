use Rattle.std.proofs.Common.{◌≡◌, ◌^◌, ◌<◌, take, true}
use Rattle.std.specs.Char.{is_ascii_digit}
use Rattle.std.specs.List.{list_all}
use Rattle.bw_text.specs.Number.{digits_value}
use Rattle.bw_text.proofs.number.short_magnitude.Given as goal

-- all so far are digits, and spell the magnitude, which is below the power of ten that has as many
-- zeros
abbrev pub invariant-loop-digit : goal.invariant-loop-digit
invariant-loop-digit l = record {
  digits : list_all is_ascii_digit (take l.digit-index l.text) ≡ true;
  magnitude : l.magnitude ≡ digits_value (take l.digit-index l.text);
  below : l.magnitude < 10 ^ l.digit-index;
}
