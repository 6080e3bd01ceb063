use Rattle.std.proofs.Common.{◌≡◌, ◌^◌, ◌<◌, take, true}
use Rattle.std.specs.Char.{is_ascii_digit}
use Rattle.std.specs.List.{list_all}
use Rattle.bw_text.specs.Number.{digits_value}
use Rattle.bw_csv.proofs.plain_field.digits_at.Given as goal

-- all so far are digits, and spell the magnitude, which is below the power of ten that has as many
-- zeros
abbrev pub invariant-loop-i : goal.invariant-loop-i
invariant-loop-i l = record {
  digits : list_all is_ascii_digit (take l.i l.text) ≡ true;
  magnitude : l.magnitude ≡ digits_value (take l.i l.text);
  below : l.magnitude < 10 ^ l.i;
}
