use Rattle.std.proofs.Common.{◌≡◌, take, true}
use Rattle.std.specs.List.{list_all}
use Rattle.bw_csv.specs.Plain.{is_plain}
use Rattle.bw_csv.proofs.plain_field.plain_len.Given as goal

-- only plain bytes so far
abbrev pub invariant-loop-i : goal.invariant-loop-i
invariant-loop-i l = list_all is_plain (take l.i l.text) ≡ true
