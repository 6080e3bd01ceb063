use Rattle.std.proofs.Common.{◌≡◌, ℕ, ◌<◌, true, get_or}
use Rattle.bw_csv.specs.Rows.{is_blank}
use Rattle.bw_csv.proofs.field.without_front_blanks.Given as goal

-- only blanks so far
abbrev pub invariant-loop-i : goal.invariant-loop-i
invariant-loop-i l = (k : ℕ) → k < l.i → is_blank (get_or l.field k 0) ≡ true
