use Rattle.std.proofs.Common.{drop}
use Rattle.bw_csv.proofs.HeadingLemmas.{GoesOn}
use Rattle.bw_csv.proofs.heading_end.after_record.Given as goal

abbrev pub invariant-loop-i : goal.invariant-loop-i
invariant-loop-i l = GoesOn l.text (drop l.i l.text) l.inside
