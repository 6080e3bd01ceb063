use Rattle.bw_csv.proofs.CutLemmas.{Begins}
use Rattle.bw_csv.proofs.many_fields.after_fields.Given as goal

-- this many fields ended before this byte
abbrev pub invariant-loop-i : goal.invariant-loop-i
invariant-loop-i l = Begins l.text l.i l.inside l.closed
