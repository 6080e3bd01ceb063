use Rattle.std.proofs.Common.{length}
use Rattle.bw_cert.proofs.SplitLemmas.{CutSoFar}
use Rattle.bw_cert.proofs.program_file.split_file.Given as goal

-- no line so far divides
abbrev pub invariant-lines : goal.invariant-lines
invariant-lines l = CutSoFar l.file l.read l.lines.text l.lines.number

abbrev pub decreases-lines : goal.decreases-lines
decreases-lines l = length l.lines.text
