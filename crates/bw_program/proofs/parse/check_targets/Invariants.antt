use Rattle.std.proofs.Common.{◌≡◌, drop, length}
use Rattle.bw_program.specs.Program.{ProgramShape}
use Rattle.bw_program.specs.ProgramText.{within_end}
use Rattle.bw_program.proofs.parse.check_targets.Given as goal

-- no skip so far goes past the end
abbrev pub invariant-loop-each : goal.invariant-loop-each
invariant-loop-each l = (x : ProgramShape) → within_end (length l.placed) l.placed x ≡ within_end (length l.placed) (drop l.each-index l.placed) x
