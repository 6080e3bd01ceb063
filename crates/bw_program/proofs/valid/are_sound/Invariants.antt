use Rattle.std.proofs.Common.{◌≡◌, drop, length}
use Rattle.bw_program.specs.Program.{are_sound}
use Rattle.bw_program.proofs.valid.are_sound.Given as goal

-- whether all are valid is whether those are that are left
abbrev pub invariant-loop-number : goal.invariant-loop-number
invariant-loop-number l =
    are_sound (length l.instrs) 0 l.instrs
    ≡ are_sound (length l.instrs) l.number (drop l.number l.instrs)
