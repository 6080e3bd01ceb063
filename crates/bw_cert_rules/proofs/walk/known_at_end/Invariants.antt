use Rattle.std.proofs.Common.{◌≡◌, ◌+◌, length}
use Rattle.bw_cert_text.specs.BodyLines.{body_lines}
use Rattle.bw_cert_rules.proofs.WalkLemmas.{Walking}
use Rattle.bw_cert_rules.proofs.walk.known_at_end.Given as goal

-- the walk has come to this instruction
abbrev pub invariant-loop-number : goal.invariant-loop-number
invariant-loop-number l = record {
  walking : Walking l.checker.diagram.now l.program.instrs l.end (body_lines l.initial.lines) l.edges l.number (record { known = l.known; rest = body_lines l.rest });
  room : length l.edges ≡ length l.program.instrs + 1;
}
