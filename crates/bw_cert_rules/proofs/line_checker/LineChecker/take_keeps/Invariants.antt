use Rattle.std.proofs.Common.{◌≡◌, length}
use Rattle.bw_cert_text.specs.BodyLines.{body_lines}
use Rattle.bw_cert_rules.specs.Known.{nothing_known}
use Rattle.bw_cert_rules.specs.Walk.{keeps_taken}
use Rattle.bw_cert_rules.proofs.line_checker.LineChecker.take_keeps.Given as goal

-- what the lines say is what those that are left say, after the registers so far
abbrev pub invariant-loop-line : goal.invariant-loop-line
invariant-loop-line l = record {
  told : keeps_taken l.self.diagram.now l.initial.known l.edges 0 nothing_known (body_lines l.initial.lines)
      ≡ keeps_taken l.self.diagram.now l.through l.edges l.least l.kept (body_lines l.rest);
}

abbrev pub decreases-loop-line : goal.decreases-loop-line
decreases-loop-line l = length (body_lines l.rest)
