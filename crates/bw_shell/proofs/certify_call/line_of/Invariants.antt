use Rattle.std.proofs.Common.{◌≡◌, drop, length}
use Rattle.bw_text.specs.Lines.{end_in, lines_in, whole}
use Rattle.bw_shell.specs.Certification.{line_numbered, number_at}
use Rattle.bw_shell.proofs.certify_call.line_of.Given as goal

-- the line that is sought is the one after `before` of the lines to come
abbrev pub invariant-loop-line : goal.invariant-loop-line
invariant-loop-line l = record {
  found : line_numbered l.text l.instruction ≡ number_at (drop l.before (lines_in l.lines)) (end_in l.lines);
  end : end_in l.lines ≡ end_in (whole l.text);
}

abbrev pub decreases-loop-line : goal.decreases-loop-line
decreases-loop-line l = length (lines_in l.lines)
