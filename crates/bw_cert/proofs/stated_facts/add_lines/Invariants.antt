use Rattle.std.proofs.Common.{◌≡◌, drop}
use Rattle.bw_cert.specs.StatedFacts.{with_lines}
use Rattle.bw_cert.proofs.stated_facts.add_lines.Given as goal

-- what the lines state is what those that are left do, after what is held
abbrev pub invariant-loop-line : goal.invariant-loop-line
invariant-loop-line g l = record {
  told : with_lines g.L.StatedLine.with_line l.initial.diagram l.lines ≡ with_lines g.L.StatedLine.with_line l.diagram (drop l.line-index l.lines);
}
