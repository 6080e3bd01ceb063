use Rattle.std.proofs.Common.{◌≡◌, ◌++◌, take, drop, true}
use Rattle.std.specs.List.{list_all}
use Rattle.bw_cert_text.specs.PrintText.{lines_text}
use Rattle.bw_cert_text.specs.Reprint.{are_small}
use Rattle.bw_cert_text.proofs.print.put_lines.Given as goal

-- what is written so far, and then the lines that are left, are all lines after the text; the
-- numbers of what is written are below 2^64
abbrev pub invariant-loop-line : goal.invariant-loop-line
invariant-loop-line g l = record {
  text : l.text.items ++ lines_text (g.L.SectionLine.tokens l.schema.columns.items) (drop l.line-index l.lines) ≡ l.fn.text.items ++ lines_text (g.L.SectionLine.tokens l.schema.columns.items) l.lines;
  fit : list_all (λ line. are_small (g.L.SectionLine.own_tokens line)) (take l.line-index l.lines) ≡ true;
}
