use Rattle.std.proofs.Common.{◌-◌, ◌∙◌, ap, arith, sym, drop}
use Rattle.bw_text.specs.Lines.{end_in, lines_in}
use Rattle.bw_shell.specs.Certification.{number_at}
use Rattle.bw_shell.proofs.LineLemmas.{found_later}
use Rattle.bw_shell.proofs.certify_call.line_of.Goals as goal

pub loop-line-preserved : goal.loop-line-preserved
loop-line-preserved c =
    let line = rw c.in-Some.is at c.in_ok-line.ensures.line in
    let before = c.loop-line.before in
    let rest = lines_in c.next_line.new.self in
    let later = found_later before _ rest _ (end_in c.loop-line.lines) (omega (arith, c.if-before-eq0.false)) line in
    record {
      found = c.loop-line.invariant.found ∙ later ∙ ap (λ end. number_at (drop (before - 1) rest) end) (sym c.in_ok-line.ensures.end);
      end = c.in_ok-line.ensures.end ∙ c.loop-line.invariant.end;
    }
