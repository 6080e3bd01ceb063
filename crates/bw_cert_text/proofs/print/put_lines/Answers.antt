-- Each line that is written goes over from what is left, and its numbers are below 2^64.
use Rattle.std.proofs.Common.{arith}
use Rattle.bw_cert_text.proofs.PrintLemmas.{lines-found, lines-end, fit-found}
use Rattle.bw_text.proofs.PrintedLemmas.{written, all_written}
use Rattle.bw_cert_text.specs.Reprint.{are_small}
use Rattle.bw_cert_text.proofs.print.put_lines.Goals as goal

pub loop-line-preserved : goal.loop-line-preserved
loop-line-preserved g c =
    record {
      text = written c.loop-line.text.items _ _ _ _ c.put.new.text.items c.in_ok-put.ensures.text
          (lines-found _ c.args.lines.now c.loop-line.line-index _ (omega (arith, c.loop-line-test.true)) c.line-item.is) c.loop-line.invariant.text;
      fit = fit-found (λ line. are_small (g.L.SectionLine.own_tokens line)) c.args.lines.now c.loop-line.line-index _ (omega (arith, c.loop-line-test.true)) c.line-item.is c.loop-line.invariant.fit c.put.ensures.fit;
    }

pub returns-clause-text : goal.returns-clause-text
returns-clause-text g c =
    all_written c.loop-line.text.items _ _ (lines-end _ c.args.lines.now c.loop-line.line-index (omega (arith, c.loop-line-test.false))) c.loop-line.invariant.text
