-- Each line that is written goes over from what is left, and its numbers are below 2^64.
use Rattle.std.proofs.Common.{ap}
use Rattle.std.specs.List.{list_all}
use Rattle.bw_cert_text.specs.CertificateFields.{body_fields}
use Rattle.bw_cert_text.specs.PrintText.{body_tokens, lines_text}
use Rattle.bw_cert_text.specs.Reprint.{are_small}
use Rattle.bw_text.proofs.PrintedLemmas.{written, all_written}
use Rattle.bw_cert_text.proofs.print.put_body.Goals as goal

pub loop-line-preserved : goal.loop-line-preserved
unfolding lines_text
loop-line-preserved c =
    record {
      text = written c.loop-line.text.items _ _ _ _ c.put_entry.new.text.items c.in_ok-put_entry.ensures.text
          (ap (lines_text (λ line. body_tokens (body_fields line))) c.in-Some.ensures.cases) c.loop-line.invariant.text;
      fit = λ further. c.loop-line.invariant.fit (rw (c.in-Some.ensures.cases, c.in_ok-put_entry.ensures.fit) further);
    }

pub returns-clause-text : goal.returns-clause-text
unfolding lines_text
returns-clause-text c =
    all_written c.loop-line.text.items _ _ (ap (lines_text (λ line. body_tokens (body_fields line))) c.in_default.ensures.cases) c.loop-line.invariant.text

pub returns-clause-fit : goal.returns-clause-fit
returns-clause-fit c = c.loop-line.invariant.fit (ap (list_all (λ line. are_small (body_tokens (body_fields line)))) c.in_default.ensures.cases)
