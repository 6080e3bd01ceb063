use Rattle.std.proofs.Common.{◌≡◌, ◌++◌, length, true}
use Rattle.std.specs.List.{list_all}
use Rattle.bw_cert_text.specs.BodyLines.{body_lines}
use Rattle.bw_cert_text.specs.CertificateFields.{body_fields}
use Rattle.bw_cert_text.specs.PrintText.{lines_text, body_tokens}
use Rattle.bw_cert_text.specs.Reprint.{are_small}
use Rattle.bw_cert_text.proofs.print.put_body.Given as goal

-- what is written so far, and then the lines that are left, are all lines after the text; if the
-- numbers of those are below 2^64, all are
abbrev pub invariant-loop-line : goal.invariant-loop-line
invariant-loop-line l = record {
  text : l.text.items ++ lines_text (λ line. body_tokens (body_fields line)) (body_lines l.rest) ≡ l.fn.text.items ++ lines_text (λ line. body_tokens (body_fields line)) (body_lines l.body);
  fit : list_all (λ line. are_small (body_tokens (body_fields line))) (body_lines l.rest) ≡ true → list_all (λ line. are_small (body_tokens (body_fields line))) (body_lines l.body) ≡ true;
}

abbrev pub decreases-loop-line : goal.decreases-loop-line
decreases-loop-line l = length (body_lines l.rest)
