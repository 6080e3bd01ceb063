use Rattle.std.proofs.Common.{◌≡◌, Ok, length}
use Rattle.bw_model.specs.Fault.{◌>>=◌}
use Rattle.bw_text.specs.Lines.{lines_in, end_in}
use Rattle.bw_cert_text.specs.CertificateText.{certificate_from}
use Rattle.bw_cert_text.specs.Parts.{append_fields}
use Rattle.bw_cert_text.proofs.parse.read_parts.Given as goal

-- the certificate is that of the lines so far and the lines to come
abbrev pub invariant-loop-pairs : goal.invariant-loop-pairs
invariant-loop-pairs l = record {
  told : certificate_from 0 (lines_in l.initial.lines) (end_in l.initial.lines)
      ≡ (certificate_from l.section (lines_in l.lines) (end_in l.initial.lines) >>= λ rest. Ok (append_fields l.parts rest));
  end : end_in l.initial.lines ≡ end_in l.lines;
}

abbrev pub decreases-loop-pairs : goal.decreases-loop-pairs
decreases-loop-pairs l = length (lines_in l.lines)
