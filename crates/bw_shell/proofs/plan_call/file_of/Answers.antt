-- The file is what was printed.
use Rattle.std.proofs.Common.{refl}
use Rattle.bw_cert_text.specs.CertificateFields.{certificate_fields}
use Rattle.bw_shell.proofs.plan_call.file_of.Goals as goal

pub returns-clause-printed : goal.returns-clause-printed
returns-clause-printed g = record {
  printed = record {
    shown = g.args.program.now;
    stated = certificate_fields g.args.certificate.now;
    is = rw (g.in_ok-extend_from_slice-2.ensures.items, g.in_ok-extend_from_slice.ensures.items, g.in_ok-file.ensures.text, g.deref.ensures.value, g.in_ok-print.ensures.text) refl;
    spells = rw g.in_ok-file.ensures.text at g.in_ok-file.ensures.spelled;
    states = λ first. rw g.in_ok-print.ensures.text at (g.in_ok-print.ensures.spelled first);
  };
  shown = refl;
}
