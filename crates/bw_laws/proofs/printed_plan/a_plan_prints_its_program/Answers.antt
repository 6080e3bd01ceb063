-- The parts of the file have the lines of what was printed, and texts are read by their lines.
use Rattle.std.proofs.Common.{◌∙◌}
use Rattle.bw_cert_text.specs.CertificateFields.{certificate_fields}
use Rattle.bw_cert_text.specs.CertificateText.{certificate_of}
use Rattle.bw_cert_text.specs.PrintText as certificate_text
use Rattle.bw_cert_text.proofs.TextSpelling.{spelled_text as certificate_read}
use Rattle.bw_laws.proofs.PrintedPlanLemmas.{cut_of, certificate_by_lines, one_ok, shown_is}
use Rattle.bw_laws.proofs.printed_plan.a_plan_prints_its_program.Goals as goal

pub returns-clause-program : goal.returns-clause-program
returns-clause-program c = λ text sql file plan.
    shown_is plan.schema.columns.items plan.query.cond file plan.program plan.certificate plan.printed plan.certifies

pub returns-clause-certificate : goal.returns-clause-certificate
returns-clause-certificate c = λ text sql file plan.
    let columns = plan.schema.columns.items in
    let first = plan.certifies.first in
    let stated = certificate_text.print_text columns plan.printed.stated in
    let cut = cut_of columns plan.printed.shown stated file plan.printed.is plan.printed.spells in
    let read = certificate_by_lines first plan.certifies.certificate_text stated _ (plan.certifies.cut.after ∙ cut.after) (plan.printed.states first) in
    one_ok _ (certificate_fields plan.certificate) (certificate_of first plan.certifies.certificate_text) (certificate_read first _ _ read) (certificate_read first _ _ plan.certifies.stated)
