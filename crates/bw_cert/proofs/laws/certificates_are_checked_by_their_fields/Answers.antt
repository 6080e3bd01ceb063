-- Section by section.
use Rattle.std.proofs.Common.{◌≡◌, ◌∙◌, ap, List, Result}
use Rattle.bw_model.specs.declared.cond.Cond.{Cond}
use Rattle.bw_model.specs.declared.fault.Fault.{Fault}
use Rattle.bw_model.specs.Fault.{◌>>=◌}
use Rattle.bw_model.proofs.FaultLemmas.{then_same}
use Rattle.bw_diagram.specs.Facts.{Facts}
use Rattle.bw_cert_text.specs.declared.lines.BodyLine.{BodyLine}
use Rattle.bw_cert_text.specs.declared.lines.EndLine.{EndLine}
use Rattle.bw_cert_text.specs.CertificateFields.{CertificateFields}
use Rattle.bw_cert_rules.specs.Pair.{pair_of}
use Rattle.bw_cert_rules.specs.Walk.{check_lines}
use Rattle.bw_cert.specs.StatedFacts.{facts_stated}
use Rattle.bw_cert.specs.Valid.{end_on}
use Rattle.bw_cert_rules.proofs.SameLemmas.{after_walk}
use Rattle.bw_cert_rules.proofs.TreeLemmas.{after_pair}
use Rattle.bw_cert.proofs.SameLemmas.{end-same, facts_stated-same}
use Rattle.bw_cert.proofs.laws.certificates_are_checked_by_their_fields.Goals as goal

pub returns : goal.returns
returns c columns cond same program certificate other trees say =
    let after : Cond → EndLine → List BodyLine → Facts → Result Facts Fault = λ (cond : Cond) (end : EndLine) (body : List BodyLine) (facts : Facts).
    pair_of columns facts end.line cond body >>= λ read. check_lines facts program.instrs end.line read.1 >>= λ taken. end_on facts end.line taken program.result read.0.yes end.row in
    let end : certificate.end ≡ other.end = ap (λ (said : CertificateFields). said.end) say in
    ap (λ (stated : Result Facts Fault). stated >>= after cond certificate.end certificate.body) (facts_stated-same columns certificate other say)
    ∙ ap (λ (end : EndLine). facts_stated columns other >>= after cond end certificate.body) end
    ∙ then_same (facts_stated columns other) (after cond other.end certificate.body) (after same other.end other.body) (λ facts.
    after_pair (λ r. r) _ _ _ _ (c.pairs_are_of_trees.ensures columns facts other.end.line cond same certificate.body other.body trees (ap (λ (said : CertificateFields). said.body) say)) (λ pair lines others say.
    after_walk (λ r. r) _ _ _ _ (c.lines_are_checked_by_their_fields.ensures facts program.instrs other.end.line lines others say) (λ known lines others say.
    end-same facts other.end.line known lines others program.result pair.yes other.end.row say)))
