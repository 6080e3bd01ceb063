-- What is written of each section is that section's text.
use Rattle.std.proofs.Common.{◌∙◌, sym, subst, ℕ, List}
use Rattle.bw_cert_text.specs.CertificateFields.{certificate_fields}
use Rattle.bw_cert_text.specs.CertificateShape.{CertificateShape}
use Rattle.bw_cert_text.specs.PrintText.{respell}
use Rattle.bw_cert_text.specs.CertificateText.{IsCertificateText}
use Rattle.bw_cert_text.specs.Reprint.{renumber}
use Rattle.bw_cert_text.proofs.PrintLemmas.{text_written, shape_text, shape_fits}
use Rattle.bw_cert_text.proofs.PrintedText.{text_spells}
use Rattle.bw_cert_text.proofs.certificate.Certificate.print.Goals as goal

pub returns-clause-text : goal.returns-clause-text
returns-clause-text c =
    let columns = c.args.schema.now.columns.items in
    let shape : CertificateShape = c.args.self.now in
    let nodes = rw c.node_lines.ensures at c.in_ok-put_lines.ensures.text in
    let chains = rw c.chain_lines.ensures at c.in_ok-put_lines-2.ensures.text in
    let products = rw c.product_lines.ensures at c.in_ok-put_lines-3.ensures.text in
    let body = rw c.body.ensures at c.in_ok-put_body.ensures.text in
    let last = rw c.end.ensures at (rw c.number.ensures.text at c.in_ok-push_line.ensures) in
    text_written _ _ _ _ _ c.push_line.new.text.items _ _ _ _ _ c.new-text.ensures.items nodes chains products body last
    ∙ sym (shape_text columns shape)

pub returns-clause-spelled : goal.returns-clause-spelled
returns-clause-spelled c = λ first.
    let columns = c.args.schema.now.columns.items in
    let shape : CertificateShape = c.args.self.now in
    let nodes = rw c.node_lines.ensures at c.in_ok-put_lines.ensures.fit in
    let chains = rw c.chain_lines.ensures at c.in_ok-put_lines-2.ensures.fit in
    let products = rw c.product_lines.ensures at c.in_ok-put_lines-3.ensures.fit in
    let body = rw c.body.ensures at c.in_ok-put_body.ensures.fit in
    let last = rw c.end.ensures at c.number.ensures.fit in
    let small = shape_fits shape nodes chains products body last in
    subst (λ (text : List ℕ). IsCertificateText first text (renumber first (respell columns (certificate_fields shape)))) (sym (returns-clause-text c))
    (text_spells columns first (certificate_fields shape) c.has_names_and_bounds.ensures.names small c.requires)
