use Rattle.std.proofs.Common.{◌∙◌, sym}
use Rattle.std.proofs.lemmas.List.Folds.{list_all-map}
use Rattle.bw_cert_text.specs.CertificateFields.{ChainFields, chain_fields}
use Rattle.bw_cert_text.specs.Columns.{are_columns}
use Rattle.bw_cert_text.proofs.certificate.Certificate.has_columns.Goals as goal

pub returns : goal.returns
returns c =
    let columns = c.args.schema.now.columns.items in
    rw c.chain_lines.ensures at c.are_all_named.ensures ∙ sym (list_all-map (λ (chain : ChainFields). are_columns columns chain.columns) chain_fields c.args.self.now.chains)
