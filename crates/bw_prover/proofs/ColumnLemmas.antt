-- The columns that a certificate's chains name.
use Rattle.std.proofs.Common.{◌≡◌, refl, true, List, [], ◌∷◌, map}
use Rattle.std.specs.List.{list_all}
use Rattle.bw_model.specs.declared.column.Column as stored
use Rattle.bw_cert_text.specs.declared.lines.ChainLine.{ChainLine}
use Rattle.bw_cert_text.specs.CertificateFields.{chain_fields, certificate_fields}
use Rattle.bw_cert_text.specs.CertificateShape.{CertificateShape}
use Rattle.bw_cert_text.specs.Columns.{are_columns, has_columns}
use Rattle.bw_prover.specs.ChainNames.{are_chains_named}

chains_named : (columns : List stored.Column) (chains : List ChainLine) → list_all (λ chain. are_columns columns chain.columns) (map chain_fields chains) ≡ are_chains_named columns chains
chains_named columns [] = refl
chains_named columns (chain ∷ chains) = rw (chains_named columns chains) refl

-- a certificate has the columns that its chains name
pub certificate_named : (columns : List stored.Column) (certificate : CertificateShape) → are_chains_named columns certificate.chains ≡ true → has_columns columns (certificate_fields certificate) ≡ true
certificate_named columns certificate named = rw (chains_named columns certificate.chains) named
