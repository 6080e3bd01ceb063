-- A certificate is checked by what its lines say, wherever their parts lie in memory.
use Rattle.std.proofs.Common.{◌≡◌, ◌∙◌, refl, sym, ap, ℕ, List, [], ◌∷◌, map, Option, Result, Err}
use Rattle.bw_model.specs.declared.column.Column.{Column}
use Rattle.bw_model.specs.declared.fault.Fault.{Fault}
use Rattle.bw_model.specs.Fault.{at_line, ◌>>=◌}
use Rattle.bw_model.proofs.FaultLemmas.{then_same}
use Rattle.bw_diagram.specs.declared.chain.Chain.{Chain}
use Rattle.bw_diagram.specs.declared.chain.ChainColumns.{ChainColumns}
use Rattle.bw_diagram.specs.declared.chain.ChainColumns.TheVariants as words
use Rattle.bw_diagram.specs.Chain.{chain_named, one_named, two_named}
use Rattle.bw_diagram.specs.Facts.{Facts, no_facts, with_chain}
use Rattle.bw_cert_text.specs.declared.lines.BodyLine.{BodyLine}
use Rattle.bw_cert_text.specs.declared.lines.ChainLine.{ChainLine}
use Rattle.bw_cert_text.specs.CertificateFields.{CertificateFields, ChainFields, ColumnFields}
use Rattle.bw_cert_text.specs.CertificateFields.{BodyFields, One, Two, chain_fields, column_fields}
use Rattle.bw_cert_text.specs.CertificateFields.{body_fields, certificate_fields}
use Rattle.bw_cert_text.specs.CertificateShape.{CertificateShape}
use Rattle.bw_cert_rules.specs.Known.{KnownNodes}
use Rattle.bw_cert_rules.proofs.TreeLemmas.{SayTheSame}
use Rattle.bw_cert.specs.StatedFacts.{on_line, with_lines, with_node_line, with_chain_line}
use Rattle.bw_cert.specs.StatedFacts.{with_product_line, facts_stated}
use Rattle.bw_cert.specs.Valid.{last_on}

-- a CHAIN line is checked by its fields
abbrev chain_said : List Column → ColumnFields → Option Chain
chain_said columns (One kind column start len bound node prev) = one_named columns kind column start len bound node prev
chain_said columns (Two kind left right len node prev) = two_named columns kind left right len node prev

chain-said : (columns : List Column) (compared : ChainColumns) → chain_named columns compared ≡ chain_said columns (column_fields compared)
chain-said columns (words.One kind column start len bound node prev) = refl
chain-said columns (words.Two kind left right len node prev) = refl

abbrev with_chain_said : Facts → ChainFields → Result Facts Fault
with_chain_said facts chain = on_line chain.line (with_chain facts chain.n (chain_said facts.columns chain.columns))

with_lines-chain_fields : (facts : Facts) (lines : List ChainLine) → with_lines with_chain_line facts lines ≡ with_lines with_chain_said facts (map chain_fields lines)
unfolding with_lines
with_lines-chain_fields facts [] = refl
with_lines-chain_fields facts (line ∷ lines) =
    ap (λ (named : Option Chain). on_line line.line (with_chain facts line.n named) >>= λ more. with_lines with_chain_line more lines) (chain-said facts.columns line.columns)
    ∙ then_same (with_chain_said facts (chain_fields line)) (λ more. with_lines with_chain_line more lines) (λ more. with_lines with_chain_said more (map chain_fields lines)) (λ more. with_lines-chain_fields more lines)

abbrev stated_said : List Column → CertificateFields → Result Facts Fault
stated_said columns said =
    with_lines with_node_line (no_facts columns) said.nodes >>= λ facts.
    with_lines with_chain_said facts said.chains >>= λ facts.
    with_lines with_product_line facts said.products

stated-said : (columns : List Column) (certificate : CertificateShape) → facts_stated columns certificate ≡ stated_said columns (certificate_fields certificate)
stated-said columns certificate =
    then_same (with_lines with_node_line (no_facts columns) certificate.nodes) _ _
    (λ facts. ap (λ r. r >>= λ facts. with_lines with_product_line facts certificate.products) (with_lines-chain_fields facts certificate.chains))

pub facts_stated-same : (columns : List Column) (certificate other : CertificateShape) → certificate_fields certificate ≡ certificate_fields other → facts_stated columns certificate ≡ facts_stated columns other
facts_stated-same columns certificate other same = stated-said columns certificate ∙ ap (stated_said columns) same ∙ sym (stated-said columns other)

pub end-same : (facts : Facts) (end : ℕ) (known : KnownNodes) (lines others : List BodyLine) (result first row : ℕ) → SayTheSame lines others →
    last_on facts end lines known result first row ≡ last_on facts end others known result first row
end-same facts end known [] [] result first row same = refl
end-same facts end known (line ∷ lines) (other ∷ others) result first row same =
    let here : body_fields line ≡ body_fields other = cc in
    ap (λ (fields : BodyFields). Err (at_line 610 fields.line)) here
end-same facts end known _ _ result first row same = cc
