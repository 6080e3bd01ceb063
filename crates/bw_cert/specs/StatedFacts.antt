-- The content of the NODE, CHAIN and ROW lines of a certificate: nodes, chains and product rows,
-- each by the rule of its line.
use Rattle.std.specs.Prelude.{ℕ, List, [], ◌∷◌, Result, Ok, Err}
use Rattle.bw_model.specs.declared.column.Column.{Column}
use Rattle.bw_model.specs.declared.fault.Fault.{Fault}
use Rattle.bw_model.specs.Fault.{at_line, ◌>>=◌}
use Rattle.bw_diagram.specs.Chain.{chain_named}
use Rattle.bw_diagram.specs.Facts.{Facts, no_facts, with_node, with_chain, with_product}
use Rattle.bw_cert_text.specs.declared.lines.NodeLine.{NodeLine}
use Rattle.bw_cert_text.specs.declared.lines.ChainLine.{ChainLine}
use Rattle.bw_cert_text.specs.declared.lines.ProductLine.{ProductLine}
use Rattle.bw_cert_text.specs.CertificateShape.{CertificateShape}

-- the error, if there is one, is on the line of this number
abbrev pub on_line : {A : Type 0} → ℕ → Result A Fault → Result A Fault
on_line line (Ok x) = Ok x
on_line line (Err fault) = Err (at_line fault.code line)

abbrev pub with_node_line : Facts → NodeLine → Result Facts Fault
with_node_line facts line = on_line line.line (with_node facts line.n
    (record { v = line.v; low = line.low; high = line.high }))

abbrev pub with_chain_line : Facts → ChainLine → Result Facts Fault
with_chain_line facts line = on_line line.line
    (with_chain facts line.n (chain_named facts.columns line.columns))

abbrev pub with_product_line : Facts → ProductLine → Result Facts Fault
with_product_line facts line = on_line line.line (with_product facts line.n
    (record { op = line.op; a = line.a; b = line.b; c = line.c }) line.reason)

-- the facts after these lines, each of which must satisfy its rule after those before it
unfoldable pub with_lines : {Line : Type 0} → (Facts → Line → Result Facts Fault) → Facts
    → List Line → Result Facts Fault
with_lines add facts [] = Ok facts
with_lines add facts (line ∷ lines) = add facts line >>= λ more. with_lines add more lines

-- the facts that a certificate states under these columns, or the first line that breaks its rule
abbrev pub facts_stated : List Column → CertificateShape → Result Facts Fault
facts_stated columns certificate =
    with_lines with_node_line (no_facts columns) certificate.nodes >>= λ facts.
    with_lines with_chain_line facts certificate.chains >>= λ facts.
    with_lines with_product_line facts certificate.products
