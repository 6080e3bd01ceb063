-- Why a certificate is rejected, section by section: the first line that breaks a rule, and the
-- lines before it.
use Rattle.std.specs.Prelude.{◌≡◌, ◌⊎◌, List, ◌∷◌, ◌++◌, Result, Ok, Err}
use Rattle.bw_model.specs.declared.column.Column.{Column}
use Rattle.bw_model.specs.declared.cond.Cond.{Cond}
use Rattle.bw_model.specs.declared.fault.Fault.{Fault}
use Rattle.bw_diagram.specs.Facts.{Facts, no_facts}
use Rattle.bw_program.specs.Program.{ProgramShape}
use Rattle.bw_cert_text.specs.declared.lines.BodyLine.{BodyLine}
use Rattle.bw_cert_text.specs.declared.lines.NodeLine.{NodeLine}
use Rattle.bw_cert_text.specs.declared.lines.ChainLine.{ChainLine}
use Rattle.bw_cert_text.specs.declared.lines.ProductLine.{ProductLine}
use Rattle.bw_cert_text.specs.CertificateShape.{CertificateShape}
use Rattle.bw_cert_rules.specs.Rows.{TruthPair}
use Rattle.bw_cert_rules.specs.Pair.{pair_of}
use Rattle.bw_cert_rules.specs.Accepted.{Accepts}
use Rattle.bw_cert_rules.specs.Walk.{WalkState}
use Rattle.bw_cert.specs.FirstFault.{FirstFault}
use Rattle.bw_cert.specs.StatedFacts.{facts_stated, with_lines, with_node_line, with_chain_line}
use Rattle.bw_cert.specs.StatedFacts.{with_product_line}
use Rattle.bw_cert.specs.Valid.{end_on}

-- Of lines that state something, one after the other, this is the first that breaks its rule: those
-- before it satisfy theirs.
pub record WrongStated (Line : Type 0) (add : Facts → Line → Result Facts Fault) (facts : Facts)
    (lines : List Line)
    (fault : Fault) : Type 0 where
  pub upto : List Line
  pub line : Line
  pub others : List Line
  pub spelled : lines ≡ upto ++ line ∷ others
  pub held : Facts
  pub stated : with_lines add facts upto ≡ Ok held
  pub broken : add held line ≡ Err fault

-- a line NODE; or after all of these, a line CHAIN; or after all of these, a line ROW
abbrev pub WrongFact : List Column → CertificateShape → Fault → Type 0
WrongFact columns certificate fault =
    WrongStated NodeLine with_node_line (no_facts columns) certificate.nodes fault
    ⊎ ((nodes : Facts) × (with_lines with_node_line (no_facts columns) certificate.nodes ≡ Ok nodes)
    × (WrongStated ChainLine with_chain_line nodes certificate.chains fault
    ⊎ ((chains : Facts) × (with_lines with_chain_line nodes certificate.chains ≡ Ok chains)
    × WrongStated ProductLine with_product_line chains certificate.products fault)))

-- after a condition's lines, the first error in the lines of the program's instructions and joins;
-- or after these, END
abbrev pub WrongProgram : Facts → ProgramShape → CertificateShape → TruthPair → List BodyLine
    → Fault → Type 0
WrongProgram facts program certificate pair lines fault =
    FirstFault facts program.instrs certificate.end.line lines fault
    ⊎ ((taken : WalkState) × Accepts facts program.instrs lines taken
    × (end_on facts certificate.end.line taken program.result pair.yes certificate.end.row
    ≡ Err fault))

-- a line of the condition's steps; or after all of these, one of the program's
abbrev pub WrongBody : List Column → Facts → Cond → ProgramShape → CertificateShape → Fault → Type 0
WrongBody columns facts cond program certificate fault =
    (pair_of columns facts certificate.end.line cond certificate.body ≡ Err fault)
    ⊎ ((pair : TruthPair) × (rest : List BodyLine)
    × (pair_of columns facts certificate.end.line cond certificate.body
    ≡ Ok (pair, rest))
    × WrongProgram facts program certificate pair rest fault)

-- a line NODE, CHAIN or ROW; or after all of these, a line of the body
abbrev pub FirstWrong : List Column → Cond → ProgramShape → CertificateShape → Fault → Type 0
FirstWrong columns cond program certificate fault =
    WrongFact columns certificate fault
    ⊎ ((facts : Facts) × (facts_stated columns certificate ≡ Ok facts)
    × WrongBody columns facts cond program certificate fault)
