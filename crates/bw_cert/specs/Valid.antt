-- When a certificate shows that a scan program selects the rows on which a condition is TRUE, and
-- which line is the first that breaks a rule.
use Rattle.std.specs.Prelude.{◌≡◌, ℕ, List, [], ◌∷◌, length, false, Some, Result, Ok, Err, not}
use Rattle.std.specs.Prelude.{IsTrue, Bool, ◌&&◌, ◌||◌, nat_le}
use Rattle.bw_model.specs.FaultTable.{CONDITION_LINE, REGISTER_UNKNOWN, END}
use Rattle.bw_model.specs.declared.column.Column.{Column}
use Rattle.bw_model.specs.declared.cond.Cond.{Cond}
use Rattle.bw_model.specs.declared.fault.Fault.{Fault}
use Rattle.bw_model.specs.Fault.{at_line, is_memory, ◌>>=◌, refused_if}
use Rattle.bw_diagram.specs.declared.product.Connective.TheVariants.{Xor}
use Rattle.bw_diagram.specs.References.{product_node}
use Rattle.bw_diagram.specs.Facts.{Facts, is_diagram_fault}
use Rattle.bw_program.specs.Program.{ProgramShape}
use Rattle.bw_program.specs.ProgramText.{found_on}
use Rattle.bw_cert_text.specs.declared.lines.BodyLine.{BodyLine}
use Rattle.bw_cert_text.specs.CertificateShape.{CertificateShape}
use Rattle.bw_cert_rules.specs.Rows.{TruthPair}
use Rattle.bw_cert_rules.specs.Pair.{pair_of}
use Rattle.bw_cert_rules.specs.Accepted.{Part, AreValidParts, known_before, lines_of}
use Rattle.bw_cert_rules.specs.Join.{is_zero}
use Rattle.bw_cert_rules.specs.Known.{KnownNodes, node_of}
use Rattle.bw_cert_rules.specs.Walk.{WalkState, check_lines}
use Rattle.bw_cert.specs.StatedFacts.{facts_stated}

-- A certificate is valid for a condition and a program under these columns.
pub record Valid (columns : List Column) (cond : Cond) (program : ProgramShape)
    (certificate : CertificateShape) : Type 0 where
  -- the NODE, CHAIN and ROW lines satisfy their rules, and state these nodes, chains and product
  -- rows
  pub facts : Facts
  pub stated : facts_stated columns certificate ≡ Ok facts
  -- the lines of the condition's steps satisfy theirs, and make this truth pair: when it is TRUE,
  -- and when it is FALSE
  pub pair : TruthPair
  pub rest : List BodyLine
  pub paired : pair_of columns facts certificate.end.line cond certificate.body ≡ Ok (pair, rest)
  -- the other lines are those of the program's instructions and joins; they satisfy theirs, and
  -- none is left over
  pub parts : List Part
  pub valid_parts : AreValidParts facts program.instrs parts
  pub spelled : rest ≡ lines_of 0 parts
  -- at the end the result register's node is known, and END references a product row by which its
  -- XOR with the first node of the pair is 0
  pub node : ℕ
  pub known : node_of (known_before facts program.instrs parts (length program.instrs))
      program.result
      ≡ Some node
  pub ended : IsTrue (is_zero (product_node facts Xor node pair.yes certificate.end.row))

-- END: no line is left over (610), the result register's node is known (609), and by the product
-- row its XOR with the condition's node is 0 (610)
abbrev pub result_on : Facts → ℕ → KnownNodes → ℕ → ℕ → ℕ → Result Facts Fault
result_on facts end known result first row =
    found_on REGISTER_UNKNOWN end (node_of known result) >>= λ node.
    refused_if (not (is_zero (product_node facts Xor node first row))) (at_line END end) (Ok facts)

abbrev pub last_on : Facts → ℕ → List BodyLine → KnownNodes → ℕ → ℕ → ℕ → Result Facts Fault
last_on facts end [] known result first row = result_on facts end known result first row
last_on facts end (line ∷ lines) known result first row = Err (at_line END line.line)

abbrev pub end_on : Facts → ℕ → WalkState → ℕ → ℕ → ℕ → Result Facts Fault
end_on facts end taken result first row = last_on facts end taken.rest taken.known result first row

-- The facts that a valid certificate states, or the first line that breaks a rule: the sections one
-- after another, and the lines of each in their order.
abbrev pub check_certificate : List Column → Cond → ProgramShape → CertificateShape
    → Result Facts Fault
check_certificate columns cond program certificate =
    facts_stated columns certificate >>= λ facts.
    pair_of columns facts certificate.end.line cond certificate.body >>= λ read.
    check_lines facts program.instrs certificate.end.line read.1 >>= λ taken.
    end_on facts certificate.end.line taken program.result read.0.yes certificate.end.row

-- What the checker returns is what is expected: it accepts, or it returns the program with the
-- error, unless it ran out of memory.
abbrev pub Checks : {C P : Type 0} → Result C (P × Fault) → Result Facts Fault → Type 0
Checks (Ok certified) expected = (facts : Facts) × (expected ≡ Ok facts)
Checks (Err refused) expected = is_memory refused.1 ≡ false → expected ≡ Err refused.1

-- the error is one of 601 to 604 or 606 to 610, or out of memory
abbrev pub is_check_fault : Fault → Bool
is_check_fault fault =
    is_diagram_fault fault || (nat_le CONDITION_LINE fault.code && nat_le fault.code END)
