-- A certificate that is rejected has a first line that breaks a rule.
use Rattle.std.proofs.Common.{◌≡◌, ◌∙◌, refl, ap, ◌⊎◌, inl, inr, List, [], ◌∷◌, Result, Ok, Err}
use Rattle.bw_model.specs.declared.column.Column.{Column}
use Rattle.bw_model.specs.declared.cond.Cond.{Cond}
use Rattle.bw_model.specs.declared.fault.Fault.{Fault}
use Rattle.bw_model.specs.Fault.{◌>>=◌}
use Rattle.bw_diagram.specs.Facts.{Facts, no_facts}
use Rattle.bw_program.specs.Program.{ProgramShape}
use Rattle.bw_cert_text.specs.declared.lines.BodyLine.{BodyLine}
use Rattle.bw_cert_text.specs.declared.lines.NodeLine.{NodeLine}
use Rattle.bw_cert_text.specs.declared.lines.ChainLine.{ChainLine}
use Rattle.bw_cert_text.specs.declared.lines.ProductLine.{ProductLine}
use Rattle.bw_cert_text.specs.CertificateShape.{CertificateShape}
use Rattle.bw_cert_rules.specs.Rows.{TruthPair}
use Rattle.bw_cert_rules.specs.Pair.{pair_of}
use Rattle.bw_cert_rules.specs.Walk.{WalkState, check_lines}
use Rattle.bw_cert_rules.proofs.AcceptLemmas.{judged_accepts}
use Rattle.bw_cert.specs.FirstWrong.{WrongStated, WrongFact, WrongProgram, WrongBody, FirstWrong}
use Rattle.bw_cert.specs.StatedFacts.{facts_stated, with_lines, with_node_line, with_chain_line}
use Rattle.bw_cert.specs.StatedFacts.{with_product_line}
use Rattle.bw_cert.specs.Valid.{check_certificate, end_on}
use Rattle.bw_cert.proofs.FaultLemmas.{bind_err}
use Rattle.bw_cert.proofs.FirstFaultLemmas.{first_fault_stands}

lines_wrong : (Line : Type 0) (add : Facts → Line → Result Facts Fault) (lines : List Line) (facts : Facts) (fault : Fault) → with_lines add facts lines ≡ Err fault → WrongStated Line add facts lines fault
unfolding with_lines
lines_wrong Line add [] facts fault is = cc
lines_wrong Line add (line ∷ lines) facts fault is = at (bind_err (add facts line) (λ more. with_lines add more lines) fault is) (λ more. lines_wrong Line add lines more fault)
  where
    at : (add facts line ≡ Err fault) ⊎ ((more : Facts) × (add facts line ≡ Ok more) × (with_lines add more lines ≡ Err fault)) →
        ((more : Facts) → with_lines add more lines ≡ Err fault → WrongStated Line add more lines fault) → WrongStated Line add facts (line ∷ lines) fault
    at (inl refused) rest = record { upto = []; line = line; others = lines; spelled = refl; held = facts; stated = refl; broken = refused }
    at (inr (more, held, refused)) rest =
        let wrong = rest more refused in
        record {
          upto = line ∷ wrong.upto;
          line = wrong.line;
          others = wrong.others;
          spelled = ap (λ (lines : List Line). line ∷ lines) wrong.spelled;
          held = wrong.held;
          stated = ap (λ r. r >>= λ more. with_lines add more wrong.upto) held ∙ wrong.stated;
          broken = wrong.broken;
        }

fact_wrong : (columns : List Column) (certificate : CertificateShape) (fault : Fault) → facts_stated columns certificate ≡ Err fault → WrongFact columns certificate fault
fact_wrong columns certificate fault is = nodes (bind_err (with_lines with_node_line (no_facts columns) certificate.nodes) _ fault is)
  where
    chains : (held : Facts) → (with_lines with_chain_line held certificate.chains ≡ Err fault)
        ⊎ ((more : Facts) × (with_lines with_chain_line held certificate.chains ≡ Ok more) × (with_lines with_product_line more certificate.products ≡ Err fault)) →
        WrongStated ChainLine with_chain_line held certificate.chains fault
        ⊎ ((chains : Facts) × (with_lines with_chain_line held certificate.chains ≡ Ok chains) × WrongStated ProductLine with_product_line chains certificate.products fault)
    chains held (inl refused) = inl (lines_wrong ChainLine with_chain_line certificate.chains held fault refused)
    chains held (inr (more, there, refused)) = inr (more, there, lines_wrong ProductLine with_product_line certificate.products more fault refused)

    nodes : (with_lines with_node_line (no_facts columns) certificate.nodes ≡ Err fault)
        ⊎ ((held : Facts) × (with_lines with_node_line (no_facts columns) certificate.nodes ≡ Ok held)
        × ((with_lines with_chain_line held certificate.chains >>= λ more. with_lines with_product_line more certificate.products) ≡ Err fault)) → WrongFact columns certificate fault
    nodes (inl refused) = inl (lines_wrong NodeLine with_node_line certificate.nodes (no_facts columns) fault refused)
    nodes (inr (held, there, refused)) =
        inr (held, there, chains held (bind_err (with_lines with_chain_line held certificate.chains) (λ more. with_lines with_product_line more certificate.products) fault refused))

module _ (columns : List Column) (cond : Cond) (program : ProgramShape) (certificate : CertificateShape) (fault : Fault) where
  abbrev at_end : Facts → TruthPair → WalkState → Result Facts Fault
  at_end facts pair taken = end_on facts certificate.end.line taken program.result pair.yes certificate.end.row

  abbrev past_pair : Facts → TruthPair × List BodyLine → Result Facts Fault
  past_pair facts read = check_lines facts program.instrs certificate.end.line read.1 >>= λ taken. at_end facts read.0 taken

  program_wrong : (facts : Facts) (pair : TruthPair) (rest : List BodyLine) → past_pair facts (pair, rest) ≡ Err fault → WrongProgram facts program certificate pair rest fault
  program_wrong facts pair rest is = at (bind_err (check_lines facts program.instrs certificate.end.line rest) (λ taken. at_end facts pair taken) fault is)
    where
      at : (check_lines facts program.instrs certificate.end.line rest ≡ Err fault)
          ⊎ ((taken : WalkState) × (check_lines facts program.instrs certificate.end.line rest ≡ Ok taken) × (at_end facts pair taken ≡ Err fault)) → WrongProgram facts program certificate pair rest fault
      at (inl refused) = inl (first_fault_stands facts program.instrs certificate.end.line rest fault refused)
      at (inr (taken, took, refused)) = inr (taken, judged_accepts facts program.instrs certificate.end.line rest taken took, refused)

  body_wrong : (facts : Facts) → (pair_of columns facts certificate.end.line cond certificate.body >>= λ read. past_pair facts read) ≡ Err fault → WrongBody columns facts cond program certificate fault
  body_wrong facts is = at (bind_err (pair_of columns facts certificate.end.line cond certificate.body) (λ read. past_pair facts read) fault is)
    where
      at : (pair_of columns facts certificate.end.line cond certificate.body ≡ Err fault)
          ⊎ ((read : TruthPair × List BodyLine) × (pair_of columns facts certificate.end.line cond certificate.body ≡ Ok read) × (past_pair facts read ≡ Err fault)) → WrongBody columns facts cond program certificate fault
      at (inl refused) = inl refused
      at (inr (read, there, refused)) = inr (read.0, read.1, there, program_wrong facts read.0 read.1 refused)

  pub first_wrong : check_certificate columns cond program certificate ≡ Err fault → FirstWrong columns cond program certificate fault
  first_wrong is = at (bind_err (facts_stated columns certificate) _ fault is)
    where
      at : (facts_stated columns certificate ≡ Err fault)
          ⊎ ((facts : Facts) × (facts_stated columns certificate ≡ Ok facts) × ((pair_of columns facts certificate.end.line cond certificate.body >>= λ read. past_pair facts read) ≡ Err fault)) →
          FirstWrong columns cond program certificate fault
      at (inl refused) = inl (fact_wrong columns certificate fault refused)
      at (inr (facts, stated, refused)) = inr (facts, stated, body_wrong facts refused)
