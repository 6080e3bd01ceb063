-- Each turn reads one more line; the end and each error are the text's.
use Rattle.std.proofs.Common.{◌∙◌, ℕ, ap, sym, Err}
use Rattle.bw_cert_text.specs.CertificateText.{form_fault}
use Rattle.bw_cert_text.specs.Parts.{append_fields}
use Rattle.bw_cert_text.specs.ParsedFields.{fields_before_end}
use Rattle.bw_cert_text.proofs.TextLemmas.{whole-end, whole-next, whole-before, whole-last}
use Rattle.bw_cert_text.proofs.parse.read_parts.Goals as goal
use Rattle.bw_model.proofs.ErrLemmas.{err_passed_on}

pub returns-in_err-part-clause-fault : goal.returns-in_err-part-clause-fault
returns-in_err-part-clause-fault c =
    let line = rw c.in-Some.is at c.in_ok-line.ensures.line in
    rw (err_passed_on _ c.from_residual-in_err-part.ensures.1) (λ aside. whole-next _ _ _ _ _ _ _ c.loop-pairs.invariant.told line (Err c.in_err-part.field-0.0) (c.in_err-part.ensures.parsed aside))

pub returns-in-End-clause-read : goal.returns-in-End-clause-read
returns-in-End-clause-read c =
    let line = rw c.in-Some.is at c.in_ok-line.ensures.line in
    whole-last _ _ _ _ _ _ _ c.loop-pairs.invariant.told line c.in-End.end (rw c.in-End.is at c.in_ok-part.ensures.parsed)

pub loop-pairs-preserved : goal.loop-pairs-preserved
loop-pairs-preserved c =
    let line = rw c.in-Some.is at c.in_ok-line.ensures.line in
    record {
      told = whole-before _ _ _ _ _ _ _ c.loop-pairs.invariant.told line (fields_before_end c.in-Before.part) (append_fields c.push.new.self) _
          (rw c.in-Before.is at c.in_ok-part.ensures.parsed) c.section_of-section.ensures c.in_ok-push-in-Before.ensures;
      end = c.loop-pairs.invariant.end ∙ sym c.in_ok-line.ensures.end;
    }

pub returns-clause-fault : goal.returns-clause-fault
returns-clause-fault c = λ _.
    let none = rw c.in_default.is at c.in_ok-line.ensures.none in
    whole-end _ _ _ _ _ c.loop-pairs.invariant.told none.0
    ∙ ap (λ (n : ℕ). Err (form_fault n)) (c.loop-pairs.invariant.end ∙ none.1 ∙ sym c.number.ensures)
    ∙ ap Err (sym c.at_line.ensures)
