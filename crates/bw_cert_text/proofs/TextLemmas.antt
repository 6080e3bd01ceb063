-- The reading of lines, one line at a time.
use Rattle.std.proofs.Common.{◌≡◌, ◌∙◌, refl, sym, ap, ℕ, List, [], ◌∷◌, Result, Ok, Err}
use Rattle.bw_model.specs.declared.fault.Fault.{Fault}
use Rattle.bw_model.specs.Fault.{◌>>=◌}
use Rattle.bw_text.specs.Lines.{NumberedWords}
use Rattle.bw_cert_text.specs.declared.lines.EndLine.{EndLine}
use Rattle.bw_cert_text.specs.CertificateFields.{CertificateFields}
use Rattle.bw_cert_text.specs.LineText.{LineBeforeEnd, ParsedLine, Before, End}
use Rattle.bw_cert_text.specs.CertificateText.{section_of, with_line, end_alone, form_fault}
use Rattle.bw_cert_text.specs.CertificateText.{parse_line_on, last_line, certificate_after, certificate_from}

both_steps : (r : Result CertificateFields Fault) (part : LineBeforeEnd) (f g : CertificateFields → CertificateFields) → ((x : CertificateFields) → g x ≡ f (with_line part x)) →
    ((r >>= λ rest. Ok (with_line part rest)) >>= λ rest. Ok (f rest)) ≡ (r >>= λ rest. Ok (g rest))
both_steps (Ok x) part f g same = ap Ok (sym (same x))
both_steps (Err fault) part f g same = refl

-- the lines end
pub whole-end : (whole : Result CertificateFields Fault) (section : ℕ) (lines : List NumberedWords) (end : ℕ) (f : CertificateFields → CertificateFields) →
    whole ≡ (certificate_from section lines end >>= λ c. Ok (f c)) → lines ≡ [] → whole ≡ Err (form_fault end)
unfolding certificate_from
whole-end whole section lines end f told e = rw e at told

module _ (whole : Result CertificateFields Fault) (section : ℕ) (lines rest : List NumberedWords) (line : NumberedWords) (end : ℕ) (f : CertificateFields → CertificateFields)
    (told : whole ≡ (certificate_from section lines end >>= λ c. Ok (f c))) where
  -- a line is read, or rejected
  pub whole-next : lines ≡ line ∷ rest → (r : Result ParsedLine Fault) → parse_line_on section line ≡ r →
      whole ≡ ((r >>= λ said. certificate_after rest (λ s. certificate_from s rest end) said) >>= λ c. Ok (f c))
  unfolding certificate_from
  whole-next e r is =
      told ∙ ap (λ (lines : List NumberedWords). certificate_from section lines end >>= λ c. Ok (f c)) e
      ∙ ap (λ (r : Result ParsedLine Fault). (r >>= λ said. certificate_after rest (λ s. certificate_from s rest end) said) >>= λ c. Ok (f c)) is

  pub whole-before : lines ≡ line ∷ rest → (part : LineBeforeEnd) (g : CertificateFields → CertificateFields) (next : ℕ) → parse_line_on section line ≡ Ok (Before part) → next ≡ section_of part →
      ((x : CertificateFields) → g x ≡ f (with_line part x)) → whole ≡ (certificate_from next rest end >>= λ c. Ok (g c))
  whole-before e part g next is same step =
      whole-next e (Ok (Before part)) is ∙ both_steps (certificate_from (section_of part) rest end) part f g step
      ∙ ap (λ (s : ℕ). certificate_from s rest end >>= λ c. Ok (g c)) (sym same)

  pub whole-last : lines ≡ line ∷ rest → (last : EndLine) → parse_line_on section line ≡ Ok (End last) → whole ≡ last_line rest (f (end_alone last))
  whole-last e last is = whole-next e (Ok (End last)) is ∙ go rest
    where
      go : (rest : List NumberedWords) → (last_line rest (end_alone last) >>= λ c. Ok (f c)) ≡ last_line rest (f (end_alone last))
      go [] = refl
      go (l ∷ rest) = refl
