-- What is read of a text is spelled by it, and what is spelled is read.
use Rattle.std.proofs.Common.{◌≡◌, ◌∙◌, refl, sym, ℕ, ◌≤◌, Bool, true, false, List, [], ◌∷◌, Option}
use Rattle.std.proofs.Common.{Some, None, Result, Ok, Err, nat_lt, IfOk, IsTrue, ltb-false, le-ltb}
use Rattle.bw_model.specs.declared.fault.Fault.{Fault}
use Rattle.bw_model.specs.Fault.{MatchesUnlessOom, ◌>>=◌, refused_if}
use Rattle.bw_text.specs.Lines.{NumberedWords, lines_in, end_in, from_line}
use Rattle.bw_cert_text.specs.declared.lines.EndLine.{EndLine}
use Rattle.bw_cert_text.specs.CertificateShape.{CertificateShape}
use Rattle.bw_cert_text.specs.CertificateFields.{CertificateFields, certificate_fields}
use Rattle.bw_cert_text.specs.LineText.{LineBeforeEnd, ParsedLine, Before, End, parse_line_in}
use Rattle.bw_cert_text.specs.CertificateText.{section_of, with_line, end_alone, SpellsFrom}
use Rattle.bw_cert_text.specs.CertificateText.{before_end, at_end, IsCertificateText, form_fault}
use Rattle.bw_cert_text.specs.CertificateText.{is_before, in_section_order, last_line, certificate_after}
use Rattle.bw_cert_text.specs.CertificateText.{certificate_from, certificate_of}
use Rattle.bw_cert_text.specs.Reprint.{numbers_fit}
use Rattle.bw_cert_text.proofs.SpelledNumbers.{text_small}
use Rattle.bw_cert_text.proofs.LineRead.{line_read}
use Rattle.bw_cert_text.proofs.LineSpelled.{spelled_line}

abbrev Reading : List NumberedWords → ℕ → ℕ → Result CertificateFields Fault
Reading lines end section = certificate_from section lines end

text_read : (section : ℕ) (lines : List NumberedWords) (end : ℕ) (c : CertificateFields) → certificate_from section lines end ≡ Ok c → SpellsFrom section lines c
unfolding certificate_from
text_read section [] end c e = absurd (cc e)
text_read section (line ∷ lines) end c e = go (parse_line_in line) refl e (λ s x h. text_read s lines end x h)
  where
    ended : (last : EndLine) → parse_line_in line ≡ Some (End last) → (rest : List NumberedWords) → last_line rest (end_alone last) ≡ Ok c → SpellsFrom section (line ∷ rest) c
    ended last is (l ∷ rest) e = absurd (cc e)
    ended last is [] e = let same : end_alone last ≡ c = cc e in rw (← same) (at_end last (line_read line.number line.words (End last) is))

    put : (part : LineBeforeEnd) → parse_line_in line ≡ Some (Before part) → section ≤ section_of part → (r : Result CertificateFields Fault) → Reading lines end (section_of part) ≡ r →
        (r >>= λ rest. Ok (with_line part rest)) ≡ Ok c → ((s : ℕ) (x : CertificateFields) → Reading lines end s ≡ Ok x → SpellsFrom s lines x) → SpellsFrom section (line ∷ lines) c
    put part is le (Err fault) read e more = absurd (cc e)
    put part is le (Ok rest) read e more =
        let same : with_line part rest ≡ c = cc e in
        rw (← same) (before_end part le (line_read line.number line.words (Before part) is) (more (section_of part) rest read))

    tested : (said : ParsedLine) → parse_line_in line ≡ Some said → (b : Bool) → is_before section said ≡ b →
        (refused_if b (form_fault line.number) (Ok said) >>= λ said. certificate_after lines (Reading lines end) said) ≡ Ok c →
        ((s : ℕ) (x : CertificateFields) → Reading lines end s ≡ Ok x → SpellsFrom s lines x) → SpellsFrom section (line ∷ lines) c
    tested said is true before e more = absurd (cc e)
    tested (Before part) is false before e more = put part is (ltb-false (section_of part) section before) (Reading lines end (section_of part)) refl e more
    tested (End last) is false before e more = ended last is lines e

    go : (o : Option ParsedLine) → parse_line_in line ≡ o → (in_section_order section line.number o >>= λ said. certificate_after lines (Reading lines end) said) ≡ Ok c →
        ((s : ℕ) (x : CertificateFields) → Reading lines end s ≡ Ok x → SpellsFrom s lines x) → SpellsFrom section (line ∷ lines) c
    go None is e more = absurd (cc e)
    go (Some said) is e more = tested said is (is_before section said) refl e more

read_text : (section : ℕ) (lines : List NumberedWords) (end : ℕ) (c : CertificateFields) → SpellsFrom section lines c → certificate_from section lines end ≡ Ok c
unfolding certificate_from
read_text section _ end _ (before_end {line = line} part {lines = lines} {rest = rest} le says others) =
    let in_order : nat_lt (section_of part) section ≡ false = le-ltb _ _ le in
    rw (spelled_line line.number line.words (Before part) says, in_order, read_text (section_of part) lines end rest others) refl
read_text section _ end _ (at_end {line = line} last says) = rw (spelled_line line.number line.words (End last) says) refl

pub text_spelled : (first : ℕ) (bytes : List ℕ) (c : CertificateFields) → certificate_of first bytes ≡ Ok c → IsCertificateText first bytes c
text_spelled first bytes c e = text_read 0 (lines_in (from_line first bytes)) (end_in (from_line first bytes)) c e

pub spelled_text : (first : ℕ) (bytes : List ℕ) (c : CertificateFields) → IsCertificateText first bytes c → certificate_of first bytes ≡ Ok c
spelled_text first bytes c is = read_text 0 (lines_in (from_line first bytes)) (end_in (from_line first bytes)) c is

-- so a call that reads a text is exact
abbrev Told : ℕ → List ℕ → Result CertificateShape Fault → Type 0
Told first bytes result = MatchesUnlessOom certificate_fields result (certificate_of first bytes)

pub spelled_from : (first : ℕ) (bytes : List ℕ) (result : Result CertificateShape Fault) → Told first bytes result → IfOk result (λ c. IsCertificateText first bytes (certificate_fields c))
spelled_from first bytes (Ok c) told = text_spelled first bytes (certificate_fields c) told
spelled_from first bytes (Err fault) told = tt

pub accepted_from : (first : ℕ) (bytes : List ℕ) (result : Result CertificateShape Fault) → Told first bytes result → (c : CertificateFields) → IsCertificateText first bytes c →
    MatchesUnlessOom certificate_fields result (Ok c)
accepted_from first bytes (Ok shape) told c is = sym (spelled_text first bytes c is) ∙ told
accepted_from first bytes (Err fault) told c is = λ aside. sym (spelled_text first bytes c is) ∙ told aside

pub fits_from : (first : ℕ) (bytes : List ℕ) (result : Result CertificateShape Fault) → Told first bytes result → IfOk result (λ c. IsTrue (numbers_fit (certificate_fields c)))
fits_from first bytes (Ok c) told = text_small first bytes (certificate_fields c) (text_spelled first bytes (certificate_fields c) told)
fits_from first bytes (Err fault) told = tt
