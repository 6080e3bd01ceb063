-- Certificate texts: the certificate that a text spells, or its first error.
use Rattle.std.specs.Prelude.{◌≤◌, ℕ, Bool, false, ◌||◌, ◌==◌, List, [], ◌∷◌, Option, Some, None}
use Rattle.std.specs.Prelude.{Result, Ok, Err, IsTrue, nat_lt}
use Rattle.bw_model.specs.FaultTable.{CERTIFICATE_FORM}
use Rattle.bw_model.specs.declared.fault.Fault.{Fault}
use Rattle.bw_model.specs.Fault.{at_line, is_memory, ◌>>=◌, refused_if}
use Rattle.bw_text.specs.Lines.{NumberedWords, lines_in, end_in, from_line}
use Rattle.bw_cert_text.specs.declared.lines.EndLine.{EndLine}
use Rattle.bw_cert_text.specs.CertificateFields.{CertificateFields}
use Rattle.bw_cert_text.specs.LineText.{LineBeforeEnd, Node, Chain, Row, Body, ParsedLine, Before, End}
use Rattle.bw_cert_text.specs.LineText.{parse_line_in}
use Rattle.bw_cert_text.specs.Token.{Says, number_before_end, tokens_before_end, end_tokens}

-- the sections in their order: nodes, chains, product rows, and the lines after them
abbrev pub section_of : LineBeforeEnd → ℕ
section_of (Node node) = 0
section_of (Chain chain) = 1
section_of (Row row) = 2
section_of (Body body) = 3

-- a certificate with one more line before those of its section, and one that has only its end
abbrev pub with_line : LineBeforeEnd → CertificateFields → CertificateFields
with_line (Node node) c = record c { nodes = node ∷ c.nodes }
with_line (Chain chain) c = record c { chains = chain ∷ c.chains }
with_line (Row row) c = record c { products = row ∷ c.products }
with_line (Body body) c = record c { body = body ∷ c.body }

abbrev pub end_alone : EndLine → CertificateFields
end_alone end = record { nodes = []; chains = []; products = []; body = []; end = end }

-- Lines spell a certificate, from this section on: END is the last line, and each line before it is
-- of this section or a later one, as the lines after it are of that section or a later one.
pub data SpellsFrom : ℕ → List NumberedWords → CertificateFields → Type 0 where
  before_end : {section : ℕ} {line : NumberedWords}
      (part : LineBeforeEnd) {lines : List NumberedWords} {rest : CertificateFields} →
      section ≤ section_of part → Says line (number_before_end part) (tokens_before_end part)
      → SpellsFrom (section_of part) lines rest →
      SpellsFrom section (line ∷ lines) (with_line part rest)
  at_end : {section : ℕ} {line : NumberedWords} (end : EndLine) →
      Says line end.line (end_tokens end) → SpellsFrom section (line ∷ []) (end_alone end)

-- the lines of a text, the first of which has this number, spell a certificate
abbrev pub IsCertificateText : ℕ → List ℕ → CertificateFields → Type 0
IsCertificateText first text certificate = SpellsFrom 0 (lines_in (from_line first text))
    certificate

-- the line has another form, which is the only error of a certificate text
abbrev pub form_fault : ℕ → Fault
form_fault line = at_line CERTIFICATE_FORM line

-- the fields of a line, which must not be of a section before this one
abbrev pub is_before : ℕ → ParsedLine → Bool
is_before section (Before part) = nat_lt (section_of part) section
is_before section (End end) = false

abbrev pub in_section_order : ℕ → ℕ → Option ParsedLine → Result ParsedLine Fault
in_section_order section line None = Err (form_fault line)
in_section_order section line (Some said) =
    refused_if (is_before section said) (form_fault line) (Ok said)

abbrev pub parse_line_on : ℕ → NumberedWords → Result ParsedLine Fault
parse_line_on section line = in_section_order section line.number (parse_line_in line)

-- no line may follow END
abbrev pub last_line : {A : Type 0} → List NumberedWords → A → Result A Fault
last_line [] x = Ok x
last_line (line ∷ lines) x = Err (form_fault line.number)

-- the certificate of a line and the lines after it, given that of the lines after a section
abbrev pub certificate_after : List NumberedWords → (ℕ → Result CertificateFields Fault)
    → ParsedLine → Result CertificateFields Fault
certificate_after lines after (Before part) =
    after (section_of part) >>= λ rest. Ok (with_line part rest)
certificate_after lines after (End end) = last_line lines (end_alone end)

-- the certificate of these lines, none of which may be of a section before this one, or their first
-- error; `end` is the number of the text's end
unfoldable pub certificate_from : ℕ → List NumberedWords → ℕ → Result CertificateFields Fault
certificate_from section [] end = Err (form_fault end)
certificate_from section (line ∷ lines) end =
    parse_line_on section line >>= λ said.
    certificate_after lines (λ s. certificate_from s lines end) said

-- the certificate of a text, the first line of which has this number, or the text's first error
abbrev pub certificate_of : ℕ → List ℕ → Result CertificateFields Fault
certificate_of first text = certificate_from 0 (lines_in (from_line first text))
    (end_in (from_line first text))

-- the error is 605, or out of memory
abbrev pub is_certificate_fault : Fault → Bool
is_certificate_fault fault = (fault.code == CERTIFICATE_FORM) || is_memory fault

abbrev pub IsCertificateFault : Fault → Type 0
IsCertificateFault fault = IsTrue (is_certificate_fault fault)
