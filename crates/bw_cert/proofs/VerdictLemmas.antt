-- A file is certified or rejected, and in one way.
use Rattle.std.proofs.Common.{◌≡◌, ◌∙◌, ◌⊎◌, inl, inr, refl, sym, ap, ap₂, ℕ, ◌+◌, ◌≤◌, Bool, false, List}
use Rattle.std.proofs.Common.{[], length, count_by, nat_lt, Result, Ok, Err, IfOk, IfErr}
use Rattle.std.proofs.lemmas.Bool.{le-ltb, lt-ltb}
use Rattle.std.proofs.lemmas.List.{length-map}
use Rattle.bw_model.specs.declared.column.Column.{Column}
use Rattle.bw_model.specs.declared.cond.Cond.{Cond}
use Rattle.bw_model.specs.declared.fault.Fault.{Fault}
use Rattle.bw_model.specs.CondTree.{tree_of}
use Rattle.bw_model.specs.FaultTable.{PROGRAM_FILE_TOO_LONG}
use Rattle.bw_model.specs.Fault.{◌>>=◌, MatchesUnlessOom, is_memory, nowhere, refused_if}
use Rattle.bw_text.specs.Lines.{cut_lines, numbered_from}
use Rattle.bw_program.specs.Program.{ProgramShape, is_skip}
use Rattle.bw_program.specs.ProgramText.{program_on, program_of}
use Rattle.bw_cert_text.specs.CertificateFields.{CertificateFields, chain_fields}
use Rattle.bw_cert_text.specs.CertificateFields.{certificate_fields}
use Rattle.bw_cert_text.specs.CertificateShape.{CertificateShape}
use Rattle.bw_cert_text.specs.CertificateText.{certificate_from, certificate_of}
use Rattle.bw_program.proofs.ProgramSpelling.{spelled_text as program_read}
use Rattle.bw_cert_text.proofs.TextSpelling.{spelled_text as certificate_read}
use Rattle.bw_cert.specs.Valid.{Valid, check_certificate}
use Rattle.bw_cert.specs.declared.accepted.Accepted.{Accepted}
use Rattle.bw_cert.specs.declared.certified_file.CertifiedFile.{CertifiedFile}
use Rattle.bw_cert.specs.FileVerdict.{Certifies, IsFileFault, too_long, program_refused}
use Rattle.bw_cert.specs.FileVerdict.{certificate_refused, line_refused, text_refused, counts_of}
use Rattle.bw_cert.specs.FileVerdict.{program_and_counts, told_of}
use Rattle.bw_cert.specs.ProgramFile.{IsCut, after_divider, before_divider, longest_program_file}
use Rattle.bw_cert.specs.ProgramFile.{number_after}
use Rattle.bw_cert_rules.proofs.HoldLemmas.{ok_same}

not_both : {A : Type 0} {x : A} {fault : Fault} → ◌≡◌ {A = Result A Fault} (Ok x) (Err fault) → ⊥
not_both both = cc

same_fault : {A : Type 0} {fault other : Fault} → ◌≡◌ {A = Result A Fault} (Err fault) (Err other) → fault ≡ other
same_fault both = cc

-- certificates are checked by what they say, and no line of a valid one breaks a rule
pub record Laws : Type 0 where
  pub judged : (columns : List Column) (cond same : Cond) (program : ProgramShape) (certificate other : CertificateShape) → tree_of cond ≡ tree_of same →
      certificate_fields certificate ≡ certificate_fields other → check_certificate columns cond program certificate ≡ check_certificate columns same program other
  pub valid : (columns : List Column) (cond : Cond) (program : ProgramShape) (certificate : CertificateShape) → (valid : Valid columns cond program certificate) →
      check_certificate columns cond program certificate ≡ Ok valid.facts

-- a program, and what a certificate says
abbrev Parts : Type 0
Parts = ProgramShape × CertificateFields

module _ (columns : List Column) (file : List ℕ) where
  abbrev parts_of : Bool → Result ProgramShape Fault → Result CertificateFields Fault → Result Parts Fault
  parts_of long program certificate = refused_if long (nowhere PROGRAM_FILE_TOO_LONG) (program >>= λ program. certificate >>= λ certificate. Ok (program, certificate))

  -- what is read of a file's parts, wherever it is cut: they have the same lines
  abbrev parts_if : Bool → Result Parts Fault
  parts_if long = parts_of long (program_on columns [] (numbered_from 1 (before_divider (cut_lines file))) (1 + length (before_divider (cut_lines file))))
      (certificate_from 0 (numbered_from (number_after 1 (cut_lines file)) (after_divider (cut_lines file))) (number_after 1 (cut_lines file) + length (after_divider (cut_lines file))))

  abbrev parts : Result Parts Fault
  parts = parts_if (nat_lt longest_program_file (length file))

  read_by : {text stated : List ℕ} {first : ℕ} → length file ≤ longest_program_file → IsCut file text stated first → (program : Result ProgramShape Fault) (certificate : Result CertificateFields Fault) →
      program_of columns text ≡ program → certificate_of first stated ≡ certificate → parts ≡ parts_of false program certificate
  read_by short cut program certificate spelled says =
      ap parts_if (le-ltb longest_program_file (length file) short)
      ∙ ap₂ (parts_of false) (ap (λ lines. program_on columns [] (numbered_from 1 lines) (1 + length lines)) (sym cut.before) ∙ spelled)
      (ap₂ (λ first lines. certificate_from 0 (numbered_from first lines) (first + length lines)) (sym cut.number) (sym cut.after) ∙ says)

  read_certified : (cond : Cond) (program : ProgramShape) (certificate : CertificateShape) → Certifies columns cond file program certificate → parts ≡ Ok (program, certificate_fields certificate)
  read_certified cond program certificate is = read_by is.short is.cut (Ok program) (Ok (certificate_fields certificate)) (program_read columns is.program_text program is.spelled) (certificate_read is.first is.certificate_text _ is.stated)

  -- an error is that of what is read, or of a line
  abbrev Stops : Cond → Fault → Type 0
  Stops cond fault = (parts ≡ Err fault)
      ⊎ ((program : ProgramShape) × (certificate : CertificateShape) × (parts ≡ Ok (program, certificate_fields certificate)) × (check_certificate columns cond program certificate ≡ Err fault))

  stops : (cond : Cond) (fault : Fault) → IsFileFault columns cond file fault → Stops cond fault
  stops cond _ (text_refused (too_long long)) = inl (ap parts_if (lt-ltb longest_program_file (length file) long))
  stops cond _ (text_refused (program_refused {stated = stated} {first = first} {fault = fault} short cut refused)) = inl (read_by short cut (Err fault) (certificate_of first stated) refused refl)
  stops cond _ (text_refused (certificate_refused {text = text} {program = program} {fault = fault} short cut spelled refused)) =
      inl (read_by short cut (Ok program) (Err fault) (program_read columns text program spelled) refused)
  stops cond _ (line_refused {text = text} {stated = stated} {first = first} {program = program} certificate short cut spelled says refused) =
      inr (program, certificate, read_by short cut (Ok program) (Ok (certificate_fields certificate)) (program_read columns text program spelled) (certificate_read first stated _ says), refused)

  pub one_way : (cond same : Cond) (program next : ProgramShape) (certificate other : CertificateShape) → Certifies columns cond file program certificate → Certifies columns same file next other →
      (program ≡ next) × (certificate_fields certificate ≡ certificate_fields other)
  one_way cond same program next certificate other a b =
      let both : ◌≡◌ {A = Parts} (program, certificate_fields certificate) (next, certificate_fields other) = ok_same (sym (read_certified cond program certificate a) ∙ read_certified same next other b) in
      (ap (λ (parts : Parts). parts.0) both, ap (λ (parts : Parts). parts.1) both)

module _ (laws : Laws) (columns : List Column) (file : List ℕ) where
  judged_alike : (cond same : Cond) (program next : ProgramShape) (certificate other : CertificateShape) → tree_of cond ≡ tree_of same →
      ◌≡◌ {A = Parts} (program, certificate_fields certificate) (next, certificate_fields other) → check_certificate columns cond program certificate ≡ check_certificate columns same next other
  judged_alike cond same program next certificate other trees both =
      laws.judged columns cond same program certificate other trees (ap (λ (parts : Parts). parts.1) both) ∙ ap (λ (parts : Parts). check_certificate columns same parts.0 other) both

  pub no_fault : (cond same : Cond) (program : ProgramShape) (certificate : CertificateShape) (fault : Fault) → tree_of cond ≡ tree_of same →
      Certifies columns cond file program certificate → IsFileFault columns same file fault → ⊥
  no_fault cond same program certificate fault trees is wrong = at (stops columns file same fault wrong)
    where
      read : parts columns file ≡ Ok (program, certificate_fields certificate)
      read = read_certified columns file cond program certificate is

      at : Stops columns file same fault → ⊥
      at (inl refused) = not_both (sym read ∙ refused)
      at (inr (next, other, again, refused)) =
          not_both (sym (laws.valid columns cond program certificate is.valid) ∙ judged_alike cond same program next certificate other trees (ok_same (sym read ∙ again)) ∙ refused)

  pub one_fault : (cond same : Cond) (fault other : Fault) → tree_of cond ≡ tree_of same → IsFileFault columns cond file fault → IsFileFault columns same file other → fault ≡ other
  one_fault cond same fault other trees a b = at (stops columns file cond fault a) (stops columns file same other b)
    where
      at : Stops columns file cond fault → Stops columns file same other → fault ≡ other
      at (inl one) (inl two) = same_fault (sym one ∙ two)
      at (inl one) (inr (next, another, again, is)) = absurd (not_both (sym again ∙ one))
      at (inr (program, certificate, read, refused)) (inl two) = absurd (not_both (sym read ∙ two))
      at (inr (program, certificate, read, refused)) (inr (next, another, again, is)) =
          same_fault (sym refused ∙ judged_alike cond same program next certificate another trees (ok_same (sym read ∙ again)) ∙ is)

-- the numbers are those of what a certificate says
abbrev counted_said : ProgramShape → CertificateFields → Accepted
counted_said program said = record {
  instructions = length program.instrs;
  skips = count_by is_skip program.instrs;
  nodes = length said.nodes;
  chains = length said.chains;
  rows = length said.products;
}

counted-said : (program : ProgramShape) (certificate : CertificateShape) → counts_of program certificate ≡ counted_said program (certificate_fields certificate)
counted-said program certificate =
    ap (λ (chains : ℕ). record {
      instructions = length program.instrs;
      skips = count_by is_skip program.instrs;
      nodes = length certificate.nodes;
      chains = chains;
      rows = length certificate.products;
    }) (sym (length-map certificate.chains chain_fields))

-- so a call that says why it rejects, and what it accepts, is exact
pub accepted_from : (columns : List Column) (file : List ℕ) (cond same : Cond) (program : ProgramShape) (certificate : CertificateShape) →
    ((next : ProgramShape) (other : CertificateShape) → Certifies columns cond file next other → (program ≡ next) × (certificate_fields certificate ≡ certificate_fields other)) →
    ((fault : Fault) → IsFileFault columns cond file fault → ⊥) → (result : Result CertifiedFile Fault) →
    IfOk result (λ found. (other : CertificateShape) × Certifies columns cond file found.certified.program other × (found.accepted ≡ counts_of found.certified.program other)) →
    IfErr result (λ fault. is_memory fault ≡ false → IsFileFault columns cond file fault) → MatchesUnlessOom program_and_counts result (Ok (told_of program certificate))
accepted_from columns file cond same program certificate one none (Ok found) valid fault =
    let same = one found.certified.program valid.0 valid.1 in
    let numbers : counts_of program certificate ≡ found.accepted =
    counted-said program certificate ∙ ap₂ counted_said same.0 same.1 ∙ sym (counted-said found.certified.program valid.0) ∙ sym valid.2 in
    ap₂ (λ (p : ProgramShape) (n : Accepted). Ok (p, n)) same.0 numbers
accepted_from columns file cond same program certificate one none (Err other) valid fault = λ aside. absurd (none other (fault aside))
