-- The expected result of certifying a program file, under a schema's columns and for a condition.
use Rattle.std.specs.Prelude.{◌≡◌, ◌≤◌, ◌<◌, ℕ, List, length, count_by, Err, Bool, ◌&&◌, ◌||◌}
use Rattle.std.specs.Prelude.{nat_le}
use Rattle.bw_model.specs.FaultTable.{PROGRAM_FORM, PROGRAM_FILE_TOO_LONG, NODE, END}
use Rattle.bw_model.specs.declared.column.Column.{Column}
use Rattle.bw_model.specs.declared.cond.Cond.{Cond}
use Rattle.bw_model.specs.declared.fault.Fault.{Fault}
use Rattle.bw_model.specs.Fault.{is_memory, nowhere}
use Rattle.bw_program.specs.Program.{ProgramShape, is_skip}
use Rattle.bw_program.specs.ProgramText.{program_of, IsProgramText}
use Rattle.bw_cert_text.specs.CertificateFields.{certificate_fields}
use Rattle.bw_cert_text.specs.CertificateShape.{CertificateShape}
use Rattle.bw_cert_text.specs.CertificateText.{certificate_of, IsCertificateText}
use Rattle.bw_cert.specs.Valid.{Valid, check_certificate}
use Rattle.bw_cert.specs.declared.accepted.Accepted.{Accepted}
use Rattle.bw_cert.specs.declared.certified_file.CertifiedFile.{CertifiedFile}
use Rattle.bw_cert.specs.ProgramFile.{IsCut, longest_program_file}

-- a file spells a program, and a certificate that is valid for it and the condition
pub record Certifies (columns : List Column) (cond : Cond) (file : List ℕ) (program : ProgramShape)
    (certificate : CertificateShape) : Type 0 where
  pub short : length file ≤ longest_program_file
  pub program_text : List ℕ
  pub certificate_text : List ℕ
  pub first : ℕ
  pub cut : IsCut file program_text certificate_text first
  pub spelled : IsProgramText columns program_text program
  pub stated : IsCertificateText first certificate_text (certificate_fields certificate)
  pub valid : Valid columns cond program certificate

-- the numbers that are reported of an accepted file
abbrev pub counts_of : ProgramShape → CertificateShape → Accepted
counts_of program certificate = record {
  instructions = length program.instrs;
  skips = count_by is_skip program.instrs;
  nodes = length certificate.nodes;
  chains = length certificate.chains;
  rows = length certificate.products;
}

-- what is reported of a certified file: its program and these numbers
abbrev pub told_of : ProgramShape → CertificateShape → ProgramShape × Accepted
told_of program certificate = (program, counts_of program certificate)

abbrev pub program_and_counts : CertifiedFile → ProgramShape × Accepted
program_and_counts found = (found.certified.program, found.accepted)

-- An error that a file has for every condition: that it is too long; else the first error of its
-- program text; else the first of its certificate text.
pub data IsTextFault (columns : List Column) (file : List ℕ) : Fault → Type 0 where
  too_long : longest_program_file < length file
      → IsTextFault columns file (nowhere PROGRAM_FILE_TOO_LONG)
  program_refused : {text stated : List ℕ} {first : ℕ} {fault : Fault} →
      length file ≤ longest_program_file →
      IsCut file text stated first → program_of columns text ≡ Err fault
      → IsTextFault columns file fault
  certificate_refused : {text stated : List ℕ} {first : ℕ} {program : ProgramShape}
      {fault : Fault} →
      length file ≤ longest_program_file → IsCut file text stated first →
      IsProgramText columns text program →
      certificate_of first stated ≡ Err fault → IsTextFault columns file fault

-- The error of a file: that of its texts; else the first line of the certificate that breaks a
-- rule.
pub data IsFileFault (columns : List Column) (cond : Cond) (file : List ℕ) : Fault → Type 0 where
  text_refused : {fault : Fault} → IsTextFault columns file fault
      → IsFileFault columns cond file fault
  line_refused : {text stated : List ℕ} {first : ℕ} {program : ProgramShape}
      (certificate : CertificateShape) {fault : Fault} →
      length file ≤ longest_program_file → IsCut file text stated first →
      IsProgramText columns text program →
      IsCertificateText first stated (certificate_fields certificate) →
      check_certificate columns cond program certificate ≡ Err fault
      → IsFileFault columns cond file fault

-- the error is one of 501 to 508 or 601 to 610, or out of memory
abbrev pub is_file_fault : Fault → Bool
is_file_fault fault =
    (nat_le PROGRAM_FORM fault.code && nat_le fault.code PROGRAM_FILE_TOO_LONG)
    || ((nat_le NODE fault.code && nat_le fault.code END) || is_memory fault)
