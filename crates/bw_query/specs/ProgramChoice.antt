-- The program that serves a condition, chosen among program files.
use Rattle.std.specs.Prelude.{All, ◌≡◌, ◌≤◌, ℕ, List, length, map, slice_get, take, Option, Some}
use Rattle.std.specs.Prelude.{None, Vec}
use Rattle.std.specs.declared.alloc.Global.{Global}
use Rattle.bw_model.specs.declared.column.Column.{Column}
use Rattle.bw_model.specs.declared.cond.Cond.{Cond}
use Rattle.bw_model.specs.declared.query.Query.{Query}
use Rattle.bw_model.specs.declared.schema.Schema.{Schema}
use Rattle.bw_model.specs.Row.{Value}
use Rattle.bw_program.specs.Program.{ProgramShape}
use Rattle.bw_program.specs.ProgramText.{IsProgramText}
use Rattle.bw_cert_text.specs.CertificateFields.{CertificateFields}
use Rattle.bw_cert_text.specs.CertificateText.{IsCertificateText}
use Rattle.bw_cert.specs.ProgramFile.{IsCut, longest_program_file}
use Rattle.bw_cert.specs.declared.certified.Certified.{Certified}
use Rattle.bw_report.specs.declared.served.Served.{Served}
use Rattle.bw_query.specs.declared.scan.Scan.{Scan}
use Rattle.bw_query.specs.declared.scan.Scan.TheVariants.{Program}
use Rattle.bw_query.specs.Scan.{IsChosen, IsFor, IsUsable}
use Rattle.bw_query.specs.Served.{IsServed}

-- the bytes of program files
abbrev pub texts_of : List (Vec ℕ Global) → List (List ℕ)
texts_of files = map (λ file. file.items) files

-- no program and certificate of the file are accepted for the condition
abbrev pub IsRejected : List Column → Cond → List ℕ → Type 0
IsRejected columns cond file = IsUsable (Some file) columns cond → ⊥

-- the first of some program files that is accepted for a condition; none, if none is
pub data IsFirstUsable (files : List (List ℕ)) (columns : List Column) (cond : Cond) : Option
    (List ℕ) → Type 0 where
  first : (number : ℕ) (file : List ℕ) → slice_get files number ≡ Some file
      → All (IsRejected columns cond) (take number files) → IsUsable (Some file) columns cond
      → IsFirstUsable files columns cond (Some file)
  none : All (IsRejected columns cond) files → IsFirstUsable files columns cond None

-- The program of the first file that is accepted is used. If none is, it's some program that with
-- some certificate is valid, or none.
abbrev pub IsChosenAmong : List (List ℕ) → List Column → Cond → Scan → Type 0
IsChosenAmong files columns cond scan =
    (file : Option (List ℕ)) × IsFirstUsable files columns cond file
    × IsChosen file columns cond scan

-- the query is served over groups of rows by the program that is so chosen
abbrev pub IsServedAmong : List (List ℕ) → Schema → Query → List (List (List Value)) → Served
    → Type 0
IsServedAmong files schema query groups served = (file : Option (List ℕ))
    × IsFirstUsable files schema.columns.items query.cond file
    × IsServed file schema query groups served

-- what a program file yields for a condition: its program, if it's accepted
abbrev pub IsYield : List ℕ → List Column → Cond → Option Certified → Type 0
IsYield file columns cond (Some certified) =
    IsFor columns cond (Program certified) × IsChosen (Some file) columns cond (Program certified)
IsYield file columns cond None = IsRejected columns cond file

-- a program file isn't too long, and spells a program and a certificate, valid or not
pub record IsFileRead (columns : List Column) (file : List ℕ) : Type 0 where
  pub short : length file ≤ longest_program_file
  pub program_text : List ℕ
  pub certificate_text : List ℕ
  pub first : ℕ
  pub cut : IsCut file program_text certificate_text first
  pub program : ProgramShape
  pub spelled : IsProgramText columns program_text program
  pub fields : CertificateFields
  pub stated : IsCertificateText first certificate_text fields
