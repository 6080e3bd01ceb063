-- A program file with a certificate that was found for a program.
use Rattle.std.specs.Prelude.{◌≡◌, ◌≤◌, ℕ, List, [], ◌∷◌, length, drop, false, Bool, ◌||◌, ◌==◌}
use Rattle.std.specs.Prelude.{Result, Ok, Err}
use Rattle.bw_model.specs.FaultTable.{NO_CERTIFICATE}
use Rattle.bw_model.specs.declared.column.Column.{Column}
use Rattle.bw_model.specs.declared.cond.Cond.{Cond}
use Rattle.bw_model.specs.declared.fault.Fault.{Fault}
use Rattle.bw_model.specs.declared.query.Query.{Query}
use Rattle.bw_model.specs.declared.schema.Schema.{Schema}
use Rattle.bw_model.specs.Fault.{is_memory, at_line}
use Rattle.bw_model.specs.SchemaText.{schema_shape, IsSchemaText}
use Rattle.bw_text.specs.Lines.{NumberedWords, end_in, lines_in, whole}
use Rattle.bw_program.specs.Program.{ProgramShape}
use Rattle.bw_program.specs.ProgramText.{program_of, is_program_fault, IsProgramText}
use Rattle.bw_cert_text.specs.CertificateShape.{CertificateShape}
use Rattle.bw_cert.specs.FileVerdict.{Certifies}
use Rattle.bw_cert.specs.ProgramFile.{IsCut}
use Rattle.bw_sql.specs.Statement.{IsReadAs}
use Rattle.bw_shell.specs.ParsedStatement.{IsStatementRefusal}
use Rattle.bw_shell.specs.Plan.{IsPrinted}

-- The file is the printed text of the program that a text spells before its line CERTIFICATE, that
-- line, and the printed text of a certificate. As a whole it spells a program, and a certificate
-- that is valid for it and the condition.
pub record IsCertificationOf (columns : List Column) (cond : Cond) (text file : List ℕ) : Type 0
  where
    pub given : List ℕ
    pub rest : List ℕ
    pub first : ℕ
    pub program : ProgramShape
    pub certificate : CertificateShape
    pub cut : IsCut text given rest first
    pub printed : IsPrinted columns file
    pub same : IsProgramText columns given printed.shown
    pub certifies : Certifies columns cond file program certificate

-- the number of the first of these lines, or of an error at their end if there is none
abbrev pub number_at : List NumberedWords → ℕ → ℕ
number_at [] end = end
number_at (line ∷ lines) end = line.number

-- The number of the line of a program text's instruction, which are numbered from 0, or of its
-- result, whose line is after that of the last instruction.
abbrev pub line_numbered : List ℕ → ℕ → ℕ
line_numbered text instruction = number_at (drop instruction (lines_in (whole text)))
    (end_in (whole text))

-- the error of the program's text; else, if that spells a program, that no certificate is found, at
-- the line of one of its instructions or of its result
pub data IsUncertified (columns : List Column) (text : List ℕ) : Fault → Type 0 where
  program_refused : {given rest : List ℕ} {first : ℕ} {fault : Fault} →
      IsCut text given rest first → program_of columns given ≡ Err fault →
      IsUncertified columns text fault
  no_certificate : {given rest : List ℕ} {first : ℕ} {program : ProgramShape}
      (instruction : ℕ) → instruction ≤ length program.instrs →
      IsCut text given rest first → IsProgramText columns given program →
      IsUncertified columns text (at_line NO_CERTIFICATE (line_numbered given instruction))

-- it is 652, at the line of one of these many instructions of a text or of its result, or out of
-- memory
abbrev pub IsNotFound : List ℕ → ℕ → Fault → Type 0
IsNotFound text instructions fault = is_memory fault ≡ false → (instruction : ℕ)
    × (instruction ≤ instructions)
    × (fault ≡ at_line NO_CERTIFICATE (line_numbered text instruction))

-- it is one of 501 to 507 or 652, or out of memory
abbrev pub is_certification_fault : Fault → Bool
is_certification_fault fault = is_program_fault fault || (fault.code == NO_CERTIFICATE)

-- The first text spells a schema, and the statement a query under it; the file is for the third
-- text's program and the query's condition.
pub record IsCertification (schema_text sql text file : List ℕ) : Type 0 where
  pub schema : Schema
  pub query : Query
  pub spelled : IsSchemaText schema_text (schema_shape schema)
  pub asked : IsReadAs schema sql (Ok query)
  pub made : IsCertificationOf schema.columns.items query.cond text file

-- the schema text's error; else the statement's under the schema; else that of the program
pub data IsCertificationFault (schema_text sql text : List ℕ) : Fault → Type 0 where
  text_refused : {fault : Fault} → IsStatementRefusal schema_text sql fault →
      IsCertificationFault schema_text sql text fault
  uncertified : {schema : Schema} {fault : Fault} (query : Query) →
      IsSchemaText schema_text (schema_shape schema) → IsReadAs schema sql (Ok query) →
      IsUncertified schema.columns.items text fault →
      IsCertificationFault schema_text sql text fault

-- a file, or the first error, unless memory ran out
abbrev pub IsCertified : List ℕ → List ℕ → List ℕ → Result (List ℕ) Fault → Type 0
IsCertified schema_text sql text (Ok file) = IsCertification schema_text sql text file
IsCertified schema_text sql text (Err fault) = is_memory fault ≡ false
    → IsCertificationFault schema_text sql text fault
