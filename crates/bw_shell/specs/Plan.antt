-- A plan for a statement: a program file that is accepted for it.
use Rattle.std.specs.Prelude.{◌≡◌, ℕ, List, ◌++◌, codes, false, Result, Ok, Err}
use Rattle.bw_model.specs.FaultTable.{NO_PROGRAM}
use Rattle.bw_model.specs.declared.column.Column.{Column}
use Rattle.bw_model.specs.declared.fault.Fault.{Fault}
use Rattle.bw_model.specs.declared.query.Query.{Query}
use Rattle.bw_model.specs.declared.schema.Schema.{Schema}
use Rattle.bw_model.specs.Fault.{is_memory, nowhere}
use Rattle.bw_model.specs.SchemaText.{schema_shape, IsSchemaText}
use Rattle.bw_program.specs.PrintText as program_text
use Rattle.bw_program.specs.Program.{ProgramShape}
use Rattle.bw_program.specs.ProgramText.{IsProgramText}
use Rattle.bw_cert_text.specs.CertificateFields.{CertificateFields}
use Rattle.bw_cert_text.specs.CertificateShape.{CertificateShape}
use Rattle.bw_cert_text.specs.CertificateText.{IsCertificateText}
use Rattle.bw_cert_text.specs.PrintText as certificate_text
use Rattle.bw_cert_text.specs.Reprint.{renumber}
use Rattle.bw_cert.specs.FileVerdict.{Certifies}
use Rattle.bw_sql.specs.Statement.{IsReadAs}
use Rattle.bw_shell.specs.ParsedStatement.{IsStatementRefusal}

-- The file is the printed text of a program, the line CERTIFICATE, and the printed text of a
-- certificate. The first text spells that program. The second spells that certificate, in the
-- columns' spelling of names. Its numbers of lines follow from the number of its first line,
-- whichever that is.
pub record IsPrinted (columns : List Column) (file : List ℕ) : Type 0 where
  pub shown : ProgramShape
  pub stated : CertificateFields
  pub is : file ≡ program_text.print_text columns shown ++ codes "CERTIFICATE\n"
      ++ certificate_text.print_text columns stated
  pub spells : IsProgramText columns (program_text.print_text columns shown) shown
  pub states : (first : ℕ) → IsCertificateText first (certificate_text.print_text columns stated)
      (renumber first (certificate_text.respell columns stated))

-- the file is so printed from this program
pub record IsPrintedFrom (columns : List Column) (program : ProgramShape) (file : List ℕ) : Type 0
  where
    pub printed : IsPrinted columns file
    pub shown : printed.shown ≡ program

-- The first text spells a schema, and the statement a query under it. The file, which is printed as
-- above, spells a program and a certificate that is valid for it and the query's condition.
pub record IsPlan (text sql file : List ℕ) : Type 0 where
  pub schema : Schema
  pub query : Query
  pub program : ProgramShape
  pub certificate : CertificateShape
  pub spelled : IsSchemaText text (schema_shape schema)
  pub asked : IsReadAs schema sql (Ok query)
  pub printed : IsPrinted schema.columns.items file
  pub certifies : Certifies schema.columns.items query.cond file program certificate

-- the schema text's error; else the statement's under the schema; else that there is no plan
pub data IsPlanFault (text sql : List ℕ) : Fault → Type 0 where
  text_refused : {fault : Fault} → IsStatementRefusal text sql fault → IsPlanFault text sql fault
  unplanned : {schema : Schema} (query : Query) → IsSchemaText text (schema_shape schema) →
      IsReadAs schema sql (Ok query) → IsPlanFault text sql (nowhere NO_PROGRAM)

-- a plan, or the first error, unless memory ran out
abbrev pub IsPlanned : List ℕ → List ℕ → Result (List ℕ) Fault → Type 0
IsPlanned text sql (Ok file) = IsPlan text sql file
IsPlanned text sql (Err fault) = is_memory fault ≡ false → IsPlanFault text sql fault
