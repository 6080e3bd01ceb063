-- The expected result of checking a program file, from the texts of a schema, of a statement and of
-- the file.
use Rattle.std.specs.Prelude.{◌≡◌, ℕ, List, Ok}
use Rattle.bw_model.specs.declared.fault.Fault.{Fault}
use Rattle.bw_model.specs.declared.query.Query.{Query}
use Rattle.bw_model.specs.declared.schema.Schema.{Schema}
use Rattle.bw_model.specs.SchemaText.{schema_shape, IsSchemaText}
use Rattle.bw_program.specs.Program.{ProgramShape}
use Rattle.bw_cert_text.specs.CertificateShape.{CertificateShape}
use Rattle.bw_sql.specs.Statement.{IsReadAs}
use Rattle.bw_cert.specs.declared.accepted.Accepted.{Accepted}
use Rattle.bw_cert.specs.FileVerdict.{Certifies, IsFileFault, counts_of}
use Rattle.bw_shell.specs.ParsedStatement.{IsStatementRefusal}

-- The first text spells a schema, the statement a query under it, and the file a program and a
-- certificate that is valid for it and the query's condition. These are their numbers.
pub record IsAccepted (text sql file : List ℕ) (accepted : Accepted) : Type 0 where
  pub schema : Schema
  pub query : Query
  pub program : ProgramShape
  pub certificate : CertificateShape
  pub spelled : IsSchemaText text (schema_shape schema)
  pub asked : IsReadAs schema sql (Ok query)
  pub certifies : Certifies schema.columns.items query.cond file program certificate
  pub numbers : accepted ≡ counts_of program certificate

-- The error of these three: that of the schema text; else that of the statement under the schema;
-- else that of the file.
pub data IsCheckFault (text sql file : List ℕ) : Fault → Type 0 where
  text_refused : {fault : Fault} → IsStatementRefusal text sql fault →
      IsCheckFault text sql file fault
  file_refused : {schema : Schema} (query : Query) {fault : Fault} →
      IsSchemaText text (schema_shape schema) →
      IsReadAs schema sql (Ok query) → IsFileFault schema.columns.items query.cond file fault
      → IsCheckFault text sql file fault
