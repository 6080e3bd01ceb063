-- What is said of a schema and of a query that texts spell holds of those that are read of them.
use Rattle.std.proofs.Common.{◌≡◌, IfOk, sym, ap, subst, ℕ, List, false, true, IsTrue, Result, Ok, Err}
use Rattle.bw_model.specs.declared.column.Column.{Column}
use Rattle.bw_model.specs.declared.cond.Cond.{Cond}
use Rattle.bw_model.specs.declared.fault.Fault.{Fault}
use Rattle.bw_model.specs.declared.query.Query.{Query}
use Rattle.bw_model.specs.declared.schema.Schema.{Schema}
use Rattle.bw_model.specs.CondTree.{tree_of}
use Rattle.bw_model.specs.Fault.{MatchesUnlessOom, is_memory, no_memory}
use Rattle.bw_model.specs.SchemaText.{SchemaShape, schema_shape, IsSchemaText}
use Rattle.bw_program.specs.Program.{ProgramShape}
use Rattle.bw_cert_text.specs.CertificateShape.{CertificateShape}
use Rattle.bw_sql.specs.QueryShape.{QueryShape, query_shape}
use Rattle.bw_sql.specs.Statement.{Spells}
use Rattle.bw_sql.proofs.SameNames.{columns_too, spells_too}
use Rattle.bw_sql.proofs.Texts.{text_query}
use Rattle.bw_cert.specs.declared.accepted.Accepted.{Accepted}
use Rattle.bw_cert.specs.declared.certified_file.CertifiedFile.{CertifiedFile}
use Rattle.bw_shell.specs.CheckText.{IsAccepted}
use Rattle.bw_shell.specs.ParsedStatement.{shape_of}
use Rattle.bw_cert.specs.FileVerdict.{Certifies, counts_of, program_and_counts, told_of}

-- a schema text spells a schema that has the shape of the one that was read
module _ (sql : List ℕ) (schema other : Schema) where
  shapes_of : ◌≡◌ {A = Result SchemaShape Fault} (Ok (schema_shape other)) (Ok (schema_shape schema)) → schema_shape other ≡ schema_shape schema
  shapes_of read = cc

  pub same_shapes : (query asked : Query) → ◌≡◌ {A = Result SchemaShape Fault} (Ok (schema_shape other)) (Ok (schema_shape schema)) →
      Spells other sql (query_shape asked) → Spells schema sql (query_shape query) →
      ◌≡◌ {A = Result (SchemaShape × QueryShape) Fault} (Ok (shape_of other asked)) (Ok (shape_of schema query))
  same_shapes query asked read spells here =
      let shapes = shapes_of read in
      let one = text_query schema sql (query_shape asked) (query_shape query) (spells_too other schema sql (query_shape asked) shapes spells) here in
      cc

  -- no statement that is spelled is rejected but for memory
  pub none_refused : (asked : Query) (fault : Fault) → ◌≡◌ {A = Result SchemaShape Fault} (Ok (schema_shape other)) (Ok (schema_shape schema)) →
      Spells other sql (query_shape asked) → ((query : QueryShape) → Spells schema sql query → fault ≡ no_memory) →
      is_memory fault ≡ false → ◌≡◌ {A = Result (SchemaShape × QueryShape) Fault} (Ok (shape_of other asked)) (Err fault)
  none_refused asked fault read spells refused aside =
      let memory = ap is_memory (refused (query_shape asked) (spells_too other schema sql (query_shape asked) (shapes_of read) spells)) in
      let never : true ≡ false = cc in cc

-- what is accepted has the numbers of what is found for the schema and the query that were read
pub numbers_given : (text sql file : List ℕ) (accepted : Accepted) (is : IsAccepted text sql file accepted) (schema : Schema) (query : Query) →
    ◌≡◌ {A = Result (SchemaShape × QueryShape) Fault} (Ok (shape_of is.schema is.query)) (Ok (shape_of schema query)) → (result : Result Accepted Fault) →
    ((same : Cond) (program : ProgramShape) (certificate : CertificateShape) → tree_of same ≡ tree_of query.cond →
    Certifies schema.columns.items same file program certificate → MatchesUnlessOom (λ numbers. numbers) result (Ok (counts_of program certificate))) →
    MatchesUnlessOom (λ numbers. numbers) result (Ok accepted)
numbers_given text sql file accepted is schema query read result gives =
    let both : shape_of is.schema is.query ≡ shape_of schema query = cc in
    let shapes : schema_shape is.schema ≡ schema_shape schema = ap (λ (shapes : SchemaShape × QueryShape). shapes.0) both in
    let one : query_shape is.query ≡ query_shape query = ap (λ (shapes : SchemaShape × QueryShape). shapes.1) both in
    let certifies = subst (λ (columns : List Column). Certifies columns is.query.cond file is.program is.certificate) (columns_too is.schema schema shapes) is.certifies in
    subst (λ (numbers : Accepted). MatchesUnlessOom (λ numbers. numbers) result (Ok numbers)) (sym is.numbers)
    (gives is.query.cond is.program is.certificate (ap (λ (query_shape : QueryShape). query_shape.cond) one) certifies)

-- what is certified for the query that was read is accepted
pub accepted_so : (text sql file : List ℕ) (schema : Schema) (query : Query) → IsSchemaText text (schema_shape schema) → Spells schema sql (query_shape query) → (result : Result Accepted Fault) →
    IfOk result (λ numbers. (program : ProgramShape) × (certificate : CertificateShape) × Certifies schema.columns.items query.cond file program certificate × (numbers ≡ counts_of program certificate)) →
    IfOk result (λ numbers. IsAccepted text sql file numbers)
accepted_so text sql file schema query spelled spells (Ok numbers) is =
    record { schema = schema; query = query; program = is.0; certificate = is.1; spelled = spelled; asked = spells; certifies = is.2; numbers = is.3 }
accepted_so text sql file schema query spelled spells (Err fault) is = tt

-- the numbers of what was found
pub numbers_told : (program : ProgramShape) (certificate : CertificateShape) (found : CertifiedFile) → ◌≡◌ {A = Result (ProgramShape × Accepted) Fault} (Ok (told_of program certificate)) (Ok (program_and_counts found)) →
    ◌≡◌ {A = Result Accepted Fault} (Ok (counts_of program certificate)) (Ok found.accepted)
numbers_told program certificate found same = let both : told_of program certificate ≡ program_and_counts found = cc in ap (λ (program_and_counts : ProgramShape × Accepted). Ok program_and_counts.1) both

pub never_told : (program : ProgramShape) (certificate : CertificateShape) (fault : Fault) → ◌≡◌ {A = Result (ProgramShape × Accepted) Fault} (Ok (told_of program certificate)) (Err fault) → ⊥
never_told program certificate fault both = cc
