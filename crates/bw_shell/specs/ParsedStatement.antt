-- A statement under a schema, or the first error, from the texts of both.
use Rattle.std.specs.Prelude.{◌≡◌, ℕ, List, Ok, Err}
use Rattle.bw_model.specs.declared.fault.Fault.{Fault}
use Rattle.bw_model.specs.declared.query.Query.{Query}
use Rattle.bw_model.specs.declared.schema.Schema.{Schema}
use Rattle.bw_model.specs.SchemaText.{SchemaShape, schema_of, schema_shape, IsSchemaText}
use Rattle.bw_sql.specs.QueryShape.{QueryShape, query_shape}
use Rattle.bw_sql.specs.Statement.{IsReadAs}
use Rattle.bw_shell.specs.declared.statement.ParsedStatement.{ParsedStatement}

-- the first text spells the schema, and the statement the query under it
pub record IsStatement (text sql : List ℕ) (schema : Schema) (query : Query) : Type 0 where
  pub spelled : IsSchemaText text (schema_shape schema)
  pub asked : IsReadAs schema sql (Ok query)

-- the schema text's error; else the statement's under the schema
pub data IsStatementRefusal (text sql : List ℕ) : Fault → Type 0 where
  schema_refused : {fault : Fault} → schema_of text ≡ Err fault → IsStatementRefusal text sql fault
  statement_refused : {schema : Schema} {fault : Fault} → IsSchemaText text (schema_shape schema) →
      IsReadAs schema sql (Err fault) → IsStatementRefusal text sql fault

-- a schema and a query, wherever they are stored
abbrev pub shape_of : Schema → Query → SchemaShape × QueryShape
shape_of schema query = (schema_shape schema, query_shape query)

abbrev pub parsed_shape : ParsedStatement → SchemaShape × QueryShape
parsed_shape parsed = shape_of parsed.schema parsed.query
