-- A schema text, a CSV text and a statement determine the answer.
use Rattle.std.specs.Prelude.{ℕ, List, Some, Result, Ok}
use Rattle.bw_model.specs.declared.fault.Fault.{Fault}
use Rattle.bw_model.specs.declared.query.Query.{Query}
use Rattle.bw_model.specs.declared.schema.Schema.{Schema}
use Rattle.bw_model.specs.Fault.{◌>>=◌}
use Rattle.bw_model.specs.Limits.{longest_schema, longest_csv}
use Rattle.bw_model.specs.SchemaText.{SchemaShape, schema_shape}
use Rattle.bw_io.specs.Source.{Arrival, ReadOutcome, SourceState, source_state}
use Rattle.bw_sql.specs.QueryShape.{QueryShape, query_shape}
use Rattle.bw_csv_calls.specs.Direct.{IsAnswer}

-- the query that a statement is read as, or its error
abbrev pub query_asked_in : Result Query Fault → Result QueryShape Fault
query_asked_in reading = reading >>= λ query. Ok (query_shape query)

-- the name and the columns of the schema that a text is read as, or its error
abbrev pub shape_in : Result Schema Fault → Result SchemaShape Fault
shape_in reading = reading >>= λ schema. Ok (schema_shape schema)

-- what can be read of a source of this text, up to a limit, whether its reads fail or not
pub record IsArrivalOf (limit : ℕ) (text : List ℕ) (came : Arrival) : Type 0 where
  pub before : ℕ
  pub now : SourceState
  pub is : ReadOutcome limit (source_state (Some text) before) now came

-- over sources of this schema text and of this CSV text, `direct` may write this answer to the
-- statement
pub record DirectMayWrite (schema csv sql answer : List ℕ) : Type 0 where
  pub schema_came : Arrival
  pub csv_came : Arrival
  pub schema_source : IsArrivalOf longest_schema schema schema_came
  pub csv_source : IsArrivalOf longest_csv csv csv_came
  pub is : IsAnswer schema_came sql csv_came (Ok answer)
