-- The expected result of a query straight from a CSV text, by what the schema's and the CSV's
-- sources yielded.
use Rattle.std.specs.Prelude.{◌≡◌, ◌&&◌, ◌||◌, Bool, ℕ, List, nat_le, Result, Ok, Err}
use Rattle.bw_model.specs.FaultTable.{SCHEMA_FORM, SCHEMA_TOO_LONG, CHARACTER, NESTING}
use Rattle.bw_model.specs.declared.fault.Fault.{Fault}
use Rattle.bw_model.specs.declared.query.Query.{Query}
use Rattle.bw_model.specs.declared.schema.Schema.{Schema}
use Rattle.bw_model.specs.Fault.{◌>>=◌}
use Rattle.bw_io.specs.Source.{Arrival, NotReached}
use Rattle.bw_sql.specs.Statement.{IsReadAs}
use Rattle.bw_model.specs.declared.column.Column.{Column}
use Rattle.bw_model.specs.Column.{names_of}
use Rattle.bw_csv.specs.Rows.{rows_of}
use Rattle.bw_answer.specs.Answer.{csv_text, meaning}
use Rattle.bw_csv.specs.Input.{IsMadeAfter}
use Rattle.bw_csv_calls.specs.ReadInputs.{IsSchemaFrom}

-- the error is one of a schema text or of a statement, which is returned before the CSV is read
abbrev pub is_before_csv : Fault → Bool
is_before_csv fault = (nat_le SCHEMA_FORM fault.code && nat_le fault.code SCHEMA_TOO_LONG)
    || (nat_le CHARACTER fault.code && nat_le fault.code NESTING)

-- the text of a query's result over the rows that a CSV text spells, or the text's first error
abbrev pub answer_of : List Column → Query → List ℕ → Result (List ℕ) Fault
answer_of columns query csv = rows_of columns csv
    >>= λ rows. Ok (csv_text (meaning (names_of columns) query rows))

-- The text of the result, by what the schema was read as, or the first error in the order of the
-- schema, the statement and the CSV. If the schema or the statement is rejected, the CSV isn't
-- reached.
abbrev pub IsAnswerUnder : Result Schema Fault → List ℕ → Arrival → Result (List ℕ) Fault → Type 0
IsAnswerUnder (Ok schema) sql csv given = (statement : Result Query Fault)
    × IsReadAs schema sql statement
    × IsMadeAfter statement (answer_of schema.columns.items) csv given
IsAnswerUnder (Err fault) sql csv given = (csv ≡ NotReached) × (given ≡ Err fault)

-- so it is, by what the schema's source yielded
abbrev pub IsAnswer : Arrival → List ℕ → Arrival → Result (List ℕ) Fault → Type 0
IsAnswer came sql csv given = (schema : Result Schema Fault) × IsSchemaFrom came schema
    × IsAnswerUnder schema sql csv given
