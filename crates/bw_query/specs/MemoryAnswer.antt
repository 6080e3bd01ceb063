-- The expected result of a query over a table in memory.
use Rattle.std.specs.Prelude.{◌≡◌, ℕ, ◌||◌, Bool, false, List, Option, Result, Ok, Err}
use Rattle.std.specs.Io.KnownBytes.{Appends}
use Rattle.bw_model.specs.declared.fault.Fault.{Fault}
use Rattle.bw_model.specs.declared.query.Query.{Query}
use Rattle.bw_model.specs.declared.schema.Schema.{Schema}
use Rattle.bw_model.specs.Column.{names_of}
use Rattle.bw_model.specs.Fault.{is_memory}
use Rattle.bw_model.specs.Row.{Value}
use Rattle.bw_answer.specs.Answer.{csv_text, meaning}
use Rattle.bw_io.specs.Sink.{is_write_fault}

-- the text is that of the query's meaning over the rows
pub record RowsText (asks : Schema → Result Query Fault → Type 0) (schema : Schema)
    (rows : List (List Value))
    (text : List ℕ) : Type 0 where
  pub query : Query
  pub asked : asks schema (Ok query)
  pub is : text ≡ csv_text (meaning (names_of schema.columns.items) query rows)

-- The text of the query's meaning, or the query's error, under the table's schema over its rows.
-- Out of memory may be the error at any time.
abbrev pub IsMemoryAnswer : (Schema → Result Query Fault → Type 0) → Schema → List (List Value)
    → Result (List ℕ) Fault → Type 0
IsMemoryAnswer asks schema rows (Ok text) = RowsText asks schema rows text
IsMemoryAnswer asks schema rows (Err fault) = is_memory fault ≡ false → asks schema (Err fault)

-- a sink consumed the text of the query's meaning over the rows
pub record AnswersRows (asks : Schema → Result Query Fault → Type 0) (schema : Schema)
    (rows : List (List Value))
    (old new : Option (List ℕ)) : Type 0 where
  pub query : Query
  pub asked : asks schema (Ok query)
  pub text : Appends old new (csv_text (meaning (names_of schema.columns.items) query rows))

-- an error that depends on no statement: a failed write, or out of memory
abbrev pub is_output_fault : Fault → Bool
is_output_fault fault = is_memory fault || is_write_fault fault
