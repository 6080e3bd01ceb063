-- Answers over what a load wrote.
use Rattle.std.specs.Prelude.{◌≡◌, ℕ, List, Option, Ok}
use Rattle.std.specs.Io.KnownBytes.{Appends}
use Rattle.bw_model.specs.declared.query.Query.{Query}
use Rattle.bw_model.specs.declared.schema.Schema.{Schema}
use Rattle.bw_csv_calls.specs.Direct.{answer_of}

-- a sink received the text of the answer to a query, over the rows that a CSV text spells under a
-- schema
pub record AnswersCsv (asks : Query → Type 0) (schema : Schema) (csv : List ℕ)
    (old new : Option (List ℕ)) : Type 0 where
  pub query : Query
  pub asked : asks query
  pub text : List ℕ
  pub is : answer_of schema.columns.items query csv ≡ Ok text
  pub took : Appends old new text
