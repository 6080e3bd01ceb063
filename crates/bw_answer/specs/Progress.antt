-- A result over the rows that were consumed.
use Rattle.std.specs.Prelude.{◌≡◌, ℕ, List, ◌++◌}
use Rattle.bw_model.specs.declared.query.Query.{Query}
use Rattle.bw_model.specs.Row.{Value}
use Rattle.bw_answer.specs.Output.{totals_in}
use Rattle.bw_answer.specs.TextAndTotals.{AreOver}
use Rattle.bw_answer.specs.declared.answer.Answer.{Answer}

-- the result of this query, over a table of columns of these names, is over these rows
abbrev pub IsOver : List (List ℕ) → Query → List (List Value) → Answer → Type 0
IsOver names query rows answer = (answer.query.now ≡ query)
    × AreOver names query rows answer.text.items (totals_in answer.output)

-- a result of the same query is over these rows after those that it was over, whichever they were
pub record GoesOver (start : Answer) (rows : List (List Value)) (now : Answer) : Type 0 where
  pub same : now.query.now ≡ start.query.now
  pub covers : (names : List (List ℕ)) (query : Query) (before : List (List Value))
      → IsOver names query before start → IsOver names query (before ++ rows) now

-- the query of a result
abbrev pub query_in : Answer → Query
query_in answer = answer.query.now
