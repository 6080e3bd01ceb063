-- A result over rows that come one at a time.
use Rattle.std.specs.Prelude.{◌≡◌, ◌++◌, ℕ, List}
use Rattle.bw_model.specs.declared.query.Query.{Query}
use Rattle.bw_model.specs.Row.{Value}
use Rattle.bw_answer.specs.Gathered.{HoldRows}
use Rattle.bw_answer.specs.Progress.{IsOver}
use Rattle.bw_answer.specs.declared.gathered.GatheredAnswer.{GatheredAnswer}

-- the columns of a result have these rows
abbrev pub Holds : List (List Value) → GatheredAnswer → Type 0
Holds rows now = HoldRows rows now.filled now.answer.filter now.answer.output now.summed.columns

-- The result of this query, over a table of columns of these names, is over these rows. The last of
-- them may only be gathered.
pub record HasTaken (names : List (List ℕ)) (query : Query) (rows : List (List Value))
    (now : GatheredAnswer) : Type 0 where
  pub before : List (List Value)
  pub group : List (List Value)
  pub parts : rows ≡ before ++ group
  pub over : IsOver names query before now.answer
  pub holds : Holds group now

-- a result of the same query is over these rows after those that it was over, whichever they were
pub record TakesOver (start : GatheredAnswer) (rows : List (List Value))
    (now : GatheredAnswer) : Type 0 where
  pub same : now.answer.query.now ≡ start.answer.query.now
  pub taken : (names : List (List ℕ)) (query : Query) (before : List (List Value))
      → HasTaken names query before start → HasTaken names query (before ++ rows) now
