-- The expected result of a query over a table whose columns are read when they are needed.
use Rattle.std.specs.Prelude.{◌≡◌, ◌⊎◌, ◌+◌, ◌∷◌, [], ℕ, Bool, true, false, List, Option}
use Rattle.std.specs.Prelude.{Result, Ok, Err}
use Rattle.bw_model.specs.declared.cond.Cond.{Cond}
use Rattle.bw_model.specs.declared.fault.Fault.{Fault}
use Rattle.bw_model.specs.declared.query.Query.{Query}
use Rattle.bw_model.specs.declared.schema.Schema.{Schema}
use Rattle.bw_model.specs.Fault.{is_memory}
use Rattle.bw_model.specs.Groups.{groups_of}
use Rattle.bw_model.specs.Row.{Value}
use Rattle.bw_model.specs.Selection.{matching_rows}
use Rattle.bw_memory.specs.ColumnStore.{ColumnSource, HasFirstFault, HasRows, in_file, in_memory}
use Rattle.bw_query.specs.MemoryAnswer.{AnswersRows, RowsText}
use Rattle.bw_query.specs.NamedColumns.{is_named_by}
use Rattle.bw_query.specs.ProgramChoice.{IsServedAmong}
use Rattle.bw_query.specs.Settled.{only_counts}
use Rattle.bw_query.specs.declared.served.StoreServed.{StoreServed}

-- the text is that of the query's meaning over rows that have the columns which the query names
pub record StoreText (asks : Schema → Result Query Fault → Type 0) (schema : Schema)
    (source : ColumnSource) (text : List ℕ) : Type 0 where
  pub rows : List (List Value)
  pub found : RowsText asks schema rows text
  pub have : HasRows source (is_named_by found.query) rows

-- the query was accepted, and a column that it names has this error
pub record HasColumnError (asks : Schema → Result Query Fault → Type 0) (schema : Schema)
    (source : ColumnSource) (fault : Fault) : Type 0 where
  pub query : Query
  pub asked : asks schema (Ok query)
  pub fails : HasFirstFault source (is_named_by query) fault

-- The text of the query's meaning; or the query's error, or that of a column that it names. Out of
-- memory may be the error at any time.
abbrev pub IsStoreAnswer : (Schema → Result Query Fault → Type 0) → Schema → ColumnSource
    → Result (List ℕ) Fault → Type 0
IsStoreAnswer asks schema source (Ok text) = StoreText asks schema source text
IsStoreAnswer asks schema source (Err fault) = is_memory fault ≡ false
    → asks schema (Err fault) ⊎ HasColumnError asks schema source fault

-- The groups of rows that are left of some groups without settled ones, this many. The condition is
-- TRUE on no row of a settled group; or, if rows are only counted, on each: then its rows are counted
-- without being read.
pub data IsRest (cond : Cond) (counts : Bool) : List (List (List Value)) → List (List (List Value))
    → ℕ → Type 0 where
  nothing : IsRest cond counts [] [] 0
  keeps : {groups rest : List (List (List Value))} {count : ℕ} (group : List (List Value))
      → IsRest cond counts groups rest count
      → IsRest cond counts (group ∷ groups) (group ∷ rest) count
  omits : {groups rest : List (List (List Value))} {count : ℕ} (group : List (List Value))
      → matching_rows cond group ≡ [] → IsRest cond counts groups rest count
      → IsRest cond counts (group ∷ groups) rest (count + 1)
  counted : {groups rest : List (List (List Value))} {count : ℕ} (group : List (List Value))
      → counts ≡ true → matching_rows cond group ≡ group → IsRest cond counts groups rest count
      → IsRest cond counts (group ∷ groups) rest (count + 1)

-- no segment of a table in memory is settled
abbrev pub SettlesOf : ColumnSource → ℕ → Type 0
SettlesOf (in_memory whole) count = count ≡ 0
SettlesOf (in_file known header) count = Unit {0}

-- A query over rows was served by the program that is chosen among program files, over the rows'
-- groups without settled ones.
pub record IsServedFrom (source : ColumnSource) (files : List (List ℕ)) (schema : Schema)
    (query : Query) (rows : List (List Value)) (how : StoreServed) : Type 0 where
  pub rest : List (List (List Value))
  pub settled : IsRest query.cond (only_counts query how.served.by) (groups_of rows) rest how.settled
  pub from : SettlesOf source how.settled
  pub serves : IsServedAmong files schema query rest how.served

-- a sink consumed the text of the query's meaning over such rows, and it was served so
pub record AnswersStore (asks : Schema → Result Query Fault → Type 0) (schema : Schema)
    (source : ColumnSource) (files : List (List ℕ)) (old new : Option (List ℕ))
    (how : StoreServed) : Type 0 where
  pub rows : List (List Value)
  pub found : AnswersRows asks schema rows old new
  pub have : HasRows source (is_named_by found.query) rows
  pub serves : IsServedFrom source files schema found.query rows how
