-- How the next record of a text is read.
use Rattle.std.specs.Prelude.{◌≡◌, ◌+◌, ℕ, List, [], Bool, Some, None}
use Rattle.std.specs.Bool.{MatchBool}
use Rattle.csv.specs.Machine.{next_record}
use Rattle.csv.specs.declared.parser.State.{State}
use Rattle.bw_encode.specs.declared.dialect.Dialect.{Dialect}
use Rattle.bw_encode.specs.declared.records.After.{After}
use Rattle.bw_encode.specs.Dialect.{config_of, loose_from}
use Rattle.bw_encode.specs.Place.{state_of}

-- Whether a text's next record has a loose quotation mark: if it has, it is the first, whichever
-- number it has; if it hasn't, the first is in the records after it.
abbrev pub IsLoose : Dialect → State → List ℕ → Bool → State → List ℕ → Type 0
IsLoose dialect state text loose next rest = MatchBool loose
    ((number : ℕ) → loose_from dialect number state text ≡ Some number)
    ((number : ℕ) → loose_from dialect number state text
    ≡ loose_from dialect (number + 1) next rest)

-- a text's next record has these fields, and this follows it
pub record IsReadAs (dialect : Dialect) (state : State) (text : List ℕ) (fields : List (List ℕ))
    (after : After) : Type 0 where
  pub read : next_record (config_of dialect) state [] [] text
      ≡ Some (fields, state_of after.place, after.text.now)
  pub loose : IsLoose dialect state text after.is_loose (state_of after.place) after.text.now

-- a text has no record more, and no loose quotation mark
pub record HasNoRecord (dialect : Dialect) (state : State) (text : List ℕ) : Type 0 where
  pub none : next_record (config_of dialect) state [] [] text ≡ None
