-- The first fields of a record that has more.
use Rattle.std.specs.Prelude.{◌≡◌, ◌<◌, ◌≤◌, ◌⊎◌, ℕ, Bool, true, false, List, [], ◌∷◌, ◌++◌, length}
use Rattle.std.specs.Prelude.{take, Some}
use Rattle.csv.specs.declared.parser.Action.{Action}
use Rattle.csv.specs.declared.parser.Action.TheVariants as act
use Rattle.csv.specs.declared.parser.State.TheVariants as st
use Rattle.bw_csv.specs.Records.{records_in}

-- the action ends a field, and not the record
abbrev pub is_field_closed : Action → Bool
is_field_closed act.EndField = true
is_field_closed _ = false

-- The first of the records has more than `count` fields. The other list has one record, of the
-- first `count` of these fields and an empty one.
pub record IsCutRecord (count : ℕ) (whole cut : List (List (List ℕ))) : Type 0 where
  pub first : List (List ℕ)
  pub many : length first ≡ count
  pub next : List ℕ
  pub others : List (List ℕ)
  pub more : List (List (List ℕ))
  pub whole_is : whole ≡ (first ++ next ∷ others) ∷ more
  pub cut_is : cut ≡ (first ++ [] ∷ []) ∷ []

-- the records are the same, or the first of them is cut after `count` fields
abbrev pub IsCutAfter : ℕ → List (List (List ℕ)) → List (List (List ℕ)) → Type 0
IsCutAfter count whole cut = (cut ≡ whole) ⊎ IsCutRecord count whole cut

-- The first record of a text has more than `count` fields, and the text up to this place has the
-- first of them.
abbrev pub HasMoreFields : ℕ → List ℕ → ℕ → Type 0
HasMoreFields count text end = (1 ≤ end) × (end ≤ length text)
    × IsCutRecord count (records_in st.StartRecord (Some text))
    (records_in st.StartRecord (Some (take end text)))

-- the first of these records has more than `count` fields
abbrev pub IsLonger : ℕ → List (List (List ℕ)) → Type 0
IsLonger count records = (fields : List (List ℕ)) × (more : List (List (List ℕ)))
    × (records ≡ fields ∷ more)
    × (count < length fields)
