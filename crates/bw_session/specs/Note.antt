-- What a session tells its listener of each statement.
use Rattle.std.specs.Prelude.{◌≡◌, ℕ, zero, suc, List, [], ◌∷◌, ◌++◌, Option, Some, None}
use Rattle.bw_model.specs.declared.fault.Fault.{Fault}
use Rattle.bw_report.specs.declared.served.Served.{Served}
use Rattle.bw_query.specs.declared.served.StoreServed.{StoreServed}

-- How a statement was served; after that, how many segments were settled; or the first 65,537 bytes
-- of one that was rejected, and its error.
pub data Note : Type 0 where
  answered : Served → Note
  settled : ℕ → Note
  rejected : List ℕ → Fault → Note

-- how many segments were settled, if any were
abbrev pub settled_notes : ℕ → List Note
settled_notes zero = []
settled_notes (suc count) = settled (suc count) ∷ []

-- what is told of a statement that was served so
abbrev pub served_notes : StoreServed → List Note
served_notes how = answered how.served ∷ settled_notes how.settled

-- a listener that states what it was told was told these notes, after those before
abbrev pub Hears : Option (List Note) → Option (List Note) → List Note → Type 0
Hears None new notes = Unit {0}
Hears (Some before) None notes = ⊥
Hears (Some before) (Some after) notes = after ≡ before ++ notes
