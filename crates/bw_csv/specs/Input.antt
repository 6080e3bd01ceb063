-- The result of a call that reads a CSV text, by what its source yielded.
use Rattle.std.specs.Prelude.{◌≡◌, ◌||◌, ◌==◌, Bool, ℕ, List, Result, Ok, Err, Vec}
use Rattle.std.specs.declared.alloc.Global.{Global}
use Rattle.bw_model.specs.FaultTable.{CSV_TOO_LONG}
use Rattle.bw_model.specs.declared.fault.Fault.{Fault}
use Rattle.bw_model.specs.Fault.{nowhere}
use Rattle.bw_io.specs.Source.{Arrival, NotReached, Whole, TooLong, Failed, is_input_fault}

-- The result of a call that reads a CSV text, by what its source yielded. If the text was read
-- completely, it is that of this function. If the text is too long, or the source failed, it is
-- that error. A text that wasn't reached has no result.
abbrev pub IsMadeOf : {A : Type 0} → (List ℕ → Result A Fault) → Arrival → Result A Fault → Type 0
IsMadeOf make NotReached outcome = ⊥
IsMadeOf make (Whole text) outcome = outcome ≡ make text
IsMadeOf make TooLong outcome = outcome ≡ Err (nowhere CSV_TOO_LONG)
IsMadeOf make (Failed fault) outcome = outcome ≡ Err fault

-- The same for a call that takes another step first: if that step fails, the call fails by its
-- error, and doesn't reach the CSV.
abbrev pub IsMadeAfter : {A B : Type 0} → Result B Fault → (B → List ℕ → Result A Fault) → Arrival
    → Result A Fault → Type 0
IsMadeAfter (Ok x) make csv outcome = IsMadeOf (make x) csv outcome
IsMadeAfter (Err fault) make csv outcome = (csv ≡ NotReached) × (outcome ≡ Err fault)

-- a call that reads a CSV text returned all its bytes, or the error of what its source yielded
abbrev pub IsCsvResult : Arrival → Result (Vec ℕ Global) Fault → Type 0
IsCsvResult csv (Ok bytes) = csv ≡ Whole bytes.items
IsCsvResult csv (Err fault) = IsMadeOf Ok csv (Err fault)

-- the error is a failed read, out of memory, or a text past the limit
abbrev pub is_csv_input_fault : Fault → Bool
is_csv_input_fault fault = is_input_fault fault || fault.code == CSV_TOO_LONG
