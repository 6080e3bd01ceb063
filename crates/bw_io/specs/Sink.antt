-- How much of a text was written to a sink.
use Rattle.std.specs.Prelude.{◌≡◌, ◌==◌, ℕ, ◌+◌, ◌<◌, Bool, false, List, length, take, Option}
use Rattle.std.specs.Prelude.{Result, Ok, Err}
use Rattle.std.specs.Io.KnownBytes.{Appends}
use Rattle.bw_model.specs.FaultTable.{WRITE_FAILED}
use Rattle.bw_model.specs.declared.fault.Fault.{Fault}
use Rattle.bw_model.specs.Fault.{nowhere}

-- the error is a failed write
abbrev pub is_write_fault : Fault → Bool
is_write_fault fault = fault.code == WRITE_FAILED

-- A sink before or after a call: the bytes that it consumed, if it states them, and how many writes
-- have failed.
pub record SinkState : Type 0 where
  pub taken : Option (List ℕ)
  pub failures : ℕ

abbrev pub sink_state : Option (List ℕ) → ℕ → SinkState
sink_state taken failures = record { taken = taken; failures = failures }

-- a part from the text's front was consumed, and not all of it
abbrev pub TookPart : Option (List ℕ) → Option (List ℕ) → List ℕ → Type 0
TookPart old new text = (n : ℕ) × (n < length text) × Appends old new (take n text)

-- The text was written completely, or up to a failed write, after which no other was made. The
-- sink's count of failures rises by one at a failed write, else by none.
abbrev pub GoesOut : {T : Type 0} → SinkState → SinkState → List ℕ → Result T Fault → Type 0
GoesOut old new text (Ok x) = Appends old.taken new.taken text × (new.failures ≡ old.failures)
GoesOut old new text (Err fault) = (fault ≡ nowhere WRITE_FAILED)
    × TookPart old.taken new.taken text × (new.failures ≡ old.failures + 1)

-- What a call did to its sink if it writes a text or fails. Either everything was written; or a
-- beginning was written, and then a write failed; or nothing was written, and the call returned the
-- expected error, or an exempt one. The sink's count of failures rises by one at a failed write,
-- else by none.
pub data WriteOutcome {T : Type 0} (aside : Fault → Bool) (old new : SinkState)
    (given : Result (List ℕ) Fault) : Result T Fault → Type 0 where
  everything : {x : T} (text : List ℕ) → given ≡ Ok text → Appends old.taken new.taken text →
      new.failures ≡ old.failures → WriteOutcome aside old new given (Ok x)
  beginning : (text : List ℕ) → given ≡ Ok text → TookPart old.taken new.taken text →
      new.failures ≡ old.failures + 1 →
      WriteOutcome aside old new given (Err (nowhere WRITE_FAILED))
  nothing : {fault : Fault} → is_write_fault fault ≡ false →
      (aside fault ≡ false → given ≡ Err fault) → new.taken ≡ old.taken →
      new.failures ≡ old.failures → WriteOutcome aside old new given (Err fault)

-- no error is exempt
abbrev pub none_aside : Fault → Bool
none_aside fault = false
