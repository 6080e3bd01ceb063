-- What a source yielded to a call that read it to its end, or until it passed a limit.
use Rattle.std.specs.Prelude.{◌≡◌, ◌⊎◌, ◌==◌, ◌&&◌, ◌||◌, if◌then◌else◌, Bool, ℕ, ◌+◌, ◌≤◌, List}
use Rattle.std.specs.Prelude.{length, Option, IfSome, Result, Ok, Err, MatchBool}
use Rattle.std.specs.Io.KnownBytes.{Consumes, IsAtEnd}
use Rattle.bw_model.specs.FaultTable.{READ_FAILED}
use Rattle.bw_model.specs.declared.fault.Fault.{Fault}
use Rattle.bw_model.specs.Fault.{nowhere, no_memory, is_memory, is_nowhere}

-- A source before or after a call: the unread bytes, if it states them, and how many reads have
-- failed.
pub record SourceState : Type 0 where
  pub known : Option (List ℕ)
  pub failures : ℕ

abbrev pub source_state : Option (List ℕ) → ℕ → SourceState
source_state known failures = record { known = known; failures = failures }

-- What a source yielded to a call that reads it completely, up to a limit: the call ended before it
-- read the source; it yielded all its bytes; they were more than the limit; or a read failed or
-- memory ran out, which is this error.
pub data Arrival : Type 0 where
  NotReached : Arrival
  Whole : List ℕ → Arrival
  TooLong : Arrival
  Failed : Fault → Arrival

-- the error is a failed read; the error is one of a call that only reads: a failed read or out of
-- memory
abbrev pub is_read_fault : Fault → Bool
is_read_fault fault = (fault.code == READ_FAILED) && is_nowhere fault.place

abbrev pub is_input_fault : Fault → Bool
is_input_fault fault = is_memory fault || is_read_fault fault

-- how many reads failed in a call that fails by this error: one if it is that of a failed read,
-- else none
abbrev pub failed_reads : Fault → ℕ
failed_reads fault = if is_read_fault fault then 1 else 0

-- how many reads failed in a call with this result
abbrev pub failed_by : {T : Type 0} → Result T Fault → ℕ
failed_by (Ok x) = 0
failed_by (Err fault) = failed_reads fault

-- The call failed by a failed read if and only if its source's count of failures rose, and then it
-- rose by one.
abbrev pub TellsFailure : {T : Type 0} → SourceState → SourceState → Result T Fault → Type 0
TellsFailure old new result = new.failures ≡ old.failures + failed_by result

-- A call with two sources failed by a failed read if and only if the count of one of them rose, by
-- one; the other's stayed.
abbrev pub TellsFailureOfEither : {T : Type 0} → SourceState → SourceState → SourceState
    → SourceState → Result T Fault → Type 0
TellsFailureOfEither old new second_old second_new result =
    (TellsFailure old new result × (second_new.failures ≡ second_old.failures))
    ⊎ ((new.failures ≡ old.failures) × TellsFailure second_old second_new result)

-- all unread bytes, if they are known, were yielded, and they were no more than the limit
abbrev pub GaveAll : ℕ → SourceState → SourceState → List ℕ → Type 0
GaveAll limit old new bytes =
    (length bytes ≤ limit) × IfSome old.known (λ xs. bytes ≡ xs) × IsAtEnd new.known

-- one byte more than the limit was consumed, of the unread bytes if they are known
abbrev pub PassedLimit : ℕ → SourceState → SourceState → Type 0
PassedLimit limit old new =
    (bytes : List ℕ) × Consumes old.known new.known bytes × (length bytes ≡ limit + 1)

-- at most `most` of the unread bytes were consumed, if they are known
abbrev pub TookAtMost : ℕ → SourceState → SourceState → Type 0
TookAtMost most old new =
    (bytes : List ℕ) × Consumes old.known new.known bytes × (length bytes ≤ most)

-- How a call leaves its source: it consumed at most `most` of the unread bytes, and failed by a
-- failed read if and only if the count of failures rose.
abbrev pub SourceEffect : {T : Type 0} → ℕ → SourceState → SourceState → Result T Fault → Type 0
SourceEffect most old new result = TookAtMost most old new × TellsFailure old new result

-- A source's count of failures rises by one if it yielded a failed read, else by none. A source
-- that wasn't reached is as it was, as far as its state tells.
abbrev pub ReadOutcome : ℕ → SourceState → SourceState → Arrival → Type 0
ReadOutcome limit old new NotReached =
    (new.known ≡ old.known) × (new.failures ≡ old.failures)
ReadOutcome limit old new (Whole bytes) = GaveAll limit old new bytes
    × (new.failures ≡ old.failures)
ReadOutcome limit old new TooLong = PassedLimit limit old new × (new.failures ≡ old.failures)
ReadOutcome limit old new (Failed fault) =
    MatchBool (is_memory fault) ((fault ≡ no_memory) × (new.failures ≡ old.failures))
    ((fault ≡ nowhere READ_FAILED) × (new.failures ≡ old.failures + 1))
