-- Reading bytes field by field: the value of a field and the bytes after it, or the first error.
use Rattle.std.specs.Prelude.{◌≡◌, ℕ, ◌+◌, true, false, List, [], ◌++◌, length, take, drop, Option}
use Rattle.std.specs.Prelude.{IfSome, Result, Ok, Err, nat_lt, ◌<◌, slice_index}
use Rattle.std.specs.Io.KnownBytes.{Consumes}
use Rattle.bw_model.specs.FaultTable.{TRUNCATED, BYTES_AFTER_END}
use Rattle.bw_model.specs.declared.fault.Fault.{Fault}
use Rattle.bw_model.specs.Fault.{at_byte, refused_if}
use Rattle.bw_io.specs.Source.{SourceState, is_read_fault, is_input_fault, failed_reads}

-- the bytes of a file, from this place on
pub record Tail : Type 0 where
  pub at : ℕ
  pub bytes : List ℕ

abbrev pub tail : ℕ → List ℕ → Tail
tail at bytes = record { at = at; bytes = bytes }

-- a value and the bytes after it, or the first error
abbrev pub Reading : Type 0 → Type 0
Reading A = Tail → Result (A × Tail) Fault

abbrev pub and_then : {A B : Type 0} → Result (A × Tail) Fault → (A → Reading B)
    → Result (B × Tail) Fault
and_then (Ok x) next = next x.0 x.1
and_then (Err fault) next = Err fault

-- one reading, then another that may depend on its value
infixl 10 ◌>>=◌
abbrev pub ◌>>=◌ : {A B : Type 0} → Reading A → (A → Reading B) → Reading B
◌>>=◌ first next t = and_then (first t) next

-- this value, and no byte is read
abbrev pub give : {A : Type 0} → A → Reading A
give x t = Ok (x, t)

-- the next `size` bytes; if some are missing, the error is at the end of the file
unfoldable pub field : ℕ → Reading (List ℕ)
field size t =
    refused_if (nat_lt (length t.bytes) size) (at_byte TRUNCATED (t.at + length t.bytes))
    (Ok (take size t.bytes, tail (t.at + size) (drop size t.bytes)))

-- the value of bytes, or their error at this byte
abbrev pub at_offset : {A : Type 0} → ℕ → Result A ℕ → Result A Fault
at_offset at (Ok x) = Ok x
at_offset at (Err code) = Err (at_byte code at)

abbrev pub parsed_at : {A : Type 0} → ℕ → Result A ℕ → Reading A
parsed_at at (Ok x) t = Ok (x, t)
parsed_at at (Err code) t = Err (at_byte code at)

-- the next `size` bytes and their value, or their error at the first of them
unfoldable pub read_field : {A : Type 0} → ℕ → (List ℕ → Result A ℕ) → Reading A
read_field size says t = (field size >>= λ bytes. parsed_at t.at (says bytes)) t

-- A source before or after a call: the unread bytes, if they are known, how many bytes were read
-- before them, and how many reads have failed.
pub record State : Type 0 where
  pub known : Option (List ℕ)
  pub offset : ℕ
  pub failures : ℕ

abbrev pub state_at : SourceState → ℕ → State
state_at source offset =
    record { known = source.known; offset = offset; failures = source.failures }

-- each number is a byte
abbrev pub AreBytes : List ℕ → Type 0
AreBytes bytes = (i : ℕ) → slice_index bytes i < 256

-- these bytes were consumed from a source
pub record HasConsumed (old new : State) (bytes : List ℕ) : Type 0 where
  pub consumed : Consumes old.known new.known bytes
  pub advanced : new.offset ≡ old.offset + length bytes
  pub each : AreBytes bytes

-- Reading depends on each of these bytes: if only the first ones are there, they end too early.
abbrev pub NeedsEach : {A : Type 0} → Reading A → ℕ → List ℕ → Type 0
NeedsEach reading at bytes =
    (n : ℕ) → n < length bytes → reading (tail at (take n bytes)) ≡ Err (at_byte TRUNCATED (at + n))

-- Reading depends on more than these bytes: if no other follows, they end too early.
abbrev pub NeedsMore : {A : Type 0} → Reading A → ℕ → List ℕ → Type 0
NeedsMore reading at bytes = reading (tail at bytes) ≡ Err (at_byte TRUNCATED (at + length bytes))

-- Bytes were consumed, each of which reading depends on, and no read failed. Reading continues
-- after them, whatever follows.
pub record GoesOn {A : Type 0} (reading : Reading A) (old : State)
    (next : Reading A) (new : State) : Type 0 where
  pub bytes : List ℕ
  pub took : HasConsumed old new bytes
  pub needed : NeedsEach reading old.offset bytes
  pub failures : new.failures ≡ old.failures
  pub on : (rest : List ℕ) → reading (tail old.offset (bytes ++ rest)) ≡ next (tail new.offset rest)

-- Reading these bytes, and others after them, which are the unread ones if those are known, returns
-- this error.
pub record HasFault {A : Type 0} (reading : Reading A) (old new : State)
    (bytes : List ℕ) (fault : Fault) : Type 0 where
  pub rest : List ℕ
  pub coming : IfSome new.known (λ known. known ≡ rest)
  pub gives : reading (tail old.offset (bytes ++ rest)) ≡ Err fault

-- Bytes were consumed, each of which reading depends on, and an error was returned: that of a
-- failed read, if more bytes were needed; out of memory; or the error of reading.
pub record Fails {A : Type 0} (reading : Reading A) (old new : State) (fault : Fault) : Type 0 where
  pub bytes : List ℕ
  pub took : HasConsumed old new bytes
  pub needed : NeedsEach reading old.offset bytes
  pub unfinished : is_read_fault fault ≡ true → NeedsMore reading old.offset bytes
  pub failures : new.failures ≡ old.failures + failed_reads fault
  pub refused : is_input_fault fault ≡ false → HasFault reading old new bytes fault

-- An error was returned at the place where the file must end: that of a failed read, if no byte was
-- consumed; or 309 at the one byte that was consumed.
pub record HasByteMore (old new : State) (fault : Fault) : Type 0 where
  pub bytes : List ℕ
  pub took : HasConsumed old new bytes
  pub unfinished : is_read_fault fault ≡ true → bytes ≡ []
  pub failures : new.failures ≡ old.failures + failed_reads fault
  pub refused : is_read_fault fault ≡ false
      → (length bytes ≡ 1) × (fault ≡ at_byte BYTES_AFTER_END old.offset)

-- The bytes that a call consumed are read as its result, seen by view, whatever follows them; or
-- the call failed as reading does.
abbrev pub Reads : {A B : Type 0} → (A → B) → Reading B → State → State → Result A Fault → Type 0
Reads view reading old new (Ok x) = GoesOn reading old (give (view x)) new
Reads view reading old new (Err fault) = Fails reading old new fault
