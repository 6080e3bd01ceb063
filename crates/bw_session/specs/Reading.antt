-- The bytes of a statement, as they are read from a source.
use Rattle.std.specs.Prelude.{◌≡◌, ℕ, Bool, true, false, List, [], ◌∷◌, ◌++◌, length, Option, Some}
use Rattle.std.specs.Prelude.{None, take, ltb, if◌then◌else◌}
use Rattle.std.specs.Io.KnownBytes.{Consumes, IsAtEnd}
use Rattle.bw_model.specs.declared.fault.Fault.{Fault}
use Rattle.bw_io.specs.Source.{is_read_fault}
use Rattle.bw_session.specs.declared.statement_state.StatementState.{StatementState}
use Rattle.bw_session.specs.declared.statement_state.StatementState.TheVariants.{Blank}
use Rattle.bw_session.specs.StatementState.{is_ended, statement_state_after}
use Rattle.bw_session.specs.Statements.{IsBegun, IsOpen, IsWhole}

-- the most bytes of a statement that are stored: one more than it may have
abbrev pub most_stored : ℕ
most_stored = 65537

-- the stored bytes of a statement, after one byte more
abbrev pub with_byte : List ℕ → ℕ → List ℕ
with_byte statement byte = if ltb (length statement) most_stored then statement ++ byte ∷ []
    else statement

-- the source yielded a byte, or its end
abbrev pub HasReadByte : Option (List ℕ) → Option (List ℕ) → Option ℕ → Type 0
HasReadByte old new (Some byte) = Consumes old new (byte ∷ [])
HasReadByte old new None = Consumes old new [] × IsAtEnd new

-- The source yielded these bytes. They are a statement with what ends it, if there is more; else
-- they are the last bytes of the source, in which no statement ends. The first of them are stored.
pub record HasReadStatement (old new : Option (List ℕ)) (statement : List ℕ)
    (more : Bool) : Type 0 where
  pub bytes : List ℕ
  pub consumes : Consumes old new bytes
  pub kept : statement ≡ take most_stored bytes
  pub whole : more ≡ true → IsWhole bytes
  pub last : more ≡ false → IsOpen bytes
  pub end : more ≡ false → IsAtEnd new

-- The source yielded bytes that begin a statement, and was read no further. After a failed read
-- the statement hasn't ended.
pub record HasReadBeginning (old new : Option (List ℕ)) (fault : Fault) : Type 0 where
  pub bytes : List ℕ
  pub consumes : Consumes old new bytes
  pub begun : IsBegun bytes
  pub unended : is_read_fault fault ≡ true → IsOpen bytes

-- The source yielded these bytes of a statement, which hasn't ended, and this is its state after
-- them.
pub record Reads (old new : Option (List ℕ)) (statement : List ℕ)
    (standing : StatementState) : Type 0 where
  pub bytes : List ℕ
  pub consumes : Consumes old new bytes
  pub kept : statement ≡ take most_stored bytes
  pub stands : statement_state_after Blank bytes ≡ standing
  pub opened : is_ended standing ≡ false
