-- What a session writes for each statement: its result and an LF, an LF, or nothing.
use Rattle.std.specs.Prelude.{◌≡◌, ℕ, ◌+◌, Bool, true, false, List, [], ◌∷◌, ◌++◌, length, take, ◌≤◌}
use Rattle.std.specs.Prelude.{◌<◌, ◌⊎◌, IsTrue, if◌then◌else◌, Option, Some, None, Result, Ok, Err}
use Rattle.std.specs.Io.KnownBytes.{Appends, Consumes, IsAtEnd}
use Rattle.bw_model.specs.declared.fault.Fault.{Fault}
use Rattle.bw_model.specs.declared.query.Query.{Query}
use Rattle.bw_model.specs.declared.schema.Schema.{Schema}
use Rattle.bw_model.specs.Column.{names_of}
use Rattle.bw_model.specs.FaultTable.{WRITE_FAILED}
use Rattle.bw_model.specs.Fault.{is_memory, nowhere}
use Rattle.bw_model.specs.Row.{Value}
use Rattle.bw_memory.specs.ColumnStore.{ColumnSource, HasRows}
use Rattle.bw_query.specs.NamedColumns.{is_named_by}
use Rattle.bw_query.specs.StoreAnswer.{HasColumnError, IsServedFrom}
use Rattle.bw_query.specs.declared.served.StoreServed.{StoreServed}
use Rattle.bw_sql.specs.Cut.{HasNoToken}
use Rattle.bw_sql.specs.Limits.{longest_statement}
use Rattle.bw_sql.specs.Statement.{IsReadAs}
use Rattle.bw_answer.specs.Answer.{csv_text, meaning}
use Rattle.bw_io.specs.Sink.{SinkState, TookPart, is_write_fault}
use Rattle.bw_io.specs.Source.{SourceState, failed_reads, is_input_fault, is_read_fault}
use Rattle.bw_session.specs.Note.{Hears, Note, rejected, served_notes}
use Rattle.bw_session.specs.Reading.{most_stored}
use Rattle.bw_session.specs.Statements.{IsBegun, IsOpen, IsWhole}

-- what statements are asked of: a table's schema, where its columns come from, and the program files
-- that may serve
pub record SessionTable : Type 0 where
  pub files : List (List ℕ)
  pub schema : Schema
  pub source : ColumnSource

abbrev pub session_table : List (List ℕ) → Schema → ColumnSource → SessionTable
session_table files schema source = record { files = files; schema = schema; source = source }

-- what a session's sink consumed and its listener was told, each if it states it
pub record Outputs : Type 0 where
  pub taken : Option (List ℕ)
  pub told : Option (List Note)

abbrev pub outputs : Option (List ℕ) → Option (List Note) → Outputs
outputs taken told = record { taken = taken; told = told }

-- a statement is empty: it isn't too long, and has only spaces, tabs, line ends and comments
abbrev pub AsksNothing : List ℕ → Type 0
AsksNothing sql = (length sql ≤ longest_statement) × HasNoToken sql

-- What a session writes for a statement, and the statement's error if it is rejected. An empty
-- statement writes nothing. One that spells a query writes the CSV text of its meaning over rows
-- that have the columns which it names, and an LF. One that is rejected, or names a column that has
-- an error, writes an LF. Out of memory may reject any statement.
pub data IsOutput (table : SessionTable) (sql : List ℕ) : Option Fault → List ℕ → Type 0 where
  nothing : AsksNothing sql → IsOutput table sql None []
  answer : (query : Query) (rows : List (List Value)) → IsReadAs table.schema sql (Ok query)
      → HasRows table.source (is_named_by query) rows
      → IsOutput table sql None
      (csv_text (meaning (names_of table.schema.columns.items) query rows) ++ 10 ∷ [])
  refusal : {fault : Fault} → (AsksNothing sql → ⊥)
      → (is_memory fault ≡ false
      → IsReadAs table.schema sql (Err fault)
      ⊎ HasColumnError (λ schema. IsReadAs schema sql) table.schema table.source fault)
      → IsOutput table sql (Some fault) (10 ∷ [])

-- What a session tells its listener of a statement with this error, if there is one: nothing of an
-- empty one; how a query was served, which is by the first program file that is accepted for its
-- condition, or if none is, by some program with a valid certificate, or by the fallback; then how
-- many segments were settled, if any were; the stored bytes of one that is rejected, and its error.
pub data IsTold (table : SessionTable) (sql : List ℕ) : Option Fault → List Note → Type 0 where
  told_nothing : AsksNothing sql → IsTold table sql None []
  told_answer : (query : Query) (rows : List (List Value)) (how : StoreServed)
      → IsReadAs table.schema sql (Ok query) → HasRows table.source (is_named_by query) rows
      → IsServedFrom table.source table.files table.schema query rows how
      → IsTold table sql None (served_notes how)
  told_refusal : (fault : Fault) → IsTold table sql (Some fault)
      (rejected (take most_stored sql) fault ∷ [])

-- the sink consumed what a statement writes, and the listener was told of it
pub record HasWrittenOutput (table : SessionTable) (sql : List ℕ) (old new : Outputs)
    (fault : Option Fault) : Type 0 where
  pub out : List ℕ
  pub notes : List Note
  pub is : IsOutput table sql fault out
  pub tells : IsTold table sql fault notes
  pub appends : Appends old.taken new.taken out
  pub hears : Hears old.told new.told notes

-- a listener was told these notes, and perhaps of one statement more, which has this error
abbrev pub MayHear : SessionTable → List ℕ → Option Fault → Option (List Note)
    → Option (List Note) → List Note → Type 0
MayHear table sql fault old new notes = Hears old new notes
    ⊎ ((next : List Note) × IsTold table sql fault next × Hears old new (notes ++ next))

-- the sink consumed a prefix of what a statement writes
pub record HasWrittenPart (table : SessionTable) (sql : List ℕ) (old new : Outputs)
    : Type 0 where
  pub out : List ℕ
  pub fault : Option Fault
  pub is : IsOutput table sql fault out
  pub appends : TookPart old.taken new.taken out
  pub hears : MayHear table sql fault old.told new.told []

-- the number of writes that failed in a call with this error: 1 for a failed write, else 0
abbrev pub failed_writes : Fault → ℕ
failed_writes fault = if is_write_fault fault then 1 else 0

-- Of two errors the one that is out of memory, else the first. So an answer that is missing for
-- memory isn't hidden behind an earlier error.
abbrev pub first_of : Option Fault → Option Fault → Option Fault
first_of None other = other
first_of (Some fault) None = Some fault
first_of (Some fault) (Some other) = Some (if is_memory other then other else fault)

-- an error that is a failed read needs that the columns are lost
abbrev pub NeedsLoss : Bool → Option Fault → Type 0
NeedsLoss lost None = Unit {0}
NeedsLoss lost (Some fault) = IsTrue (is_read_fault fault) → lost ≡ true

-- and that they were lost at the beginning, or that more calls of their device have failed since
abbrev pub TellsLoss : Bool → ℕ → ℕ → Option Fault → Type 0
TellsLoss lost before after None = Unit {0}
TellsLoss lost before after (Some fault) = IsTrue (is_read_fault fault)
    → (lost ≡ true) ⊎ (before < after)

-- A text is statements, one after another, each with what ends it. This is the error that
-- `first_of` chooses of theirs, what they write, one after another, and what is told of them.
pub data AreAnswered (table : SessionTable) : List ℕ → Option Fault → List ℕ → List Note
    → Type 0 where
  begun : AreAnswered table [] None [] []
  more : {text output : List ℕ} {told : List Note} {first : Option Fault} (sql out : List ℕ)
      (notes : List Note) (fault : Option Fault) → AreAnswered table text first output told
      → IsWhole sql → IsOutput table sql fault out → IsTold table sql fault notes
      → AreAnswered table (text ++ sql) (first_of first fault) (output ++ out) (told ++ notes)

-- A whole text: its statements, and then what is left after the last one that ends.
pub data IsAnswered (table : SessionTable) : List ℕ → Option Fault → List ℕ → List Note
    → Type 0 where
  whole : {text output : List ℕ} {told : List Note} {first : Option Fault} (sql out : List ℕ)
      (notes : List Note) (fault : Option Fault) → AreAnswered table text first output told
      → IsOpen sql → IsOutput table sql fault out → IsTold table sql fault notes
      → IsAnswered table (text ++ sql) (first_of first fault) (output ++ out) (told ++ notes)

-- A session so far: the source yielded a text, the sink consumed what its statements write, and the
-- listener was told of them.
pub record RanSoFar (table : SessionTable) (from to : Option (List ℕ)) (old new : Outputs)
    (first : Option Fault) : Type 0 where
  pub text : List ℕ
  pub output : List ℕ
  pub notes : List Note
  pub consumes : Consumes from to text
  pub appends : Appends old.taken new.taken output
  pub hears : Hears old.told new.told notes
  pub answered : AreAnswered table text first output notes

-- A session over all of a source, whose text it consumed. The sink consumed what the text's
-- statements write, and the listener was told of them.
pub record Ended (table : SessionTable) (from to : Option (List ℕ)) (old new : Outputs)
    (first : Option Fault) : Type 0 where
  pub text : List ℕ
  pub output : List ℕ
  pub notes : List Note
  pub consumes : Consumes from to text
  pub end : IsAtEnd to
  pub appends : Appends old.taken new.taken output
  pub hears : Hears old.told new.told notes
  pub answered : IsAnswered table text first output notes

-- a statement was read completely: with what ends it, or up to the end of the source
abbrev pub IsComplete : Option (List ℕ) → List ℕ → Type 0
IsComplete new sql = IsWhole sql ⊎ (IsOpen sql × IsAtEnd new)

-- a sink consumed a text, and a prefix of what follows it, not all of that
abbrev pub TookRest : Option (List ℕ) → Option (List ℕ) → List ℕ → List ℕ → Type 0
TookRest old new text rest = (n : ℕ) × (n < length rest) × Appends old new (text ++ take n rest)

-- A session that ended early, by this error. The sink consumed what the statements of a text write,
-- and the listener was told of them. Then a read failed, before the next statement was read
-- completely, or memory ran out, after at most that statement; or a write failed, after a prefix of
-- what that statement writes.
pub data IsStopped (table : SessionTable) (from to : Option (List ℕ)) (old new : Outputs)
    : Fault → Type 0 where
  reading : {fault : Fault} {first : Option Fault} (text begun output : List ℕ)
      (notes : List Note) → IsTrue (is_input_fault fault)
      → AreAnswered table text first output notes → Consumes from to (text ++ begun)
      → IsBegun begun → (is_read_fault fault ≡ true → IsOpen begun)
      → Appends old.taken new.taken output → Hears old.told new.told notes
      → IsStopped table from to old new fault
  writing : {first refused : Option Fault} (text sql output out : List ℕ)
      (notes : List Note) → AreAnswered table text first output notes
      → Consumes from to (text ++ sql) → IsComplete to sql → IsOutput table sql refused out
      → TookRest old.taken new.taken output out
      → MayHear table sql refused old.told new.told notes
      → IsStopped table from to old new (nowhere WRITE_FAILED)

-- A session ran all statements of its source, and returned the error that `first_of` chooses; or it
-- ended early. The counts of failures rise by one if a failed read or write ended it, and else
-- stay.
abbrev pub Answers : SessionTable → SourceState → SourceState → SinkState → SinkState
    → Option (List Note) → Option (List Note) → Result (Option Fault) Fault → Type 0
Answers table from to old new before after (Ok first) =
    Ended table from.known to.known (outputs old.taken before) (outputs new.taken after) first
    × (to.failures ≡ from.failures) × (new.failures ≡ old.failures)
Answers table from to old new before after (Err fault) =
    IsStopped table from.known to.known (outputs old.taken before) (outputs new.taken after) fault
    × (to.failures ≡ from.failures + failed_reads fault)
    × (new.failures ≡ old.failures + failed_writes fault)

-- one statement was run, or a write failed
abbrev pub AnswersOne : SessionTable → List ℕ → SinkState → SinkState → Option (List Note)
    → Option (List Note) → Result (Option Fault) Fault → Type 0
AnswersOne table sql old new before after (Ok fault) =
    HasWrittenOutput table sql (outputs old.taken before) (outputs new.taken after) fault
    × (new.failures ≡ old.failures)
AnswersOne table sql old new before after (Err fault) =
    (fault ≡ nowhere WRITE_FAILED)
    × HasWrittenPart table sql (outputs old.taken before) (outputs new.taken after)
    × (new.failures ≡ old.failures + 1)

-- an LF was written, and this is returned; or a write failed
abbrev pub EndsLine : SinkState → SinkState → Option Fault → Result (Option Fault) Fault → Type 0
EndsLine old new refused (Ok fault) =
    (fault ≡ refused) × Appends old.taken new.taken (10 ∷ []) × (new.failures ≡ old.failures)
EndsLine old new refused (Err fault) =
    (fault ≡ nowhere WRITE_FAILED) × TookPart old.taken new.taken (10 ∷ [])
    × (new.failures ≡ old.failures + 1)
