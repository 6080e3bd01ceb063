-- Where a call that reads a schema and a CSV and writes a text ends: at the schema, at the CSV, at
-- what is made of it, or when the text is written.
use Rattle.std.proofs.Common.{◌≡◌, ℕ, List, false, Result, Ok, Err, refl, subst}
use Rattle.bw_model.specs.declared.fault.Fault.{Fault}
use Rattle.bw_model.specs.declared.schema.Schema.{Schema}
use Rattle.bw_model.specs.Fault.{no_memory, nowhere}
use Rattle.bw_csv.specs.Bare.{records_of}
use Rattle.bw_csv.specs.Rows.{StopsUnder, is_exempt}
use Rattle.bw_io.specs.Sink.{is_write_fault, GoesOut, SinkState, WriteOutcome}
use Rattle.bw_io.proofs.SinkLemmas.{wrote_nothing, wrote_text}
use Rattle.bw_io.specs.Source.{Arrival, NotReached, Whole, TooLong, Failed, ReadOutcome}
use Rattle.bw_io.specs.Source.{SourceState}
use Rattle.bw_csv_calls.specs.ReadInputs.{StopsInCsv, HasReadSchema, IsSchemaFrom}

-- the text that is written, or an error
abbrev pub Given : Type 0
Given = Result (List ℕ) Fault

-- sources gave P and Q, and what is given for them went W
abbrev pub Ends : (Arrival → Type 0) → (Arrival → Type 0) → (Arrival → Arrival → Given → Type 0) → (Given → Type 0) → Type 0
Ends P Q Is W = (schema csv : Arrival) × (given : Given) × P schema × Q csv × Is schema csv given × W given

-- an error was answered that is the one of what was given, but for those set aside
abbrev pub IsFaultOf : Fault → Given → Type 0
IsFaultOf fault given = is_exempt fault ≡ false → given ≡ Err fault

-- a source that gave its bytes has failed no more than one that found no memory
pub none_understood : (limit : ℕ) (old new : SourceState) (came : Arrival) (schema : Schema)
    → ReadOutcome limit old new came → IsSchemaFrom came (Ok schema) → ReadOutcome limit old new (Failed no_memory)
none_understood limit old new NotReached schema came from = absurd from
none_understood limit old new (Whole text) schema came from =
    let same : no_memory ≡ no_memory = refl in
    (same, came.1)
none_understood limit old new _ schema came from = absurd (cc from)

pub not_reached : (limit : ℕ) (old : SourceState) → ReadOutcome limit old old NotReached
not_reached limit old =
    let same : old.known ≡ old.known = refl in
    let kept : old.failures ≡ old.failures = refl in
    (same, kept)

-- the call was rejected, by the error that was to be
pub refused_exit : (P Q : Arrival → Type 0) (Is : Arrival → Arrival → Given → Type 0) (came csv : Arrival) (fault : Fault) → Is came csv (Err fault) → P came → Q csv
    → Ends P Q Is (IsFaultOf fault)
refused_exit P Q Is came csv fault is p q =
    let given : Given = Err fault in
    let same : given ≡ Err fault = refl in
    (came, csv, given, p, q, is, λ other. same)

-- the CSV came, and what the rest of the call answered is what is made of it
pub text_exit : (P Q : Arrival → Type 0) (Is : Arrival → Arrival → Given → Type 0) (W : Given → Type 0) (came csv : Arrival) (make : List ℕ → Given) (bytes : List ℕ)
    → Is came (Whole bytes) (make bytes) → P came → Q csv → csv ≡ Whole bytes → W (make bytes) → Ends P Q Is W
text_exit P Q Is W came csv make bytes is p q told w = (came, Whole bytes, make bytes, p, subst Q told q, is, w)

-- what was given was written, or an error was, and nothing went
pub went_on : (P Q : Arrival → Type 0) (Is : Arrival → Arrival → Given → Type 0) (old new : SinkState) (text : List ℕ) (result : Result (Unit {0}) Fault)
    → Ends P Q Is (λ given. given ≡ Ok text) → GoesOut old new text result → Ends P Q Is (λ given. WriteOutcome is_exempt old new given result)
went_on P Q Is old new text result e goes = (e.0, e.1, e.2, e.3, e.4, e.5, wrote_text (Unit {0}) is_exempt old new text e.2 result e.6 goes)

pub went_nowhere : (P Q : Arrival → Type 0) (Is : Arrival → Arrival → Given → Type 0) (old : SinkState) (fault : Fault) → is_write_fault fault ≡ false
    → Ends P Q Is (IsFaultOf fault) → Ends P Q Is (λ given. WriteOutcome {T = Unit {0}} is_exempt old old given (Err fault))
went_nowhere P Q Is old fault other e = (e.0, e.1, e.2, e.3, e.4, e.5, wrote_nothing (Unit {0}) is_exempt old fault e.2 other e.6)

-- a schema that was read came of a text that was read completely
pub came_of : (came : Arrival → Type 0) (schema : Schema) → ((arrived : Arrival) × came arrived × IsSchemaFrom arrived (Ok schema)) → HasReadSchema came schema
came_of came schema told = by told.0 told.1 told.2
  where
    by : (arrived : Arrival) → came arrived → IsSchemaFrom arrived (Ok schema) → HasReadSchema came schema
    by NotReached whole spelled = absurd spelled
    by (Whole text) whole spelled = record { text = text; whole = whole; spelled = spelled }
    by TooLong whole spelled = let e : ◌≡◌ {A = Result Schema Fault} (Ok schema) (Err (nowhere 106)) = spelled in absurd (cc e)
    by (Failed fault) whole spelled = let e : ◌≡◌ {A = Result Schema Fault} (Ok schema) (Err fault) = spelled in absurd (cc e)

-- a CSV text in which the reader stopped was read completely
pub stopped_of : (came : Arrival → Type 0) (schema : Schema) (bytes text : List ℕ) (fault : Fault) → ((arrived : Arrival) × came arrived × (arrived ≡ Whole bytes))
    → text ≡ bytes → StopsUnder schema.columns.items (records_of text) fault → StopsInCsv came schema fault
stopped_of came schema bytes text fault told same stops =
    record { text = bytes; whole = subst came told.2 told.1; stops = subst (λ (t : List ℕ). StopsUnder schema.columns.items (records_of t) fault) same stops }
