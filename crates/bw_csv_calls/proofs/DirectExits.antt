-- Where a query straight from a CSV text ends.
use Rattle.std.proofs.Common.{◌≡◌, ℕ, List, Bool, true, false, Result, Ok, Err, refl, ap}
use Rattle.bw_model.specs.declared.fault.Fault.{Fault}
use Rattle.bw_model.specs.declared.query.Query.{Query}
use Rattle.bw_model.specs.declared.schema.Schema.{Schema}
use Rattle.bw_model.specs.Fault.{no_memory, is_memory}
use Rattle.bw_model.proofs.ErrLemmas.{memory_is}
use Rattle.bw_io.specs.Source.{Arrival, NotReached, Failed}
use Rattle.bw_csv.specs.Input.{IsMadeOf}
use Rattle.bw_sql.specs.Statement.{IsReadAs, Parses}
use Rattle.bw_csv_calls.specs.ReadInputs.{IsSchemaFrom}
use Rattle.bw_csv_calls.specs.Direct.{IsAnswer, answer_of}
use Rattle.bw_csv_calls.proofs.Exits.{Given, Ends, IsFaultOf, refused_exit}

-- what an answer is, by what came of the sources
abbrev pub AnswerTo : List ℕ → Arrival → Arrival → Given → Type 0
AnswerTo sql schema csv given = IsAnswer schema sql csv given

-- the schema was rejected
pub refused_schema : (sql : List ℕ) (came : Arrival) (fault : Fault) → IsSchemaFrom came (Err fault) → AnswerTo sql came NotReached (Err fault)
refused_schema sql came fault from =
    let outcome : Result Schema Fault = Err fault in
    let given : Given = Err fault in
    let is : given ≡ Err fault = refl in
    let csv : NotReached ≡ NotReached = refl in
    (outcome, from, (csv, is))

-- the statement was read
pub read_statement : (sql : List ℕ) (came csv : Arrival) (schema : Schema) (query : Query) (given : Given) → IsSchemaFrom came (Ok schema) → IsReadAs schema sql (Ok query)
    → IsMadeOf (answer_of schema.columns.items query) csv given → AnswerTo sql came csv given
read_statement sql came csv schema query given from read made =
    let statement : Result Query Fault = Ok query in
    let outcome : Result Schema Fault = Ok schema in
    (outcome, from, (statement, read, made))

-- the statement was rejected
statement_exit_by : (P Q : Arrival → Type 0) (sql : List ℕ) (came : Arrival) (schema : Schema) (fault : Fault) (memory : Bool) → is_memory fault ≡ memory → P came → P (Failed no_memory)
    → Q NotReached → IsSchemaFrom came (Ok schema) → Parses schema sql (Err fault) → Ends P Q (AnswerTo sql) (IsFaultOf fault)
statement_exit_by P Q sql came schema fault true m p none q from read =
    let is : ◌≡◌ {A = Result Schema Fault} (Err fault) (Err no_memory) = ap Err (memory_is fault m) in
    refused_exit P Q (AnswerTo sql) (Failed no_memory) NotReached fault (refused_schema sql (Failed no_memory) fault is) none q
statement_exit_by P Q sql came schema fault false m p none q from read =
    let statement : Result Query Fault = Err fault in
    let outcome : Result Schema Fault = Ok schema in
    let given : Given = Err fault in
    let is : given ≡ Err fault = refl in
    let csv : NotReached ≡ NotReached = refl in
    refused_exit P Q (AnswerTo sql) came NotReached fault (outcome, from, (statement, read m, (csv, is))) p q

pub statement_exit : (P Q : Arrival → Type 0) (sql : List ℕ) (came : Arrival) (schema : Schema) (fault : Fault) → P came → P (Failed no_memory)
    → Q NotReached → IsSchemaFrom came (Ok schema) → Parses schema sql (Err fault) → Ends P Q (AnswerTo sql) (IsFaultOf fault)
statement_exit P Q sql came schema fault = statement_exit_by P Q sql came schema fault (is_memory fault) refl
