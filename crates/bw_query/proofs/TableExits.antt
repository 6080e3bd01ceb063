-- Where a call over a table file ends: at the header, at the query, at a segment, or when the text
-- is written.
use Rattle.std.proofs.Common.{◌≡◌, ◌∙◌, ℕ, ◌+◌, ◌-◌, ◌^◌, ◌<◌, List, [], ◌++◌, Bool, true, false, ◌==◌}
use Rattle.std.proofs.Common.{inl, inr}
use Rattle.std.proofs.Common.{Option, Some, None, Result, Ok, Err, refl, sym, ap, subst, arith}
use Rattle.std.specs.Prelude.{OnOk}
use Rattle.std.specs.Io.KnownBytes.{Appends, Consumes, IsAtEnd}
use Rattle.std.proofs.lemmas.Bool.{eqb-true, or_left}
use Rattle.std.proofs.lemmas.List.{append-nil}
use Rattle.bw_model.specs.declared.fault.Fault.{Fault}
use Rattle.bw_model.specs.declared.query.Query.{Query}
use Rattle.bw_model.specs.declared.schema.Schema.{Schema}
use Rattle.bw_model.specs.Fault.{is_memory, no_memory, nowhere}
use Rattle.bw_model.specs.SchemaText.{IsSchemaFault, is_schema_fault}
use Rattle.bw_sql.specs.Refusal.{IsStatementFault, is_statement_fault}
use Rattle.bw_cert.specs.FileVerdict.{is_file_fault}
use Rattle.bw_model.specs.Groups.{groups_of, together}
use Rattle.bw_model.specs.Row.{Value}
use Rattle.bw_io.specs.Sink.{GoesOut, SinkState, WriteOutcome, beginning, everything}
use Rattle.bw_io.specs.Sink.{is_write_fault, none_aside, nothing}
use Rattle.bw_io.proofs.SinkLemmas.{no_write_fault, wrote_nothing, wrote_text}
use Rattle.bw_io.specs.Source.{failed_by, failed_reads, is_input_fault, is_read_fault}
use Rattle.bw_file.specs.FileBytes.{IsFileBytes}
use Rattle.bw_file.specs.Reading.{State, Fails, GoesOn, give}
use Rattle.bw_file.specs.TableReading.{IsTableFault, header, is_table_fault}
use Rattle.bw_file.specs.TableReader.{AnswersFault, ReadProgress, final_result, found_so_far}
use Rattle.bw_file.specs.TableReader.{schema_in, version_in, header_stated}
use Rattle.bw_file.specs.declared.table_reader.TableReader.{TableReader}
use Rattle.bw_file.proofs.FileSpelling.{read_is_spelled_by}
use Rattle.bw_query.specs.MemoryAnswer.{is_output_fault}
use Rattle.bw_query.specs.TableAnswer.{AnswersFile, IsHeaderOf, IsTableResult, TableText}
use Rattle.bw_query.specs.TableAnswer.{is_no_verdict}
use Rattle.bw_query.specs.declared.scan.Scan.{Scan}
use Rattle.bw_query.specs.declared.served.Scanned.{Scanned}
use Rattle.bw_query.specs.Segments.{HasGiven, HasGivenAll, IsScanOf, IsTextOf}

abbrev pub Given : Type 0
Given = Result (List ℕ) Fault

-- a source gave this
abbrev pub Gives : (Schema → Result Query Fault → Type 0) → State → (ℕ → State) → Given → Type 0
Gives asks start now given = (offset : ℕ) × IsTableResult asks start (now offset) given

-- and what is given for it went W
abbrev pub Ends : (Schema → Result Query Fault → Type 0) → State → (ℕ → State) → (Given → Type 0) → Type 0
Ends asks start now W = (offset : ℕ) × (given : Given) × IsTableResult asks start (now offset) given × W given

pub ends : (asks : Schema → Result Query Fault → Type 0) (start : State) (now : ℕ → State) (W : Given → Type 0) (given : Given) → Gives asks start now given → W given → Ends asks start now W
ends asks start now W given gave w = (gave.0, given, gave.1, w)

-- a reader states the header that it read
abbrev pub Stated : State → State → TableReader → Type 0
Stated start after reader = GoesOn header start (give (header_stated (version_in reader) reader)) after

head_of : (start after : State) (reader : TableReader) → Stated start after reader → IsHeaderOf start after (schema_in reader)
head_of start after reader told = record { stated = header_stated (version_in reader) reader; read = told; shape = refl }

-- the header was rejected
pub header_exit : (asks : Schema → Result Query Fault → Type 0) (start : State) (now : ℕ → State) (fault : Fault)
    → ((offset : ℕ) × Fails header start (now offset) fault) → Gives asks start now (Err fault)
header_exit asks start now fault fails = (fails.0, record { failures = fails.1.failures; answer = inl fails.1 })

-- what is asked was rejected
pub asked_refused : (asks : Schema → Result Query Fault → Type 0) (start now : State) (reader : TableReader) (fault : Fault)
    → Stated start now reader → failed_reads fault ≡ 0 → (is_memory fault ≡ false → asks (schema_in reader) (Err fault)) → IsTableResult asks start now (Err fault)
asked_refused asks start now reader fault told none asked = record {
  failures = omega (arith, told.failures, none);
  answer = inr (inl (record { schema = schema_in reader; head = head_of start now reader told; asked = asked }));
}

-- a segment was rejected, or a read of one failed
pub segment_refused : (asks : Schema → Result Query Fault → Type 0) (start old now : State) (reader : TableReader) (query : Query) (fault : Fault)
    → Stated start old reader → asks (schema_in reader) (Ok query) → AnswersFault start old now fault → IsTableResult asks start now (Err fault)
segment_refused asks start old now reader query fault told asked answers = record {
  failures = answers.failures ∙ ap (λ (n : ℕ). n + failed_reads fault) told.failures;
  answer = inr (inr (record {
    schema = schema_in reader;
    query = query;
    after = old;
    head = head_of start old reader told;
    asked = asked;
    bytes = answers.bytes;
    took = answers.took;
    needed = answers.needed;
    unfinished = answers.unfinished;
    first = answers.first;
  }));
}

-- the text of the meaning, over a table's rows, and what is reported of the scan over their groups
pub text_over : (asks : Schema → Result Query Fault → Type 0) (start old now : State) (reader : TableReader) (query : Query) (scan : Scan) (text : List ℕ) (scanned : Scanned)
    (Told : Schema → Query → List (List Value) → Type 0)
    → ((rows : List (List Value)) → IsScanOf (schema_in reader).columns.items scan (groups_of rows) scanned → Told (schema_in reader) query rows)
    → asks (schema_in reader) (Ok query) → ReadProgress start old reader []
    → IsTextOf (schema_in reader).columns.items query scan (λ groups. HasGivenAll old reader groups now) text scanned
    → (found : TableText asks start now text) × Told found.schema found.query found.rows
text_over asks start old now reader query scan text scanned Told told asked began over =
    let schema = schema_in reader in
    let whole = over.all.read start began in (
      record {
        schema = schema;
        rows = together over.groups;
        query = query;
        table = record {
          found = found_so_far reader over.groups;
          read = whole;
          shape = refl;
          same = refl;
          text = read_is_spelled_by whole.bytes (found_so_far reader over.groups) schema whole.took.each refl whole.read;
        };
        asked = asked;
        is = over.is;
      },
      let S : List (List (List Value)) → Type 0 = λ groups. IsScanOf schema.columns.items scan groups scanned in
          told (together over.groups) (subst S (over.all.cut start began) over.counts),
    )

-- all bytes to come were taken
all_came : (bytes taken : List ℕ) (old new : Option (List ℕ)) → old ≡ Some bytes → Consumes old new taken → IsAtEnd new → taken ≡ bytes
all_came bytes taken None new e consumes ends = absurd (cc e)
all_came bytes taken (Some xs) None e consumes ends = absurd consumes
all_came bytes taken (Some xs) (Some ys) e consumes ends =
    let same : xs ≡ bytes = cc e in
    sym (append-nil taken) ∙ ap (λ (l : List ℕ). taken ++ l) (sym ends) ∙ sym consumes ∙ same

-- so the text was written for known bytes, which are a table file's
pub table_answered : (asks : Schema → Result Query Fault → Type 0) (start now : State) (text : List ℕ) (found : TableText asks start now text)
    (Told : Schema → Query → List (List Value) → Type 0) → Told found.schema found.query found.rows → (bytes : List ℕ) → start.known ≡ Some bytes
    → (old new : Option (List ℕ)) → Appends old new text
    → (file : AnswersFile asks bytes old new) × Told file.schema file.query file.rows
table_answered asks start now text found Told told bytes known old new appends =
    let table = found.table in
    let same = all_came bytes table.read.bytes start.known now.known known table.read.took.consumed table.read.ended in (
      record {
        layout = table.found.layout;
        schema = found.schema;
        rows = found.rows;
        query = found.query;
        file = let F : List ℕ → Type 0 = λ taken. IsFileBytes taken table.found.layout found.schema found.rows in
            subst F same table.text;
        asked = found.asked;
        text = subst (λ (those : List ℕ). Appends old new those) found.is appends;
      },
      told,
    )

-- and so if it was written at all
pub answered_or_not : (asks : Schema → Result Query Fault → Type 0) (start now : State) (text : List ℕ) → TableText asks start now text → (bytes : List ℕ) → start.known ≡ Some bytes
    → (old new : SinkState) (result : Result (Unit {0}) Fault) → GoesOut old new text result
    → OnOk result (AnswersFile asks bytes old.taken new.taken)
answered_or_not asks start now text found bytes known old new (Ok x) goes =
    (table_answered asks start now text found (λ s q r. Unit {0}) tt bytes known old.taken new.taken goes.0).0
answered_or_not asks start now text found bytes known old new (Err fault) goes = tt

-- the file was read completely
pub text_gave : (asks : Schema → Result Query Fault → Type 0) (start old now : State) (reader : TableReader) (query : Query) (scan : Scan) (text : List ℕ) (scanned : Scanned)
    → asks (schema_in reader) (Ok query) → ReadProgress start old reader []
    → IsTextOf (schema_in reader).columns.items query scan (λ groups. HasGivenAll old reader groups now) text scanned → IsTableResult asks start now (Ok text)
text_gave asks start old now reader query scan text scanned asked began over =
    let found = text_over asks start old now reader query scan text scanned (λ s q r. Unit {0}) (λ rows counts. tt) asked began over in
    record { failures = omega (arith, (over.all.read start began).failures); answer = found.0 }

-- no group came so far of a file of which only the header was read
pub none_given : (start old : State) (reader : TableReader) → ReadProgress start old reader [] → final_result reader ≡ None → start.failures < 2 ^ 64 - 1 → HasGiven old reader [] old reader
none_given start old reader began reading fits = record {
  read = λ start read. read;
  same = record { version = refl; layout = refl; schema = refl; rows = refl };
  reading = reading;
  failures = refl;
  fits = omega (arith, began.head.failures, began.on.failures, fits);
}

-- an error was answered that is no failed write, and nothing was written
pub refused : (T : Type 0) (old : SinkState) (fault : Fault) → is_write_fault fault ≡ false → WriteOutcome {T = T} none_aside old old (Err fault) (Err fault)
refused T old fault other = wrote_nothing T none_aside old fault (Err fault) other (λ _. refl)

-- the text was written whole, or up to a failed write
pub went : (T : Type 0) (old new : SinkState) (text : List ℕ) (result : Result T Fault) → GoesOut {T = T} old new text result
    → WriteOutcome {T = T} none_aside old new (Ok text) result
went T old new text result goes = wrote_text T none_aside old new text (Ok text) result refl goes

-- the result has as many failed reads as what was returned before the write: a failed write is no
-- failed read
tells_as : (T : Type 0) (old new : SinkState) (given : Given) (result : Result T Fault) → WriteOutcome none_aside old new given result → failed_by given ≡ failed_by result
tells_as T old new given _ (everything text is _ _) = ap failed_by is
tells_as T old new given _ (beginning text is _ _) = ap failed_by is
tells_as T old new given _ (nothing _ is _ _) = ap failed_by (is refl)

pub tells : (T : Type 0) (asks : Schema → Result Query Fault → Type 0) (start : State) (now : ℕ → State) (old new : SinkState) (result : Result T Fault)
    → (told : Ends asks start now (λ given. WriteOutcome none_aside old new given result)) → (now told.0).failures ≡ start.failures + failed_by result
tells T asks start now old new result told = told.2.failures ∙ ap (λ (n : ℕ). start.failures + n) (tells_as T old new told.1 result told.3)

-- errors of a schema, of a statement, of a table file and of a program file, and out of memory, are
-- no failed writes
pub schema_writes_nothing : (fault : Fault) → IsSchemaFault fault → is_write_fault fault ≡ false
schema_writes_nothing fault is = no_write_fault is_schema_fault fault is refl

pub statement_writes_nothing : (fault : Fault) → IsStatementFault fault → is_write_fault fault ≡ false
statement_writes_nothing fault is = no_write_fault is_statement_fault fault is refl

pub table_writes_nothing : (fault : Fault) → IsTableFault fault → is_write_fault fault ≡ false
table_writes_nothing fault is = no_write_fault is_table_fault fault is refl

pub file_writes_nothing : (fault : Fault) → is_file_fault fault ≡ true → is_write_fault fault ≡ false
file_writes_nothing fault is = no_write_fault is_file_fault fault is refl

pub memory_writes_nothing : (fault : Fault) → fault ≡ no_memory → is_write_fault fault ≡ false
memory_writes_nothing fault is = ap is_write_fault is

pub unplanned_writes_nothing : (fault : Fault) → (is_memory fault ≡ false → fault ≡ nowhere 651) → is_write_fault fault ≡ false
unplanned_writes_nothing fault own = by_memory (is_memory fault) refl
  where
    by_memory : (memory : Bool) → is_memory fault ≡ memory → is_write_fault fault ≡ false
    by_memory true is = no_write_fault is_memory fault is refl
    by_memory false is = ap is_write_fault (own is)

-- an error that isn't a failed read
pub no_failed_read : (allowed : Fault → Bool) (fault : Fault) → allowed fault ≡ true → allowed (record { code = 701; place = fault.place }) ≡ false → is_read_fault fault ≡ false
no_failed_read allowed fault is none = by_code (fault.code == 701) refl
  where
    by_code : (b : Bool) → (fault.code == 701) ≡ b → is_read_fault fault ≡ false
    by_code true e = absurd (cc (sym is ∙ ap (λ code. allowed (record { code = code; place = fault.place })) (eqb-true fault.code 701 e) ∙ none))
    by_code false e = rw e refl

pub no_read : (fault : Fault) → is_read_fault fault ≡ false → failed_reads fault ≡ 0
no_read fault e = rw e refl

-- a failed read and out of memory are no verdicts
pub input_verdict : (fault : Fault) → is_input_fault fault ≡ true → is_no_verdict fault ≡ true
input_verdict fault is = or_left (is_input_fault fault) (is_write_fault fault) is

pub memory_verdict : (fault : Fault) → is_memory fault ≡ true → is_no_verdict fault ≡ true
memory_verdict fault is = input_verdict fault (or_left (is_memory fault) (is_read_fault fault) is)

-- out of memory is a rejection that no statement calls for
pub memory_output : (fault : Fault) → is_memory fault ≡ true → is_output_fault fault ≡ true
memory_output fault is = or_left (is_memory fault) (is_write_fault fault) is
