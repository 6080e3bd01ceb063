-- Where a call that reports a header ends: at the header, or when the text is written.
use Rattle.std.proofs.Common.{◌≡◌, ◌∙◌, ◌+◌, refl, sym, ap, subst, ℕ, true, false, List, [], length}
use Rattle.std.proofs.Common.{Result, Ok, Err, arith, OnOk}
use Rattle.std.proofs.lemmas.Bool.{or_left}
use Rattle.std.specs.Io.KnownBytes.{Appends}
use Rattle.bw_model.specs.declared.fault.Fault.{Fault}
use Rattle.bw_model.specs.declared.schema.Schema.{Schema}
use Rattle.bw_model.specs.Fault.{no_memory}
use Rattle.bw_model.specs.Row.{Value}
use Rattle.bw_model.specs.SchemaText.{IsSchemaText, SchemaShape, schema_shape}
use Rattle.bw_io.specs.Sink.{GoesOut, SinkState, WriteOutcome, is_write_fault, none_aside}
use Rattle.bw_io.proofs.SinkLemmas.{no_write_fault, wrote_nothing}
use Rattle.bw_io.specs.Source.{failed_reads, is_input_fault, is_read_fault}
use Rattle.bw_file.specs.declared.layout.Layout.{Layout}
use Rattle.bw_file.specs.declared.table_reader.TableReader.{TableReader}
use Rattle.bw_file.specs.FileBytes.{IsFileBytes}
use Rattle.bw_file.specs.Reading.{State, Fails, GoesOn, give}
use Rattle.bw_file.specs.TableReader.{ReturnsFirst, header_stated, layout_in, rows_stated}
use Rattle.bw_file.specs.TableReader.{schema_in, version_in}
use Rattle.bw_file.specs.TableReading.{IsTableFault, header, is_table_fault}
use Rattle.bw_model.proofs.SameColumns.{columns_same}
use Rattle.bw_csv_calls.specs.Info.{IsInfoResult, TellsFile, file_size, info_text, is_no_verdict}
use Rattle.bw_csv_calls.proofs.SizeLemmas.{file_sized}

abbrev Given : Type 0
Given = Result (List ℕ) Fault

abbrev pub Ends : State → (ℕ → State) → (Given → Type 0) → Type 0
Ends start now W = (offset : ℕ) × (given : Given) × IsInfoResult start (now offset) given × W given

-- the header was rejected
pub header_exit : (start : State) (now : ℕ → State) (W : Given → Type 0) (fault : Fault) → ((offset : ℕ) × Fails header start (now offset) fault) → W (Err fault) → Ends start now W
header_exit start now W fault fails w =
    let given : Given = Err fault in
    (fails.0, given, record { failures = fails.1.failures; info = fails.1 }, w)

-- there was no memory for the text
pub memory_exit : (start : State) (now : ℕ → State) (offset : ℕ) (W : Given → Type 0) (fault : Fault) (reader : TableReader)
    → GoesOn header start (give (header_stated (version_in reader) reader)) (now offset) → fault ≡ no_memory → W (Err fault) → Ends start now W
memory_exit start now offset W fault reader read memory w =
    let given : Given = Err fault in
    let none : failed_reads fault ≡ 0 = ap failed_reads memory in
    let read_none : is_read_fault fault ≡ false = ap is_read_fault memory in
    let aside : is_input_fault fault ≡ true = ap is_input_fault memory in
    let failures : (now offset).failures ≡ start.failures + failed_reads fault = omega (arith, read.failures, none) in
    let fails : Fails header start (now offset) fault = record {
      bytes = read.bytes;
      took = read.took;
      needed = read.needed;
      unfinished = λ failed. let e : false ≡ true = sym read_none ∙ failed in absurd (cc e);
      failures = failures;
      refused = λ own. let e : true ≡ false = sym aside ∙ own in absurd (cc e);
    } in
    (offset, given, record { failures = failures; info = fails }, w)

-- the text of the header was given
pub text_exit : (start : State) (now : ℕ → State) (offset : ℕ) (W : Given → Type 0) (reader : TableReader) (text : List ℕ)
    → GoesOn header start (give (header_stated (version_in reader) reader)) (now offset) → text ≡ info_text (version_in reader) (layout_in reader) (schema_in reader) (rows_stated reader) (file_size (version_in reader) (layout_in reader) (schema_in reader) (rows_stated reader))
    → IsSchemaText text (schema_shape (schema_in reader)) → W (Ok text) → Ends start now W
text_exit start now offset W reader text read is spelled w =
    let given : Given = Ok text in (
      offset,
      given,
      record {
        failures = omega (arith, read.failures);
        info = record { told = header_stated (version_in reader) reader; schema = schema_in reader; read = read; shape = refl; is = is; spelled = spelled };
      },
      w,
    )

-- an error of a table file was answered, or out of memory, and nothing was written
pub refused_table : (old : SinkState) (fault : Fault) → IsTableFault fault → WriteOutcome {T = Unit {0}} none_aside old old (Err fault) (Err fault)
refused_table old fault is =
    wrote_nothing (Unit {0}) none_aside old fault (Err fault) (no_write_fault is_table_fault fault is refl) (λ _. refl)

pub refused_memory : (old : SinkState) (fault : Fault) → fault ≡ no_memory → WriteOutcome {T = Unit {0}} none_aside old old (Err fault) (Err fault)
refused_memory old fault is = wrote_nothing (Unit {0}) none_aside old fault (Err fault) (ap is_write_fault is) (λ _. refl)

-- the text of a schema's header is that of another's with the same name and columns
text_same : (version : ℕ) (l m : Layout) (s t : Schema) (n o size : ℕ) → l ≡ m → schema_shape s ≡ schema_shape t → n ≡ o → size ≡ file_size version m t o
    → info_text version l s n (file_size version l s n) ≡ info_text version m t o size
unfolding info_text
text_same version l m s t n o size p q r long =
    let columns = columns_same s.columns.items t.columns.items (ap (λ (h : SchemaShape). h.columns) q) in
    let name : s.name ≡ t.name = ap (λ (h : SchemaShape). h.name) q in
    rw (p, r, columns, name, long) refl

-- a table file's header was reported
pub told_file : (reader : TableReader) (bytes : List ℕ) (layout : Layout) (schema : Schema) (rows : List (List Value)) (text : List ℕ) → IsFileBytes bytes layout schema rows
    → ReturnsFirst reader [] layout schema rows → text ≡ info_text (version_in reader) (layout_in reader) (schema_in reader) (rows_stated reader) (file_size (version_in reader) (layout_in reader) (schema_in reader) (rows_stated reader))
    → (old new : SinkState) (result : Result (Unit {0}) Fault) → GoesOut old new text result → OnOk result (TellsFile bytes layout schema rows old.taken new.taken)
told_file reader bytes layout schema rows text file gave is old new (Ok x) goes =
    let version = version_in reader in
    record {
      version = version;
      size = file_sized bytes layout schema rows version file;
      text = subst (Appends old.taken new.taken) (is ∙ text_same version (layout_in reader) layout (schema_in reader) schema (rows_stated reader) (length rows) (length bytes) gave.layout gave.schema gave.count (file_sized bytes layout schema rows version file)) goes.0;
    }
told_file reader bytes layout schema rows text file gave is old new (Err fault) goes = tt

-- a failed read and out of memory are no verdicts
pub input_verdict : (fault : Fault) → is_input_fault fault ≡ true → is_no_verdict fault ≡ true
input_verdict fault is = or_left (is_input_fault fault) (is_write_fault fault) is
