-- Out of memory after some groups of a table file, or after all; the same of a file by columns, and
-- of a table in memory.
use Rattle.std.proofs.Common.{◌≡◌, ◌∙◌, ℕ, Bool, List, ◌++◌, arith, refl, sym}
use Rattle.bw_model.specs.Fault.{no_memory}
use Rattle.bw_model.specs.Row.{Value}
use Rattle.bw_io.specs.RandomAccess.{AccessState}
use Rattle.bw_file.specs.Reading.{State, HasConsumed}
use Rattle.bw_file.specs.TableReader.{FrontsEndEarly, ReadProgress}
use Rattle.bw_file.specs.declared.table_reader.TableReader.{TableReader}
use Rattle.bw_memory.specs.declared.columnar.ColumnarTable.{ColumnarTable}
use Rattle.bw_memory.specs.declared.segment_window.SegmentWindow.{SegmentWindow}
use Rattle.bw_file.proofs.MemoryAnswers.{memory_answers}
use Rattle.bw_file.proofs.ReaderLemmas.{ends_early}
use Rattle.bw_file.proofs.ReadingLemmas.{took_more}
use Rattle.bw_query.specs.ColumnarSegments.{HasFailedPart, HasGivenAllParts, HasGivenParts, HasRead}
use Rattle.bw_query.specs.Segments.{HasFailed, HasGiven, HasGivenAll}

-- the bytes of what was read, fewer of which end too early
taken_by : (start now : State) (reader : TableReader) (groups : List (List (List Value))) → ReadProgress start now reader groups
    → (bytes : List ℕ) × HasConsumed start now bytes × FrontsEndEarly bytes
taken_by start now reader groups read = (
  read.head.bytes ++ read.on.bytes,
  took_more start read.after now read.head.bytes read.on.bytes read.head.took read.on.took,
  ends_early start now reader groups read read.on.bytes read.on.needed,
)

pub file_fails_among : (old : State) (reader : TableReader) (groups : List (List (List Value))) (now : State) (next : TableReader) → HasGiven old reader groups now next
    → HasFailed old reader now no_memory
file_fails_among old reader groups now next gave = λ start read. memory_answers start old now no_memory (taken_by start now next groups (gave.read start read)) gave.failures refl

pub file_fails_after : (old : State) (reader : TableReader) (groups : List (List (List Value))) (now : State) → HasGivenAll old reader groups now → HasFailed old reader now no_memory
file_fails_after old reader groups now all = λ start read.
    let whole = all.read start read in
    memory_answers start old now no_memory (whole.bytes, whole.took, whole.needed)
    (whole.failures ∙ sym (read.on.failures ∙ read.head.failures)) refl

-- out of memory is the only error of a table in memory
pub memory_fails : no_memory ≡ no_memory
memory_fails = refl

-- no read failed
no_part_failed : (old now : AccessState) → HasRead old now → HasFailedPart old now no_memory
no_part_failed old now read = record { known = read.known; failures = omega (arith, read.failures) }

pub parts_fail_among : {old now : AccessState} {columnar columnar_now : ColumnarTable} {wanted wanted_now : List Bool} {groups : List (List (List Value))} {window : SegmentWindow} {next : ℕ}
    → HasGivenParts old columnar wanted groups now columnar_now wanted_now window next → HasFailedPart old now no_memory
parts_fail_among given = no_part_failed _ _ given.read

pub parts_fail_after : {old now : AccessState} {columnar : ColumnarTable} {wanted : List Bool} {groups : List (List (List Value))} → HasGivenAllParts old columnar wanted groups now
    → HasFailedPart old now no_memory
parts_fail_after all = no_part_failed _ _ all.read
