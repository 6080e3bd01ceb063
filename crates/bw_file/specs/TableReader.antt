-- The state of a reader of a table file, and the meaning of the bytes that it has read.
use Rattle.std.specs.Prelude.{◌≡◌, ℕ, ◌-◌, true, false, List, [], ◌∷◌, ◌++◌, ◌+◌, ◌<◌, ◌⊎◌, length}
use Rattle.std.specs.Prelude.{take, min, Option, Some, None, IfSome, Result, Ok, Err}
use Rattle.std.specs.Io.KnownBytes.{IsAtEnd}
use Rattle.bw_model.specs.FaultTable.{TRUNCATED, BYTES_AFTER_END}
use Rattle.bw_model.specs.declared.fault.Fault.{Fault}
use Rattle.bw_model.specs.declared.schema.Schema.{Schema}
use Rattle.bw_model.specs.Fault.{at_byte}
use Rattle.bw_model.specs.Groups.{group_size, groups_of, together}
use Rattle.bw_model.specs.Row.{Value}
use Rattle.bw_model.specs.SchemaText.{schema_shape}
use Rattle.bw_file.specs.AnySegment.{any_layout, any_meaning}
use Rattle.bw_io.specs.Source.{is_read_fault, is_input_fault, failed_reads}
use Rattle.bw_file.specs.declared.segments.AnySegment.{AnySegment}
use Rattle.bw_file.specs.declared.layout.Layout.{Layout}
use Rattle.bw_file.specs.declared.phase.Phase.{Phase}
use Rattle.bw_file.specs.declared.phase.Phase.TheVariants.{Reading, Ended, Failed}
use Rattle.bw_file.specs.declared.table_reader.TableReader.{TableReader}
use Rattle.bw_file.specs.Reading.{State, HasConsumed, GoesOn, NeedsMore, give}
use Rattle.bw_file.specs.TableReading.{HeaderShape, header, body, segment, group_sizes, Found}
use Rattle.bw_file.specs.TableReading.{found_as, IsReadAs, IsTableFault}

abbrev pub schema_in : TableReader → Schema
schema_in reader = reader.placement.value.schema

-- the version that the header states
abbrev pub version_in : TableReader → ℕ
version_in reader = reader.version

abbrev pub layout_in : TableReader → Layout
layout_in reader = reader.layout

-- the number of rows that the header states, of rows returned, and of bytes read
abbrev pub rows_stated : TableReader → ℕ
rows_stated reader = reader.rows

abbrev pub rows_given : TableReader → ℕ
rows_given reader = reader.given

abbrev pub bytes_taken : TableReader → ℕ
bytes_taken reader = reader.offset

-- what the reader returns from now on without reading: nothing yet, that nothing follows, or an
-- error
abbrev pub settled_by : Phase → Option (Result (Unit {0}) Fault)
settled_by Reading = None
settled_by Ended = Some (Ok tt)
settled_by (Failed fault) = Some (Err fault)

abbrev pub final_result : TableReader → Option (Result (Unit {0}) Fault)
final_result reader = settled_by reader.phase

-- the header that the reader read
abbrev pub header_stated : ℕ → TableReader → HeaderShape
header_stated version reader =
    record {
      version = version;
      layout = reader.layout;
      rows = reader.rows;
      schema = schema_shape reader.placement.value.schema;
    }

-- From the start of the file, the source yielded the header that the reader states, and then these
-- groups of rows. Reading continues with the other groups, whatever follows.
pub record ReadProgress (start now : State) (reader : TableReader)
    (groups : List (List (List Value))) : Type 0 where
  pub after : State
  pub first : start.offset ≡ 0
  pub head : GoesOn header start (give (header_stated (version_in reader) reader)) after
  pub on : GoesOn
      (body reader.layout reader.placement.value.schema.columns.items
      (group_sizes reader.rows) []) after
      (body reader.layout reader.placement.value.schema.columns.items
      (group_sizes (reader.rows - reader.given)) groups) now

-- the reader states the same table
pub record SameTable (old new : TableReader) : Type 0 where
  pub version : new.version ≡ old.version
  pub layout : new.layout ≡ old.layout
  pub schema : new.placement.value.schema ≡ old.placement.value.schema
  pub rows : new.rows ≡ old.rows

-- the table of these groups
abbrev pub found_so_far : TableReader → List (List (List Value)) → Found
found_so_far reader groups =
    found_as reader.layout (schema_shape reader.placement.value.schema) (together groups)

-- Each proper prefix of the bytes ends too early: a file of only these bytes is rejected by 305, at
-- its own end. So reading depends on each byte.
abbrev pub FrontsEndEarly : List ℕ → Type 0
FrontsEndEarly bytes = (n : ℕ) → n < length bytes
    → IsReadAs (take n bytes) (Err (at_byte TRUNCATED n))

-- all bytes were read, each of which reading depends on, with no failed read, and they spell this
-- table
pub record ReadWhole (start now : State) (found : Found) : Type 0 where
  pub bytes : List ℕ
  pub took : HasConsumed start now bytes
  pub needed : FrontsEndEarly bytes
  pub failures : now.failures ≡ start.failures
  pub ended : IsAtEnd now.known
  pub read : IsReadAs bytes (Ok found)

-- the first n bytes don't have this error: they end too early; or they spell a table, and the error
-- is a byte after them
abbrev pub LacksFault : List ℕ → ℕ → Fault → Type 0
LacksFault bytes n fault =
    IsReadAs (take n bytes) (Err (at_byte TRUNCATED n))
    ⊎ ((found : Found) × IsReadAs (take n bytes) (Ok found) × (fault ≡ at_byte BYTES_AFTER_END n))

-- reading depends on each of the bytes: fewer of them lack this error
abbrev pub NoneToSpare : List ℕ → Fault → Type 0
NoneToSpare bytes fault = (n : ℕ) → n < length bytes → LacksFault bytes n fault

-- these bytes, and others after them, which are the unread ones if those are known, are read as
-- this error
pub record HasFirstFault (now : State) (bytes : List ℕ) (fault : Fault) : Type 0 where
  pub rest : List ℕ
  pub coming : IfSome now.known (λ known. known ≡ rest)
  pub read : IsReadAs (bytes ++ rest) (Err fault)

-- the bytes don't settle whether a file has an error: they end too early; or they spell a table,
-- and a byte after them would be an error
abbrev pub AreUnfinished : List ℕ → Type 0
AreUnfinished bytes =
    IsReadAs bytes (Err (at_byte TRUNCATED (length bytes)))
    ⊎ ((found : Found) × IsReadAs bytes (Ok found))

-- Since the start of the file, bytes were read, each of which reading depends on, and an error was
-- returned: that of a failed read, if another byte or the end was needed; out of memory; or the
-- file's first error.
pub record AnswersFault (start old now : State) (fault : Fault) : Type 0 where
  pub bytes : List ℕ
  pub took : HasConsumed start now bytes
  pub needed : NoneToSpare bytes fault
  pub unfinished : is_read_fault fault ≡ true → AreUnfinished bytes
  pub failures : now.failures ≡ old.failures + failed_reads fault
  pub first : is_input_fault fault ≡ false → HasFirstFault now bytes fault

-- these bytes, read at this place, don't suffice: there is none, or they are too few for a segment
-- of the next 512 rows, or of the remaining rows
abbrev pub WantsMore : TableReader → ℕ → List ℕ → Type 0
WantsMore reader at bytes =
    (bytes ≡ []) ⊎ NeedsMore (segment (layout_in reader) (schema_in reader).columns.items
    (min group_size (rows_stated reader - rows_given reader))) at bytes

-- a segment of the reader's table, in the file's layout, of the next 512 rows or of the remaining
-- ones
pub record IsSegmentOf (reader : TableReader) (segment : AnySegment) : Type 0 where
  pub layout : any_layout segment ≡ reader.layout
  pub name : (any_meaning segment).name ≡ reader.placement.value.schema.name
  pub columns : (any_meaning segment).columns ≡ reader.placement.value.schema.columns.items
  pub count : length (any_meaning segment).rows ≡ min group_size (reader.rows - reader.given)

-- A call returned the next segment.
pub record ReturnsSegment (old now : State) (reader next : TableReader)
    (segment : AnySegment) : Type 0 where
  -- it is a segment of the reader's table, of the next rows
  pub of_table : IsSegmentOf reader segment
  -- its rows follow the groups so far
  pub after : (start : State) (groups : List (List (List Value)))
      → ReadProgress start old reader groups
      → ReadProgress start now next (groups ++ (any_meaning segment).rows ∷ [])
  -- its rows are counted
  pub row_count : rows_given next ≡ rows_given reader + length (any_meaning segment).rows
  -- these bytes were read, and no read failed
  pub bytes : List ℕ
  pub took : HasConsumed old now bytes
  pub failures : now.failures ≡ old.failures
  -- the reader continues
  pub goes_on : final_result next ≡ None
  -- it states the same table
  pub same : SameTable reader next

-- A call found that the file ends after the groups so far.
pub record EndsCompletely (old now : State) (reader next : TableReader) : Type 0 where
  -- the file was read completely, and spells a table of the rows of these groups
  pub whole : (start : State) (groups : List (List (List Value)))
      → ReadProgress start old reader groups → ReadWhole start now (found_so_far reader groups)
  -- these are the groups of all rows
  pub groups : (start : State) (groups : List (List (List Value)))
      → ReadProgress start old reader groups → groups ≡ groups_of (together groups)
  -- no row was counted
  pub row_count : rows_given next ≡ rows_given reader
  -- no byte was read, and no read failed
  pub took : HasConsumed old now []
  pub failures : now.failures ≡ old.failures
  -- the reader returns from now on that nothing follows
  pub settles : final_result next ≡ Some (Ok tt)
  -- it states the same table
  pub same : SameTable reader next

-- A call failed by this error.
pub record FailsBy (old now : State) (reader next : TableReader) (fault : Fault) : Type 0 where
  -- it is the file's first error, a failed read or out of memory, and reading depends on each byte
  -- that was read
  pub answers : (start : State) (groups : List (List (List Value)))
      → ReadProgress start old reader groups → AnswersFault start old now fault
  -- it is an error of table files
  pub own : IsTableFault fault
  -- no row was counted
  pub row_count : rows_given next ≡ rows_given reader
  -- these bytes were read, and the error is that of a failed read exactly if one failed
  pub bytes : List ℕ
  pub took : HasConsumed old now bytes
  pub failures : now.failures ≡ old.failures + failed_reads fault
  -- if a read failed, more than these bytes was needed
  pub unfinished : is_read_fault fault ≡ true → WantsMore reader old.offset bytes
  -- the reader returns this error from now on
  pub settles : final_result next ≡ Some (Err fault)
  -- it states the same table
  pub same : SameTable reader next

-- a call returned what was settled
abbrev pub Repeats : Result (Option AnySegment) Fault → Result (Unit {0}) Fault → Type 0
Repeats result (Ok x) = result ≡ Ok None
Repeats result (Err fault) = (result ≡ Err fault) × IsTableFault fault

-- A call repeated the result of an earlier one, and changed nothing.
pub record RepeatsResult {S : Type 0} (source next_source : S) (reader next : TableReader)
    (result : Result (Option AnySegment) Fault) : Type 0 where
  -- the settled result: that nothing follows, or an error
  pub answer : Result (Unit {0}) Fault
  pub was_settled : final_result reader ≡ Some answer
  pub again : Repeats result answer
  -- neither the reader nor the source has changed
  pub same_reader : next ≡ reader
  pub same_source : next_source ≡ source

-- What a call for the next segment did, and how it left the reader and the source. It returned the
-- segment; it found the end of a complete file; it failed by the first error; or it repeated the
-- result of an earlier call.
pub data GivesNext {S : Type 0} (source next_source : S) (old now : State)
    (reader next : TableReader) :
    Result (Option AnySegment) Fault → Type 0 where
  gives : {segment : AnySegment} → final_result reader ≡ None →
      ReturnsSegment old now reader next segment →
      GivesNext source next_source old now reader next (Ok (Some segment))
  ends : final_result reader ≡ None → EndsCompletely old now reader next →
      GivesNext source next_source old now reader next (Ok None)
  refuses : {fault : Fault} → final_result reader ≡ None → FailsBy old now reader next fault →
      GivesNext source next_source old now reader next (Err fault)
  repeats : {result : Result (Option AnySegment) Fault} →
      RepeatsResult source next_source reader next result →
      GivesNext source next_source old now reader next result

-- The reader states this layout, schema and number of rows, and these groups are the first ones of
-- the rows.
pub record ReturnsFirst (reader : TableReader) (groups : List (List (List Value))) (kept : Layout)
    (under : Schema) (rows : List (List Value)) : Type 0 where
  pub layout : layout_in reader ≡ kept
  pub schema : schema_shape (schema_in reader) ≡ schema_shape under
  pub count : rows_stated reader ≡ length rows
  pub more : List (List (List Value))
  pub first : groups ++ more ≡ groups_of rows
