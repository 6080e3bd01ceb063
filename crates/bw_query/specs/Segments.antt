-- The segments of a table, in order, and what consumes them.
use Rattle.std.specs.Prelude.{◌≡◌, ◌≤◌, ◌+◌, ◌-◌, ◌^◌, ◌<◌, ◌++◌, ◌∷◌, None, ℕ, Bool}
use Rattle.std.specs.Prelude.{List, [], length, if◌then◌else◌}
use Rattle.std.specs.List.{flat_map, range_with_len, sum_by}
use Rattle.bw_model.specs.declared.column.Column.{Column}
use Rattle.bw_model.specs.declared.fault.Fault.{Fault}
use Rattle.bw_model.specs.declared.query.Query.{Query}
use Rattle.bw_model.specs.Column.{names_of}
use Rattle.bw_model.specs.Groups.{groups_of, together}
use Rattle.bw_model.specs.Row.{Value}
use Rattle.bw_answer.specs.Answer.{csv_text, meaning}
use Rattle.bw_file.specs.Reading.{State}
use Rattle.bw_file.specs.TableReader.{AnswersFault, ReadProgress, ReadWhole, SameTable}
use Rattle.bw_file.specs.TableReader.{found_so_far, final_result}
use Rattle.bw_file.specs.declared.table_reader.TableReader.{TableReader}
use Rattle.bw_memory.specs.MemoryTable.{meaning_numbered, rows_of, schema_of, segments_in}
use Rattle.bw_memory.specs.StoredSegments.{stored_groups}
use Rattle.bw_memory.specs.declared.table.MemoryTable.{MemoryTable}
use Rattle.bw_ranges.specs.declared.verdict.Verdict.{Verdict}
use Rattle.bw_query.specs.declared.scan.Scan.{Scan}
use Rattle.bw_query.specs.declared.served.Scanned.{Scanned}
use Rattle.bw_query.specs.declared.served.TableText.{TableText}
use Rattle.bw_query.specs.Scan.{loads_in, skips_in}
use Rattle.bw_query.specs.Served.{finder_of}
use Rattle.bw_query.specs.Settled.{is_settled, only_counts, settled_by}

-- A consumer has consumed a group of rows of these columns, one or more: it fits further ones, and
-- has consumed so many rows more, and this group after those before it.
pub record Consumes {C : Type 0} (columns : List Column) (group : List (List Value))
    (Fits : C → List Column → Type 0) (Rows : C → ℕ)
    (Over : C → List Column → List (List (List Value)) → C → Type 0) (old new : C) : Type 0 where
  pub some : 1 ≤ length group
  pub fits : Fits new columns
  pub rows : Rows new ≡ Rows old + length group
  pub over : (start : C) (groups : List (List (List Value))) → Over start columns groups old
      → Over start columns (groups ++ group ∷ []) new

-- a group of rows came and was consumed
pub record TakesGroup {C : Type 0} (columns : List Column) (Comes : List (List Value) → Type 0)
    (Fits : C → List Column → Type 0) (Rows : C → ℕ)
    (Over : C → List Column → List (List (List Value)) → C → Type 0) (old new : C) : Type 0 where
  pub group : List (List Value)
  pub comes : Comes group
  pub consumed : Consumes columns group Fits Rows Over old new

-- the text is one over all groups of a table
pub record GivesText (All : List (List (List Value)) → Type 0)
    (Gives : List (List (List Value)) → TableText → Type 0) (found : TableText) : Type 0 where
  pub groups : List (List (List Value))
  pub all : All groups
  pub gives : Gives groups found

-- this many segments, of these groups of rows, were scanned, with the sums of the scan's loads and
-- skips
pub record IsScanOf (columns : List Column) (scan : Scan) (groups : List (List (List Value)))
    (scanned : Scanned) : Type 0 where
  pub segments : scanned.segments ≡ length groups
  pub loads : scanned.loads ≡ sum_by (loads_in columns scan) groups
  pub skips : scanned.skips ≡ sum_by (skips_in columns scan) groups

-- the text is that of the query's meaning over all groups of a table, which were scanned
pub record IsTextOf (columns : List Column) (query : Query) (scan : Scan)
    (All : List (List (List Value)) → Type 0) (text : List ℕ) (scanned : Scanned) : Type 0 where
  pub groups : List (List (List Value))
  pub all : All groups
  pub counts : IsScanOf columns scan groups scanned
  pub is : text ≡ csv_text (meaning (names_of columns) query (together groups))

-- After a reader had read the header of a file, these groups were read, and no read failed. Then
-- there is the next state, and reading can go on.
pub record HasGiven (old : State) (reader : TableReader) (groups : List (List (List Value)))
    (now : State) (next : TableReader) : Type 0 where
  pub read : (start : State) → ReadProgress start old reader []
      → ReadProgress start now next groups
  pub same : SameTable reader next
  pub reading : final_result next ≡ None
  pub failures : now.failures ≡ old.failures
  pub fits : old.failures < 2 ^ 64 - 1

-- these groups are all rows of the file, which was read completely
pub record HasGivenAll (old : State) (reader : TableReader) (groups : List (List (List Value)))
    (now : State) : Type 0 where
  pub read : (start : State) → ReadProgress start old reader []
      → ReadWhole start now (found_so_far reader groups)
  pub cut : (start : State) → ReadProgress start old reader []
      → groups ≡ groups_of (together groups)

-- the rest of the file has this error, or it is a failed read or out of memory
abbrev pub HasFailed : State → TableReader → State → Fault → Type 0
HasFailed old reader now fault = (start : State) → ReadProgress start old reader []
    → AnswersFault start old now fault

-- the groups of rows of the first segments of a table in memory, this many
abbrev pub groups_before : MemoryTable → ℕ → List (List (List Value))
groups_before table number = stored_groups table.layout (schema_of table).columns.items table.rows
    number table.columns.items

-- the rows of a segment of a table in memory, unless it is settled
abbrev pub open_group : MemoryTable → List Bool → ℕ → List (List (List Value))
open_group table settled number = if is_settled settled number then []
    else (meaning_numbered table number).rows ∷ []

-- the groups of rows of the first segments, this many, without those that are settled
unfoldable pub open_groups : MemoryTable → List Bool → ℕ → List (List (List Value))
open_groups table settled count = flat_map (open_group table settled) (range_with_len 0 count)

-- the groups of rows that a scan doesn't leave out, by the verdicts on a table's segments
abbrev pub groups_left : MemoryTable → Bool → List Verdict → List (List (List Value))
groups_left table counts verdicts =
    open_groups table (settled_by counts verdicts) (segments_in table)

-- The text is that of the query's meaning over all rows of a table. The segments that aren't left
-- out were scanned.
pub record IsTextOver (table : MemoryTable) (verdicts : List Verdict) (query : Query) (scan : Scan)
    (text : List ℕ) (scanned : Scanned) : Type 0 where
  pub counts : IsScanOf (schema_of table).columns.items scan
      (groups_left table (only_counts query (finder_of scan)) verdicts) scanned
  pub is : text ≡ csv_text (meaning (names_of (schema_of table).columns.items) query (rows_of table))
