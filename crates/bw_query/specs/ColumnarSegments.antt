-- The segments of a file by columns, of which some columns are read, as far as they came.
use Rattle.std.specs.Prelude.{◌≡◌, ◌+◌, ◌-◌, ◌*◌, ◌^◌, ◌<◌, ℕ, Bool, List, Option, min}
use Rattle.bw_model.specs.declared.fault.Fault.{Fault}
use Rattle.bw_model.specs.declared.query.Query.{Query}
use Rattle.bw_model.specs.Groups.{group_size}
use Rattle.bw_model.specs.Row.{Value}
use Rattle.bw_io.specs.RandomAccess.{AccessState}
use Rattle.bw_io.specs.Source.{failed_reads}
use Rattle.bw_memory.specs.declared.columnar.ColumnarTable.{ColumnarTable}
use Rattle.bw_memory.specs.declared.segment_window.SegmentWindow.{SegmentWindow}
use Rattle.bw_memory.specs.Columnar.{HasColumns, SameHeader, column_count, is_wanted, table_in}
use Rattle.bw_memory.specs.MemoryTable.{groups_in, schema_of, segments_in}
use Rattle.bw_memory.specs.Windows.{HasGroups, IsWindow, first_in}
use Rattle.bw_query.specs.NamedColumns.{is_read}
use Rattle.bw_query.specs.Scan.{program_of}
use Rattle.bw_query.specs.Segments.{IsTextOf}
use Rattle.bw_query.specs.declared.scan.Scan.{Scan}
use Rattle.bw_query.specs.declared.served.Scanned.{Scanned}

-- how many rows the first segments have, this many
abbrev pub rows_before : ColumnarTable → ℕ → ℕ
rows_before columnar count = min (table_in columnar).rows (group_size * count)

-- the device has the same bytes, and no read failed in between
pub record HasRead (old now : AccessState) : Type 0 where
  pub known : now.known ≡ old.known
  pub failures : now.failures ≡ old.failures

-- These groups of rows came: those of the segments before the window, and of its first ones, this
-- many. The window has the file's segments.
pub record HasGivenParts (old : AccessState) (file : ColumnarTable) (flags : List Bool)
    (came : List (List (List Value))) (now : AccessState) (file_now : ColumnarTable)
    (flags_now : List Bool) (part : SegmentWindow) (at : ℕ) : Type 0 where
  pub read : HasRead old now
  pub fits : old.failures < 2 ^ 64 - 1
  pub columnar : file_now ≡ file
  pub wanted : flags_now ≡ flags
  pub window : IsWindow old.known file (is_wanted flags) part
  pub groups : HasGroups old.known file (is_wanted flags) (first_in part + at) came

-- these groups of rows came, and are those of all segments
pub record HasGivenAllParts (old : AccessState) (file : ColumnarTable) (flags : List Bool)
    (came : List (List (List Value))) (now : AccessState) : Type 0 where
  pub read : HasRead old now
  pub groups : HasGroups old.known file (is_wanted flags) (segments_in (table_in file)) came

-- a read failed, or not, as the error says
pub record HasFailedPart (old now : AccessState) (fault : Fault) : Type 0 where
  pub known : now.known ≡ old.known
  pub failures : now.failures ≡ old.failures + failed_reads fault

-- the text is that of the query's meaning over the file's table, in which the columns that the query
-- or its program names have the file's blocks, and each other column has its minimum
pub record IsTextByColumns (known : Option (List ℕ)) (columnar : ColumnarTable) (query : Query)
    (scan : Scan) (text : List ℕ) (scanned : Scanned) : Type 0 where
  pub table : ColumnarTable
  pub same : SameHeader columnar table
  pub columns : HasColumns known table (is_read (program_of scan) query) (column_count table)
  pub is : IsTextOf (schema_of (table_in table)).columns.items query scan
      (λ groups. groups ≡ groups_in (table_in table)) text scanned
