-- The segments of a file by columns, one after another.
use Rattle.std.proofs.Common.{◌≡◌, ◌∙◌, sym, ap, subst, ℕ, ◌+◌, ◌-◌, ◌<◌, Bool, List, [], ◌++◌, ◌∷◌, length, Option, Result, Ok, Err, arith}
use Rattle.std.specs.Prelude.{IfOk}
use Rattle.bw_model.specs.declared.fault.Fault.{Fault}
use Rattle.bw_model.specs.declared.query.Query.{Query}
use Rattle.bw_model.specs.declared.schema.Schema.{Schema}
use Rattle.bw_model.specs.Groups.{group_size}
use Rattle.bw_model.specs.Row.{Value}
use Rattle.bw_segment.specs.ColumnBlocks.{segment_numbered}
use Rattle.bw_segment.proofs.SoundLemmas.{length-rows_spelled}
use Rattle.bw_io.specs.RandomAccess.{AccessState}
use Rattle.bw_file.specs.Blocks.{form_of}
use Rattle.bw_memory.specs.declared.columnar.ColumnarTable.{ColumnarTable}
use Rattle.bw_memory.specs.declared.segment_window.SegmentWindow.{SegmentWindow}
use Rattle.bw_memory.specs.declared.table.MemoryTable.{MemoryTable}
use Rattle.bw_memory.specs.Columnar.{HasColumns, SameHeader, column_count, is_wanted, table_in}
use Rattle.bw_memory.specs.Columns.{IsBlank}
use Rattle.bw_memory.specs.MemoryTable.{groups_in, layout_of, meaning_numbered, schema_of, segments_in}
use Rattle.bw_memory.specs.StoredSegments.{rows_numbered}
use Rattle.bw_memory.specs.Windows.{HasGroups, IsPart, IsWindow, first_in, window_in}
use Rattle.bw_memory.proofs.ReadColumnsLemmas.{read_alike}
use Rattle.bw_memory.proofs.WindowLemmas.{one_read, whole_groups, whole_has, whole_same, whole_table}
use Rattle.bw_query.specs.ColumnarSegments.{HasGivenParts, IsTextByColumns, rows_before}
use Rattle.bw_query.specs.NamedColumns.{is_read}
use Rattle.bw_query.specs.Scan.{program_of}
use Rattle.bw_query.specs.Segments.{IsTextOf}
use Rattle.bw_query.specs.declared.scan.Scan.{Scan}
use Rattle.bw_query.specs.declared.served.Scanned.{Scanned}
use Rattle.bw_query.specs.declared.served.TableText.{TableText}

module _ {old now : AccessState} {columnar columnar_now : ColumnarTable} {wanted wanted_now : List Bool} {groups : List (List (List Value))} {window : SegmentWindow} {next : ℕ}
    (given : HasGivenParts old columnar wanted groups now columnar_now wanted_now window next) where
  -- the next window was read, or not, and no group came
  pub given_still : (after : AccessState) (columnar_after : ColumnarTable) (wanted_after : List Bool) (window_after : SegmentWindow) (next_after : ℕ)
      → IsWindow now.known columnar_now (is_wanted wanted_now) window_after → first_in window_after + next_after ≡ first_in window + next → columnar_after ≡ columnar_now → wanted_after ≡ wanted_now
      → after.known ≡ now.known → after.failures ≡ now.failures → HasGivenParts old columnar wanted groups after columnar_after wanted_after window_after next_after
  given_still after columnar_after wanted_after window_after next_after is same columnar_is wanted_is known failures = record {
    read = record { known = known ∙ given.read.known; failures = failures ∙ given.read.failures };
    fits = given.fits;
    columnar = columnar_is ∙ given.columnar;
    wanted = wanted_is ∙ given.wanted;
    window = rw (given.read.known, given.columnar, given.wanted) at is;
    groups = subst (λ n. HasGroups old.known columnar (is_wanted wanted) n groups) (sym same) given.groups;
  }

  -- the next group came
  pub part_taken : (next_after : ℕ) → next < segments_in (window_in window) → next_after ≡ next + 1
      → HasGivenParts old columnar wanted (groups ++ (meaning_numbered (window_in window) next).rows ∷ []) now columnar_now wanted_now window next_after
  part_taken next_after there is = record {
    read = given.read;
    fits = given.fits;
    columnar = given.columnar;
    wanted = given.wanted;
    window = given.window;
    groups = subst (λ n. HasGroups old.known columnar (is_wanted wanted) n (groups ++ (meaning_numbered (window_in window) next).rows ∷ [])) {x = first_in window + next + 1} {y = first_in window + next_after} (omega (arith, is))
        (one_read old.known columnar (is_wanted wanted) (first_in window) next (window_in window) groups given.window there given.groups);
  }

-- how many rows come with the next segment
pub rows_by_columns : (columnar : ColumnarTable) (first next next_after : ℕ) (table : MemoryTable) → IsPart columnar first table → next < segments_in table → next_after ≡ next + 1
    → rows_before columnar (first + next_after) ≡ rows_before columnar (first + next) + length (meaning_numbered table next).rows
unfolding group_size
rows_by_columns columnar first next next_after table part there is =
    omega (arith, is, part.rows next there, length-rows_spelled (form_of (layout_of table)) (schema_of table).columns.items (rows_numbered table.rows next) (segment_numbered table.columns.items next))

-- the text is that over the file's table
pub text_by_parts : (known : Option (List ℕ)) (columnar : ColumnarTable) (query : Query) (scan : Scan) (wanted : List Bool) (text : List ℕ) (scanned : Scanned) → IsBlank (table_in columnar)
    → ((column : ℕ) → column < column_count columnar → is_wanted wanted column ≡ is_read (program_of scan) query column)
    → IsTextOf (schema_of (table_in columnar)).columns.items query scan (HasGroups known columnar (is_wanted wanted) (segments_in (table_in columnar))) text scanned
    → IsTextByColumns known columnar query scan text scanned
text_by_parts known columnar query scan wanted text scanned blank alike over =
    let read = is_wanted wanted in
    let found = over.all in
    let table = whole_table known columnar read blank found.blocks found.are in
    let same = whole_same known columnar read blank found.blocks found.are in
    let count : column_count table ≡ column_count columnar = ap (λ (s : Schema). length s.columns.items) same.schema in
    record {
      table = table;
      same = same;
      columns = read_alike known table read (is_read (program_of scan) query) (column_count table) (λ column lt. alike column (omega (arith, lt, count))) (omega arith) (whole_has known columnar read blank found.blocks found.are);
      is = subst (λ (s : Schema). IsTextOf s.columns.items query scan (λ groups. groups ≡ groups_in (table_in table)) text scanned) (sym same.schema)
          (record { groups = over.groups; all = found.is ∙ whole_groups known columnar read blank found.blocks found.are; counts = over.counts; is = over.is });
    }

-- or over the table of which the columns were read, one after another
pub text_read_if : (known known_then : Option (List ℕ)) (columnar new : ColumnarTable) (query : Query) (scan : Scan) (result : Result TableText Fault) → known_then ≡ known → SameHeader columnar new
    → IfOk result (λ _. HasColumns known_then new (is_read (program_of scan) query) (column_count new))
    → IfOk result (λ found. IsTextOf (schema_of (table_in new)).columns.items query scan (λ groups. groups ≡ groups_in (table_in new)) found.text.items found.scanned)
    → IfOk result (λ found. IsTextByColumns known columnar query scan found.text.items found.scanned)
text_read_if known known_then columnar new query scan (Ok found) is same columns over = record {
  table = new;
  same = same;
  columns = subst (λ (k : Option (List ℕ)). HasColumns k new (is_read (program_of scan) query) (column_count new)) is columns;
  is = over;
}
text_read_if known known_then columnar new query scan (Err fault) is same columns over = tt

-- an error is no text
pub err_is_not_ok : (fault : Fault) (found : TableText) → ◌≡◌ {A = Result TableText Fault} (Err fault) (Ok found) → ⊥
err_is_not_ok fault found is = cc is
