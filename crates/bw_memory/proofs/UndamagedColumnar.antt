-- The file by columns of a table's rows has no error in any column.
use Rattle.std.proofs.Common.{◌≡◌, ◌∙◌, refl, sym, ap, subst, ℕ, suc, ◌+◌, ◌*◌, ◌<◌, ◌≤◌, Bool, true, false, ◌||◌, List, [], ◌++◌, get_or}
use Rattle.std.proofs.Common.{length, take, drop, None, Some, inl, inr, length-drop, length-take, arith}
use Rattle.std.proofs.lemmas.List.Elements.{All-get_or}
use Rattle.std.proofs.lemmas.Nat.{mul-le}
use Rattle.bw_model.specs.declared.column.Column.{Column}
use Rattle.bw_model.specs.declared.fault.Fault.{Fault}
use Rattle.bw_model.specs.declared.schema.Schema.{Schema}
use Rattle.bw_model.specs.Fault.{is_memory}
use Rattle.bw_model.specs.Groups.{group_size, groups_of}
use Rattle.bw_model.specs.Row.{Value}
use Rattle.bw_segment.specs.Packing.{block_bytes}
use Rattle.bw_segment.proofs.BytesLemmas.{block_is_fine}
use Rattle.bw_segment.proofs.LayoutLemmas.{before_in_order}
use Rattle.bw_io.specs.Source.{is_input_fault, is_read_fault}
use Rattle.bw_file.specs.declared.layout.Layout.{Layout}
use Rattle.bw_file.specs.declared.order.FileOrder.TheVariants.{ByColumns}
use Rattle.bw_file.specs.Blocks.{block_fault, block_size, bytes_before, form_of, segment_size}
use Rattle.bw_file.specs.Columnar.{IsColumnarFile}
use Rattle.bw_file.proofs.ColumnarLemmas.{IsGroupOf, groups_admitted}
use Rattle.bw_file.proofs.SegmentLemmas.{is_packing}
use Rattle.bw_file.proofs.SpelledBody.{group_under}
use Rattle.bw_file.proofs.SpellingLemmas.{head_bytes}
use Rattle.bw_memory.specs.declared.columnar.ColumnarTable.{ColumnarTable}
use Rattle.bw_memory.specs.Columnar.{IsBlockFault, IsColumnFault, IsOpened, StatesHeader, column_count, head_size, place_in, table_in}
use Rattle.bw_memory.specs.MemoryTable.{layout_of, schema_of, segments_in}
use Rattle.bw_memory.specs.StoredSegments.{rows_numbered}
use Rattle.bw_memory.proofs.WholeColumnar.{block_is, body, columns_are, count_same, group_at, head_same, layout_same, parts, rows_same, stated}

or_true : (b : Bool) → (b || true) ≡ true
or_true true = refl
or_true false = refl

-- a block of the file is valid, whoever names its layout, columns and place
fine_by : (L M : Layout) (C D : List Column) (column rows count : ℕ) (block text : List ℕ) → L ≡ M → C ≡ D → rows ≡ count → block ≡ text → block_fault M D column count text ≡ None → block_fault L C column rows block ≡ None
fine_by L M C D column rows count block text a b c d fine = rw (a, b, c, d) fine

block_by : (L M : Layout) (C D : List Column) (column number head h segments n : ℕ) (bytes : List ℕ) → L ≡ M → C ≡ D → h ≡ head → n ≡ segments
    → take (block_size L C column) (drop (h + n * bytes_before L C column + number * block_size L C column) bytes) ≡ take (block_size M D column) (drop (head + segments * bytes_before M D column + number * block_size M D column) bytes)
block_by L M C D column number head h segments n bytes a b c d = rw (a, b, c, d) refl

module _ (bytes : List ℕ) (layout : Layout) (schema : Schema) (rows : List (List Value)) (file : IsColumnarFile bytes layout schema rows)
    (columnar : ColumnarTable) (opened : IsOpened (Some bytes) columnar) (column : ℕ) (there : column < column_count columnar) where
  abbrev head : List ℕ
  head = head_bytes ByColumns (stated bytes layout schema rows file)

  abbrev rest : List ℕ
  rest = body bytes layout schema rows file

  states : StatesHeader columnar (head ++ rest)
  states = subst (StatesHeader columnar) (parts bytes layout schema rows file) opened.header

  columns_same : (schema_of (table_in columnar)).columns.items ≡ schema.columns.items
  columns_same = columns_are bytes layout schema rows file columnar rest states

  within : column < length schema.columns.items
  within = omega (arith, there, ap length columns_same)

  -- a block that is the file's is valid
  fine : (number : ℕ) (block : List ℕ) → number < segments_in (table_in columnar)
      → block ≡ take (block_size (layout_of (table_in columnar)) (schema_of (table_in columnar)).columns.items column) (drop (place_in columnar column number) bytes)
      → block_fault (layout_of (table_in columnar)) (schema_of (table_in columnar)).columns.items column (rows_numbered (table_in columnar).rows number) block ≡ None
  unfolding group_size
  fine number block lt is =
      let count = count_same bytes layout schema rows file columnar rest states in
      let here : number < length (groups_of rows) = omega (arith, lt, count) in
      let group = get_or (groups_of rows) number [] in
      let good : IsGroupOf schema.columns.items group = All-get_or (IsGroupOf schema.columns.items) (groups_of rows) number [] here (groups_admitted schema.columns.items rows file.admitted.admitted) in
      let size : rows_numbered (table_in columnar).rows number ≡ length group =
      omega (arith, ap length (group_at number rows here), length-take 512 (drop (512 * number) rows), length-drop (512 * number) rows, rows_same bytes layout schema rows file columnar rest states) in
      let text = is ∙ block_by (layout_of (table_in columnar)) layout (schema_of (table_in columnar)).columns.items schema.columns.items column number (length head) (head_size columnar) (length (groups_of rows)) (segments_in (table_in columnar)) bytes
      (layout_same bytes layout schema rows file columnar rest states) columns_same (head_same bytes layout schema rows file columnar rest states) count
      ∙ block_is layout schema rows file.admitted.admitted bytes head column number (parts bytes layout schema rows file) within here in
      fine_by (layout_of (table_in columnar)) layout (schema_of (table_in columnar)).columns.items schema.columns.items column (rows_numbered (table_in columnar).rows number) (length group) block
      (block_bytes (form_of layout) schema.columns.items column group) (layout_same bytes layout schema rows file columnar rest states) columns_same size text
      (block_is_fine (form_of layout) (is_packing layout) (group_under schema.columns.items group) good column within)

  no_block : (fault : Fault) → IsBlockFault (Some bytes) columnar column fault → ⊥
  no_block fault found =
      let e = sym (fine found.first.number (found.blocks found.first.number) found.first.within (found.are found.first.number found.first.within)) ∙ found.first.here in cc e

  -- and the file is long enough for it
  long_enough : place_in columnar column 0 + segments_in (table_in columnar) * block_size (layout_of (table_in columnar)) (schema_of (table_in columnar)).columns.items column ≤ length bytes
  long_enough =
      let L = layout_of (table_in columnar) in
      let C = (schema_of (table_in columnar)).columns.items in
      let n = segments_in (table_in columnar) in
      let order = before_in_order (form_of L) C (suc column) (length C) (omega (arith, there)) in
      let le = mul-le n (bytes_before L C column + block_size L C column) n (segment_size L C) (omega arith) order in
      let both : n * (bytes_before L C column + block_size L C column) ≡ n * bytes_before L C column + n * block_size L C column = omega arith in
      omega (arith, opened.size, le, both)

  pub only_input : (fault : Fault) → IsColumnFault (Some bytes) columnar column fault → is_input_fault fault ≡ true
  only_input fault (inl block) = absurd (no_block fault block)
  only_input fault (inr (inl memory)) = ap (λ b. b || is_read_fault fault) memory
  only_input fault (inr (inr (inl read))) = ap (λ b. is_memory fault || b) read ∙ or_true (is_memory fault)
  only_input fault (inr (inr (inr short))) = absurd (omega (arith, short.1, long_enough))
