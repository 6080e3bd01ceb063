-- A file by columns of which all columns were read is the file of its rows.
use Rattle.std.proofs.Common.{◌≡◌, ◌∙◌, refl, sym, ap, ap₂, subst, ℕ, zero, suc, ◌+◌, ◌*◌, ◌^◌, ◌<◌, ◌≤◌, Bool, true, ◌&&◌, All, List, [], ◌++◌, flat_map, map}
use Rattle.std.proofs.Common.{length, take, drop, Some, append-nil, append_assoc, length-drop, length-take, add-one, arith}
use Rattle.std.specs.List.{list_all, range_with_len}
use Rattle.std.proofs.lemmas.Bool.{eqb-true}
use Rattle.std.proofs.lemmas.List.{drop-drop, drop_all, get_or_default, nil_from_length, take-append-drop}
use Rattle.std.proofs.lemmas.List.Elements.{All-append, All-drop, All-nil, All-take}
use Rattle.std.proofs.lemmas.Nat.{mul-le}
use Rattle.std.proofs.lemmas.List.Folds.{flat_map-map, list_all-append}
use Rattle.bw_model.specs.declared.column.Column.{Column}
use Rattle.bw_model.specs.declared.schema.Schema.{Schema}
use Rattle.bw_model.specs.Column.{admits_values}
use Rattle.bw_model.specs.Groups.{group_size, together}
use Rattle.bw_model.specs.Row.{Value}
use Rattle.bw_segment.specs.declared.column_blocks.ColumnBlocks.{ColumnBlocks}
use Rattle.bw_segment.specs.ColumnBlocks.{block_numbered, segment_numbered}
use Rattle.bw_segment.specs.Meaning.{IsGroup}
use Rattle.bw_segment.specs.Packing.{block_at, block_bytes}
use Rattle.bw_segment.proofs.LayoutLemmas.{before_in_order}
use Rattle.bw_segment.proofs.BytesLemmas.{block_of_text}
use Rattle.bw_segment.proofs.ColumnBlockLemmas.{block_of_segment}
use Rattle.bw_segment.proofs.SoundLemmas.{bytes_again, same_in_range, spelled_group}
use Rattle.bw_file.specs.declared.layout.Layout.{Layout}
use Rattle.bw_file.specs.declared.order.FileOrder.TheVariants.{ByColumns}
use Rattle.bw_file.specs.Blocks.{block_size, bytes_before, form_of, segment_size}
use Rattle.bw_file.specs.Columnar.{IsColumnarFile, column_blocks, columnar_bytes}
use Rattle.bw_file.specs.FileBytes.{header_bytes}
use Rattle.bw_file.specs.Reading.{tail}
use Rattle.bw_file.specs.TableReading.{HeaderShape}
use Rattle.bw_file.proofs.FileSpelling.{head_is}
use Rattle.bw_file.proofs.SegmentLemmas.{is_packing}
use Rattle.bw_file.proofs.SpellingLemmas.{IsBytes, IsHeader, TakesBoth, head_bytes, header_takes}
use Rattle.bw_file.proofs.SpelledBody.{group_under}
use Rattle.bw_memory.proofs.ColumnarLemmas.{pieces_known}
use Rattle.bw_memory.specs.declared.columnar.ColumnarTable.{ColumnarTable}
use Rattle.bw_memory.specs.declared.table.MemoryTable.{MemoryTable}
use Rattle.bw_memory.specs.Columnar.{HasColumns, IsOpened, columnar_header, head_size, table_in}
use Rattle.bw_memory.specs.Columns.{block_in}
use Rattle.bw_memory.specs.MemoryTable.{layout_of, rows_of, schema_of, segments_in}
use Rattle.bw_memory.specs.StoredSegments.{rows_numbered, stored_group, stored_groups}
use Rattle.bw_memory.proofs.StoredSegmentLemmas.{length-rows}

-- a text of equally long pieces
pieces : (size count : ℕ) (text : List ℕ) → length text ≡ count * size → flat_map (λ number. take size (drop (number * size) text)) (range_with_len 0 count) ≡ text
pieces size count text long = from count 0 text long (sym (ap (λ n. drop n text) {x = 0 * size} {y = 0} (omega arith)))
  where
    from : (k first : ℕ) (rest : List ℕ) → length rest ≡ k * size → rest ≡ drop (first * size) text
        → flat_map (λ number. take size (drop (number * size) text)) (range_with_len first k) ≡ rest
    from zero first rest long is = sym (nil_from_length rest (omega (arith, long)))
    from (suc k) first rest long is =
        let next : drop size rest ≡ drop ((first + 1) * size) text =
        ap (drop size) is ∙ drop-drop size (first * size) text ∙ ap (λ n. drop n text) {x = first * size + size} {y = (first + 1) * size} (omega arith) in
        ap₂ ◌++◌ (ap (take size) (sym is)) (from k (first + 1) (drop size rest) (omega (arith, length-drop size rest, long)) next) ∙ take-append-drop size rest

-- a text of parts, each `count` times as long as its column's block
parts : (size before : ℕ → ℕ) (count : ℕ) (text : List ℕ) → ((c : ℕ) → before (suc c) ≡ before c + size c) → (k a : ℕ)
    → flat_map (λ c. take (count * size c) (drop (count * before c) text)) (range_with_len a k) ++ drop (count * before (a + k)) text ≡ drop (count * before a) text
parts size before count text more zero a = ap (λ n. drop (count * before n) text) {x = a + 0} {y = a} (omega arith)
parts size before count text more (suc k) a =
    let part : ℕ → List ℕ = λ c. take (count * size c) (drop (count * before c) text) in
    let rest = drop (count * before a) text in
    let far : count * before (a + 1) ≡ count * before a + count * size a = ap (λ n. count * before n) (add-one a) ∙ ap (λ n. count * n) (more a) ∙ omega arith in
    let following : drop (count * before (a + 1)) text ≡ drop (count * size a) rest = ap (λ n. drop n text) far ∙ sym (drop-drop (count * size a) (count * before a) text) in
    append_assoc (part a) (flat_map part (range_with_len (a + 1) k)) (drop (count * before (a + suc k)) text)
    ∙ ap (λ (l : List ℕ). part a ++ l)
    (ap (λ n. flat_map part (range_with_len (a + 1) k) ++ drop (count * before n) text) {x = a + suc k} {y = a + 1 + k} (omega arith)
    ∙ parts size before count text more k (a + 1) ∙ following)
    ∙ take-append-drop (count * size a) rest

-- rows of groups that are admitted
all_admitted : (p : List Value → Bool) (group : ℕ → List (List Value)) (k a : ℕ) → ((number : ℕ) → number < a + k → list_all p (group number) ≡ true)
    → list_all p (together (map group (range_with_len a k))) ≡ true
all_admitted p group zero a each = refl
all_admitted p group (suc k) a each =
    list_all-append p (group a) (together (map group (range_with_len (a + 1) k)))
    ∙ ap₂ (λ (x y : Bool). x && y) (each a (omega arith)) (all_admitted p group k (a + 1) (λ number lt. each number (omega (arith, lt))))

-- bytes of texts that are bytes
all_of_texts : (f : ℕ → List ℕ) (k a : ℕ) → ((c : ℕ) → a ≤ c → c < a + k → All (λ byte. byte < 2 ^ 8) (f c)) → All (λ byte. byte < 2 ^ 8) (flat_map f (range_with_len a k))
all_of_texts f zero a each = All-nil (λ byte. byte < 2 ^ 8)
all_of_texts f (suc k) a each =
    All-append (λ byte. byte < 2 ^ 8) (f a) (flat_map f (range_with_len (a + 1) k)) (each a (omega arith) (omega arith)) (all_of_texts f k (a + 1) (λ c from to. each c (omega (arith, from)) (omega (arith, to))))

module _ (bytes : List ℕ) (fits : IsBytes bytes) (columnar : ColumnarTable) (opened : IsOpened (Some bytes) columnar)
    (has : HasColumns (Some bytes) columnar (λ _. true) (length (schema_of (table_in columnar)).columns.items)) where
  abbrev table : MemoryTable
  table = table_in columnar

  abbrev layout : Layout
  layout = layout_of table

  abbrev schema : Schema
  schema = schema_of table

  abbrev columns : List Column
  columns = schema.columns.items

  abbrev kept : List ColumnBlocks
  kept = table.columns.items

  abbrev count : ℕ
  count = segments_in table

  abbrev head : ℕ
  head = head_size columnar

  abbrev size : ℕ → ℕ
  size column = block_size layout columns column

  abbrev before : ℕ → ℕ
  before column = bytes_before layout columns column

  abbrev body : List ℕ
  body = drop head bytes

  abbrev stated : HeaderShape
  stated = columnar_header opened.header.0 columnar

  read : TakesBoth (tail 0 bytes) (head_bytes ByColumns stated) (tail head body) × IsHeader ByColumns stated
  read = header_takes ByColumns (tail 0 bytes) (stated, tail head body) fits opened.header.1

  all_small : All (λ byte. byte < 2 ^ 8) bytes
  all_small k d lt = rw (get_or_default bytes k d 0 lt) (fits k)

  count_of_rows : length (rows_of table) ≡ table.rows
  unfolding group_size
  count_of_rows = omega (arith, length-rows layout columns table.rows count kept, table.kept.all)

  header_is : head_bytes ByColumns stated ≡ header_bytes ByColumns 2 layout schema.name columns (length (rows_of table))
  header_is =
      head_is ByColumns opened.header.0 table.rows layout schema
      ∙ ap₂ (λ (version rows : ℕ). header_bytes ByColumns version layout schema.name columns rows) (eqb-true opened.header.0 2 read.1.version) (sym count_of_rows)

  -- the rows of a segment
  abbrev group : ℕ → List (List Value)
  group number = stored_group layout columns table.rows kept number

  abbrev rows_in : ℕ → ℕ
  rows_in number = rows_numbered table.rows number

  few : (number : ℕ) → rows_in number ≤ group_size
  unfolding group_size
  few number = omega arith

  some : (number : ℕ) → number < count → 1 ≤ rows_in number
  unfolding group_size
  some number lt = omega (arith, table.kept.nonempty number lt)

  in_file : (number column : ℕ) → number < count → column < length columns → block_in table number column ≡ take (size column) (drop (head + count * before column + number * size column) bytes)
  in_file number column lt there = has.blocks column there refl number lt

  small : (number : ℕ) → number < count → All (λ byte. byte < 2 ^ 8) (segment_numbered kept number)
  unfolding segment_numbered
  small number lt = all_of_texts (block_numbered kept number) (length kept) 0 (λ column from to.
      let there : column < length columns = omega (arith, to, table.kept.blocks.all) in
      let start = head + count * before column + number * size column in
      subst (All (λ byte. byte < 2 ^ 8)) (sym (in_file number column lt there))
      (All-take (λ byte. byte < 2 ^ 8) (size column) (drop start bytes) (All-drop (λ byte. byte < 2 ^ 8) start bytes all_small)))

  is_group : (number : ℕ) → number < count → IsGroup (group_under columns (group number))
  is_group number lt =
      spelled_group (form_of layout) (is_packing layout) columns (rows_in number) (segment_numbered kept number) (few number) (table.kept.sound number lt) [] (some number lt)

  -- a block of the rows is the block that was read
  block_written : (number column : ℕ) → number < count → column < length columns → block_bytes (form_of layout) columns column (group number) ≡ block_in table number column
  block_written number column lt there =
      sym (block_of_text (form_of layout) (is_packing layout) (group_under columns (group number)) (is_group number lt) column there)
      ∙ ap (block_at (form_of layout) columns column)
      (bytes_again (form_of layout) (is_packing layout) columns (rows_in number) (segment_numbered kept number) (few number) (table.kept.sound number lt) (small number lt))
      ∙ block_of_segment (form_of layout) columns count kept table.kept.blocks number lt column there

  -- the blocks of a column
  abbrev part : ℕ → List ℕ
  part column = take (count * size column) (drop (count * before column) body)

  body_size : length body ≡ count * segment_size layout columns
  body_size = omega (arith, length-drop head bytes, opened.size)

  part_size : (column : ℕ) → column < length columns → length (part column) ≡ count * size column
  part_size column there =
      let order = before_in_order (form_of layout) columns (suc column) (length columns) (omega (arith, there)) in
      let le = mul-le count (before column + size column) count (segment_size layout columns) (omega arith) (omega (arith, order)) in
      let both : count * (before column + size column) ≡ count * before column + count * size column = omega arith in
      omega (arith, length-take (count * size column) (drop (count * before column) body), length-drop (count * before column) body, body_size, le, both)

  part_there : (column : ℕ) → column < length columns → part column ≡ take (length (part column)) (drop (head + count * before column) bytes)
  part_there column there =
      ap₂ (λ (n : ℕ) (l : List ℕ). take n l) (sym (part_size column there)) (drop-drop (count * before column) head bytes)

  column_is : (column : ℕ) → column < length columns → column_blocks layout columns (rows_of table) column ≡ part column
  unfolding column_blocks stored_groups
  column_is column there =
      let block = block_bytes (form_of layout) columns column in
      ap (flat_map block) (sym table.cut) ∙ flat_map-map block group (range_with_len 0 count)
      ∙ same_in_range (λ number. block (group number)) (λ number. take (size column) (drop (number * size column) (part column))) 0 count
      (λ number from to.
      block_written number column (omega (arith, to)) there ∙ in_file number column (omega (arith, to)) there
      ∙ sym (pieces_known (Some bytes) (head + count * before column) count (size column) number (part column) (part_size column there) (omega (arith, to)) (part_there column there)))
      ∙ pieces (size column) count (part column) (part_size column there)

  columns_are : flat_map (column_blocks layout columns (rows_of table)) (range_with_len 0 (length columns)) ≡ body
  columns_are =
      let all = flat_map part (range_with_len 0 (length columns)) in
      let past : drop (count * before (length columns)) body ≡ [] = drop_all (count * before (length columns)) body (omega (arith, body_size)) in
      same_in_range (column_blocks layout columns (rows_of table)) part 0 (length columns) (λ column from to. column_is column (omega (arith, to)))
      ∙ sym (append-nil all) ∙ ap (λ (l : List ℕ). all ++ l) (sym past)
      ∙ ap (λ n. all ++ drop (count * before n) body) {x = length columns} {y = 0 + length columns} (omega arith)
      ∙ parts size before count body (λ c. refl) (length columns) 0 ∙ ap (λ n. drop n body) {x = count * before 0} {y = 0} (omega arith)

  admitted : list_all (admits_values columns) (rows_of table) ≡ true
  unfolding stored_groups
  admitted = all_admitted (admits_values columns) group count 0 (λ number lt. (is_group number (omega (arith, lt))).admitted)

  pub file_is : IsColumnarFile bytes layout schema (rows_of table)
  unfolding columnar_bytes
  file_is = record {
    under = read.1.schema;
    admitted = record { within_limit = omega (arith, count_of_rows, table.within_limit); admitted = admitted };
    text = read.0.parts ∙ ap₂ ◌++◌ header_is (sym columns_are);
  }
