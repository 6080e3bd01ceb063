-- The rows of a file by columns, of which some columns were read.
use Rattle.std.proofs.Common.{◌≡◌, ◌∙◌, refl, sym, ap, ap₂, subst, ℕ, zero, suc, ◌+◌, ◌-◌, ◌*◌, ◌/◌}
use Rattle.std.proofs.Common.{◌<◌, ◌≤◌, Bool, true, false, cond, All, List, [], ◌∷◌, ◌++◌, flat_map, map, get_or, length, min}
use Rattle.std.proofs.Common.{take, drop, None, Some, Ok, append_assoc, length-append, length-drop, length-take, add-one, inl, inr, arith}
use Rattle.std.specs.List.{list_all, range_with_len}
use Rattle.std.proofs.Math.Seq.{drop-append_seam, take-append_seam, drop-append-add, drop-drop}
use Rattle.std.proofs.lemmas.Bool.{cases_Bool}
use Rattle.std.proofs.lemmas.List.{length-map, get_or-map}
use Rattle.std.proofs.lemmas.List.Elements.{All-get_or, All-head, All-tail}
use Rattle.std.proofs.lemmas.List.FromFn.{fill_by_all, get_or-map-range_with_len, length-map-range_with_len}
use Rattle.bw_model.specs.declared.column.Column.{Column}
use Rattle.bw_model.specs.declared.schema.Schema.{Schema}
use Rattle.bw_model.specs.Code.{value_at}
use Rattle.bw_model.specs.Column.{admits_values}
use Rattle.bw_model.specs.Groups.{group_size, groups_of, together}
use Rattle.bw_model.specs.Row.{Value, value_in}
use Rattle.bw_model.specs.StoredCodes.{stored_at}
use Rattle.bw_model.specs.Truth.{is_null}
use Rattle.bw_model.specs.Variable.{is_nullable}
use Rattle.bw_model.specs.Name.{are_apart}
use Rattle.bw_model.specs.SchemaText.{column_shape, schema_shape, SchemaShape}
use Rattle.bw_model.proofs.BitsLemmas.{both}
use Rattle.bw_model.proofs.GroupLemmas.{groups_of-count, groups_of-first, groups_of-table}
use Rattle.bw_model.proofs.SameColumns.{columns_same}
use Rattle.bw_model.proofs.SchemaLemmas.{shape_names-of}
use Rattle.bw_segment.specs.declared.column_blocks.ColumnBlocks.{ColumnBlocks}
use Rattle.bw_segment.specs.ColumnBlocks.{block_numbered, segment_numbered}
use Rattle.bw_segment.specs.Packing.{block_bytes, segment_bytes as packed_segment}
use Rattle.bw_segment.proofs.BlankLemmas.{block_blank, block_same}
use Rattle.bw_segment.proofs.BytesLemmas.{length-block, rows_of_bytes}
use Rattle.bw_segment.proofs.SoundLemmas.{same_in_range}
use Rattle.bw_segment.proofs.ValueLemmas.{admits_at, admitted_by_column, held_admitted, held_is_admitted, null_admitted, stored_within}
use Rattle.bw_file.specs.declared.layout.Layout.{Layout}
use Rattle.bw_file.specs.declared.order.FileOrder.TheVariants.{ByColumns}
use Rattle.bw_file.specs.Blocks.{block_size, bytes_before, form_of, rows_spelled, segment_bytes, segment_size}
use Rattle.bw_file.specs.Columnar.{IsColumnarFile, column_blocks, columnar_bytes}
use Rattle.bw_file.specs.Reading.{Tail, tail}
use Rattle.bw_file.specs.TableReading.{HeaderShape, header_in}
use Rattle.bw_file.proofs.ColumnarLemmas.{IsGroupOf, groups_admitted}
use Rattle.bw_file.proofs.FileSpelling.{head_is, shapes_fit}
use Rattle.bw_file.proofs.SegmentLemmas.{is_packing}
use Rattle.bw_file.proofs.SpelledBody.{group_under}
use Rattle.bw_file.proofs.SpelledFile.{room_in_2}
use Rattle.bw_file.proofs.SpelledHeader.{IsWhole, header_reads}
use Rattle.bw_file.proofs.SpellingLemmas.{IsHeader, head_bytes, ok_is}
use Rattle.bw_memory.specs.declared.columnar.ColumnarTable.{ColumnarTable}
use Rattle.bw_memory.specs.declared.table.MemoryTable.{MemoryTable}
use Rattle.bw_memory.specs.Columnar.{HasColumns, IsOpened, StatesHeader, columnar_header, head_size}
use Rattle.bw_memory.specs.Columnar.{table_in}
use Rattle.bw_memory.specs.MemoryTable.{layout_of, rows_of, schema_of, segments_in}
use Rattle.bw_memory.specs.NamedRows.{read_row}
use Rattle.bw_memory.specs.StoredSegments.{rows_numbered, stored_group, stored_groups}

-- a piece of pieces that are equally long
pub piece_at : {A : Type 0} (f : A → List ℕ) (P : A → Type 0) (size : ℕ) (d : A) → ((x : A) → P x → length (f x) ≡ size) → (xs : List A) → All P xs → (i : ℕ) → i < length xs → (rest : List ℕ)
    → take size (drop (i * size) (flat_map f xs ++ rest)) ≡ f (get_or xs i d)
piece_at f P size d long [] all i lt rest = absurd (omega (arith, lt))
piece_at f P size d long (x ∷ xs) all zero lt rest =
    let more = flat_map f xs ++ rest in
    ap (λ n. take size (drop n (flat_map f (x ∷ xs) ++ rest))) {x = 0 * size} {y = 0} (omega arith) ∙ ap (take size) (append_assoc (f x) (flat_map f xs) rest) ∙ ap (λ n. take n (f x ++ more)) (sym (long x (All-head P x xs all))) ∙ take-append_seam (f x) more
piece_at f P size d long (x ∷ xs) all (suc i) lt rest =
    let more = flat_map f xs ++ rest in
    let far : suc i * size ≡ length (f x) + i * size = omega (arith, long x (All-head P x xs all)) in
    ap (λ (l : List ℕ). take size (drop (suc i * size) l)) (append_assoc (f x) (flat_map f xs) rest) ∙ ap (λ n. take size (drop n (f x ++ more))) far
    ∙ ap (take size) (drop-append-add (f x) more (i * size)) ∙ piece_at f P size d long xs (All-tail P x xs all) i (omega (arith, lt)) rest

-- what follows the first of texts, each of which is `count` times as long as its column's block
column_at : (f : ℕ → List ℕ) (size before : ℕ → ℕ) (count n : ℕ) → (before 0 ≡ 0) → ((c : ℕ) → before (suc c) ≡ before c + size c)
    → ((c : ℕ) → c < n → length (f c) ≡ count * size c) → (c : ℕ) → c ≤ n
    → drop (count * before c) (flat_map f (range_with_len 0 n)) ≡ flat_map f (range_with_len c (n - c))
column_at f size before count n none more long zero le = ap (λ k. drop k (flat_map f (range_with_len 0 n))) {x = count * before 0} {y = 0} (omega (arith, ap (λ k. count * k) none))
    ∙ ap (λ k. flat_map f (range_with_len 0 k)) {x = n} {y = n - 0} (omega arith)
column_at f size before count n none more long (suc c) le =
    let all = flat_map f (range_with_len 0 n) in
    let rest = flat_map f (range_with_len (c + 1) (n - suc c)) in
    let earlier = column_at f size before count n none more long c (omega (arith, le)) in
    let far : count * before (suc c) ≡ count * before c + count * size c = ap (λ k. count * k) (more c) ∙ omega arith in
    let here : flat_map f (range_with_len c (n - c)) ≡ f c ++ rest = ap (λ k. flat_map f (range_with_len c k)) {x = n - c} {y = suc (n - suc c)} (omega (arith, le)) in
    ap (λ k. drop k all) far ∙ sym (drop-drop (count * size c) (count * before c) all) ∙ ap (drop (count * size c)) (earlier ∙ here)
    ∙ ap (λ k. drop k (f c ++ rest)) (sym (long c (omega (arith, le)))) ∙ drop-append_seam (f c) rest
    ∙ ap (λ k. flat_map f (range_with_len k (n - suc c))) (add-one c)

-- texts of groups that are equally long
pub length-pieces : {A : Type 0} (f : A → List ℕ) (P : A → Type 0) (size : ℕ) → ((x : A) → P x → length (f x) ≡ size) → (xs : List A) → All P xs → length (flat_map f xs) ≡ length xs * size
length-pieces f P size long [] all = omega arith
length-pieces f P size long (x ∷ xs) all =
    omega (arith, length-append (f x) (flat_map f xs), long x (All-head P x xs all), length-pieces f P size long xs (All-tail P x xs all))

-- the group of a number
some_rows : (i : ℕ) (rows : List (List Value)) → i < length (groups_of rows) → 0 < length rows
some_rows i rows lt = omega (arith, lt, groups_of-count rows)

pub group_at : (i : ℕ) (rows : List (List Value)) → i < length (groups_of rows) → get_or (groups_of rows) i [] ≡ take 512 (drop (512 * i) rows)
unfolding group_size
group_at zero rows lt = ap (λ (l : List (List (List Value))). get_or l 0 []) (groups_of-first rows (some_rows zero rows lt))
group_at (suc i) rows lt =
    let first = groups_of-first rows (some_rows (suc i) rows lt) in
    let fewer : i < length (groups_of (drop 512 rows)) = omega (arith, lt, ap length first) in
    ap (λ (l : List (List (List Value))). get_or l (suc i) []) first ∙ group_at i (drop 512 rows) fewer
    ∙ ap (take 512) (drop-drop (512 * i) 512 rows ∙ ap (λ k. drop k rows) {x = 512 + 512 * i} {y = 512 * suc i} (omega arith))

-- groups that are changed row by row
map-append : (g : List Value → List Value) (xs ys : List (List Value)) → map g (xs ++ ys) ≡ map g xs ++ map g ys
map-append g [] ys = refl
map-append g (x ∷ xs) ys = ap (λ (l : List (List Value)). g x ∷ l) (map-append g xs ys)

together_map : (g : List Value → List Value) (groups : List (List (List Value))) → together (map (map g) groups) ≡ map g (together groups)
together_map g [] = refl
together_map g (group ∷ groups) = ap (λ (l : List (List Value)). map g group ++ l) (together_map g groups) ∙ sym (map-append g group (together groups))

-- rows of which some columns are replaced by the minimum
module _ (columns : List Column) (read : ℕ → Bool) where
  abbrev change : List Value → List Value
  change = read_row columns read

  abbrev value_read : List Value → ℕ → Value
  value_read row column = cond (read column) (value_in row column) (Some (value_at columns column 0))

  at_column : (row : List Value) (col : ℕ) → col < length columns → value_in (change row) col ≡ value_read row col
  at_column row col there = get_or-map-range_with_len (value_read row) 0 (length columns) col col None there (omega arith)

  kept_column : (row : List Value) (col : ℕ) → col < length columns → read col ≡ true → value_in (change row) col ≡ value_in row col
  kept_column row col there is = at_column row col there ∙ ap (λ b. cond b (value_in row col) (Some (value_at columns col 0))) is

  blank_column : (row : List Value) (col : ℕ) → col < length columns → read col ≡ false → value_in (change row) col ≡ Some (value_at columns col 0)
  blank_column row col there is = at_column row col there ∙ ap (λ b. cond b (value_in row col) (Some (value_at columns col 0))) is

  -- a value that a row has is admitted
  admits_own : (row : List Value) (col : ℕ) → admits_values columns row ≡ true → col < length columns → admits_at columns col (value_in row col) ≡ true
  admits_own row col is there =
      let value = value_in row col in
      ap (admits_at columns col) (sym (held_admitted columns row col is there))
      ∙ held_is_admitted columns col (is_null value) (stored_at columns col value) there nullable (stored_within columns col value there)
    where
      nullable : is_null (value_in row col) ≡ true → is_nullable columns col ≡ true
      nullable null = elim (cases_Bool (is_nullable columns col)) [
        | inl can ↦ can
        | inr never ↦ absurd (let e : true ≡ false = sym null ∙ null_admitted columns row col is there never in cc e)
      ]

  change_admitted : (row : List Value) → admits_values columns row ≡ true → admits_values columns (change row) ≡ true
  change_admitted row is =
      admitted_by_column columns (change row) (length-map-range_with_len (value_read row) 0 (length columns)) (λ col there. elim (cases_Bool (read col)) [
        | inl kept ↦ ap (admits_at columns col) (kept_column row col there kept) ∙ admits_own row col is there
        | inr not ↦ ap (admits_at columns col) (blank_column row col there not) ∙ held_is_admitted columns col false 0 there (λ e. absurd cc) (omega arith)
      ])

  all_changed : (rows : List (List Value)) → list_all (admits_values columns) rows ≡ true → list_all (admits_values columns) (map change rows) ≡ true
  all_changed [] all = refl
  all_changed (row ∷ rows) all =
      let p = both (admits_values columns row) (list_all (admits_values columns) rows) all in
      rw (change_admitted row p.0, all_changed rows p.1) refl

  module _ (layout : Layout) where
    changed_group : (group : List (List Value)) → IsGroupOf columns group → IsGroupOf columns (map change group)
    changed_group group is =
        let long = length-map group change in
        record { nonempty = omega (arith, long, is.nonempty); within_limit = omega (arith, long, is.within_limit); admitted = all_changed group is.admitted }

    -- the blocks of a group, of which some columns were read
    abbrev AreBlocks : List ColumnBlocks → ℕ → List (List Value) → Type 0
    AreBlocks kept number group = (column : ℕ) → column < length columns
        → (read column ≡ true → block_numbered kept number column ≡ block_bytes (form_of layout) columns column group)
        × (read column ≡ false → block_numbered kept number column ≡ block_bytes (form_of layout) columns column [])

    segment_is : (kept : List ColumnBlocks) (number : ℕ) (group : List (List Value)) → IsGroupOf columns group → length kept ≡ length columns → AreBlocks kept number group
        → segment_numbered kept number ≡ segment_bytes layout columns (map change group)
    unfolding segment_numbered packed_segment group_size
    segment_is kept number group is all blocks =
        ap (λ n. flat_map (block_numbered kept number) (range_with_len 0 n)) all
        ∙ same_in_range (block_numbered kept number) (λ column. block_bytes (form_of layout) columns column (map change group)) 0 (length columns) (λ column from to. one column (omega (arith, to)))
      where
        one : (column : ℕ) → column < length columns → block_numbered kept number column ≡ block_bytes (form_of layout) columns column (map change group)
        one column there = elim (cases_Bool (read column)) [
          | inl kept_here ↦ (blocks column there).0 kept_here ∙ sym (block_same (form_of layout) columns column change group (λ row. kept_column row column there kept_here))
          | inr not ↦ (blocks column there).1 not ∙ sym (block_blank (form_of layout) columns column change group there is.within_limit (λ row. blank_column row column there not))
        ]

    group_is : (rows : List (List Value)) (kept : List ColumnBlocks) (number : ℕ) → list_all (admits_values columns) rows ≡ true → number < length (groups_of rows) → length kept ≡ length columns
        → AreBlocks kept number (get_or (groups_of rows) number []) → map change (get_or (groups_of rows) number []) ≡ stored_group layout columns (length rows) kept number
    unfolding group_size
    group_is rows kept number admitted lt all blocks =
        let group = get_or (groups_of rows) number [] in
        let is = All-get_or (IsGroupOf columns) (groups_of rows) number [] lt (groups_admitted columns rows admitted) in
        let back = rows_of_bytes (form_of layout) (is_packing layout) (group_under columns (map change group)) (changed_group group is) in
        let size : length (map change group) ≡ rows_numbered (length rows) number =
        length-map group change ∙ ap length (group_at number rows lt) ∙ length-take 512 (drop (512 * number) rows) ∙ ap (min 512) (length-drop (512 * number) rows) in
        sym back ∙ ap₂ (rows_spelled layout columns) size (sym (segment_is kept number group is all blocks))

    groups_are : (rows : List (List Value)) (kept : List ColumnBlocks) (count : ℕ) → list_all (admits_values columns) rows ≡ true → count ≡ length (groups_of rows) → length kept ≡ length columns
        → ((number : ℕ) → number < count → AreBlocks kept number (get_or (groups_of rows) number [])) → stored_groups layout columns (length rows) count kept ≡ map (map change) (groups_of rows)
    unfolding stored_groups
    groups_are rows kept count admitted is all blocks =
        sym (fill_by_all (stored_group layout columns (length rows) kept) (map (map change) (groups_of rows)) count [] (length-map (groups_of rows) (map change) ∙ sym is)
        (λ number lt. get_or-map (map change) (groups_of rows) number [] [] (omega (arith, lt, is)) ∙ group_is rows kept number admitted (omega (arith, lt, is)) all (blocks number lt)))

-- a block of a file by columns
module _ (layout : Layout) (schema : Schema) (rows : List (List Value)) (admitted : list_all (admits_values schema.columns.items) rows ≡ true) where
  abbrev columns : List Column
  columns = schema.columns.items

  abbrev texts : ℕ → List ℕ
  texts column = column_blocks layout columns rows column

  abbrev count : ℕ
  count = length (groups_of rows)

  long_block : (column : ℕ) (group : List (List Value)) → IsGroupOf columns group → length (block_bytes (form_of layout) columns column group) ≡ block_size layout columns column
  long_block column group is = length-block (form_of layout) (is_packing layout) (group_under columns group) is column

  long_text : (column : ℕ) → length (texts column) ≡ count * block_size layout columns column
  unfolding column_blocks
  long_text column =
      length-pieces (block_bytes (form_of layout) columns column) (IsGroupOf columns) (block_size layout columns column) (long_block column) (groups_of rows) (groups_admitted columns rows admitted)

  length_from : (k a : ℕ) → count * bytes_before layout columns a + length (flat_map texts (range_with_len a k)) ≡ count * bytes_before layout columns (a + k)
  length_from zero a = omega (arith, ap (λ n. count * bytes_before layout columns n) {x = a} {y = a + 0} (omega arith))
  length_from (suc k) a =
      let before : ℕ → ℕ = λ n. count * bytes_before layout columns n in
      let next : before (a + 1) ≡ before a + count * block_size layout columns a = ap before (add-one a) ∙ omega arith in
      omega (arith, length-append (texts a) (flat_map texts (range_with_len (a + 1) k)), long_text a, next, length_from k (a + 1), ap before {x = a + 1 + k} {y = a + suc k} (omega arith))

  pub length_body : length (flat_map texts (range_with_len 0 (length columns))) ≡ count * segment_size layout columns
  length_body = omega (arith, length_from (length columns) 0, ap (λ n. count * bytes_before layout columns n) {x = 0 + length columns} {y = length columns} (omega arith))

  pub block_is : (bytes head : List ℕ) (column number : ℕ) → bytes ≡ head ++ flat_map texts (range_with_len 0 (length columns)) → column < length columns → number < count
      → take (block_size layout columns column) (drop (length head + count * bytes_before layout columns column + number * block_size layout columns column) bytes)
      ≡ block_bytes (form_of layout) columns column (get_or (groups_of rows) number [])
  unfolding column_blocks
  block_is bytes head column number parts there lt =
      let size = block_size layout columns column in
      let body = flat_map texts (range_with_len 0 (length columns)) in
      let skipped = count * bytes_before layout columns column in
      let rest = flat_map texts (range_with_len (column + 1) (length columns - suc column)) in
      let far : length head + skipped + number * size ≡ length head + (skipped + number * size) = omega arith in
      let at = column_at texts (block_size layout columns) (bytes_before layout columns) count (length columns) refl (λ c. refl) (λ c c_lt. long_text c) column (omega (arith, there)) in
      let first : flat_map texts (range_with_len column (length columns - column)) ≡ texts column ++ rest =
      ap (λ k. flat_map texts (range_with_len column k)) {x = length columns - column} {y = suc (length columns - suc column)} (omega (arith, there)) in
      ap (λ (l : List ℕ). take size (drop (length head + skipped + number * size) l)) parts ∙ ap (λ k. take size (drop k (head ++ body))) far
      ∙ ap (take size) (drop-append-add head body (skipped + number * size) ∙ sym (drop-drop (number * size) skipped body) ∙ ap (drop (number * size)) (at ∙ first))
      ∙ piece_at (block_bytes (form_of layout) columns column) (IsGroupOf columns) size [] (long_block column) (groups_of rows) (groups_admitted columns rows admitted) number lt rest

-- how many segments a table has
count_is : (rows segments : ℕ) → rows ≤ 512 * segments → ((number : ℕ) → number < segments → 512 * number < rows) → segments ≡ (rows + 511) / 512
count_is rows zero all each = omega (arith, all)
count_is rows (suc segments) all each = omega (arith, all, each segments (omega arith))

-- the header of a file by columns is read as its own
module _ (bytes : List ℕ) (layout : Layout) (schema : Schema) (rows : List (List Value)) (file : IsColumnarFile bytes layout schema rows) where
  abbrev pub stated : HeaderShape
  stated = record { version = 2; layout = layout; rows = length rows; schema = schema_shape schema }

  abbrev pub body : List ℕ
  body = flat_map (column_blocks layout schema.columns.items rows) (range_with_len 0 (length schema.columns.items))

  pub whole : IsWhole ByColumns stated
  whole =
      let columns = schema.columns.items in
      let count : length (map column_shape columns) ≡ length columns = length-map columns column_shape in
      let known : IsHeader ByColumns stated = record { version = refl; within_limit = file.admitted.within_limit; bounds = shapes_fit 2 columns ∙ room_in_2 columns; schema = file.under } in
      record {
        header = known;
        nonempty = omega (arith, count, schema.inhabited);
        limited = omega (arith, count, schema.limited);
        apart = ap are_apart (shape_names-of columns) ∙ schema.apart;
      }

  pub parts : bytes ≡ head_bytes ByColumns stated ++ body
  unfolding columnar_bytes
  parts = file.text ∙ ap (λ (l : List ℕ). l ++ body) (sym (head_is ByColumns 2 (length rows) layout schema))

  pub header_reads_on : (rest : List ℕ) → header_in ByColumns (tail 0 (head_bytes ByColumns stated ++ rest)) ≡ Ok (stated, tail (length (head_bytes ByColumns stated)) rest)
  header_reads_on rest =
      let end = length (head_bytes ByColumns stated) in
      (header_reads ByColumns stated whole).reads 0 rest ∙ ap (λ n. Ok (stated, tail n rest)) {x = 0 + end} {y = end} (omega arith)

  -- a table whose header is this one, whatever follows it
  module _ (columnar : ColumnarTable) (rest : List ℕ) (states : StatesHeader columnar (head_bytes ByColumns stated ++ rest)) where
    same : ◌≡◌ {A = HeaderShape × Tail} (stated, tail (length (head_bytes ByColumns stated)) rest)
        (columnar_header states.0 columnar, tail (head_size columnar) (drop (head_size columnar) (head_bytes ByColumns stated ++ rest)))
    same = ok_is _ _ (sym (header_reads_on rest) ∙ states.1)

    pub layout_same : layout_of (table_in columnar) ≡ layout
    layout_same = sym (ap (λ (x : HeaderShape × Tail). x.0.layout) same)

    pub schema_same : schema_shape (schema_of (table_in columnar)) ≡ schema_shape schema
    schema_same = sym (ap (λ (x : HeaderShape × Tail). x.0.schema) same)

    pub columns_are : (schema_of (table_in columnar)).columns.items ≡ schema.columns.items
    columns_are = columns_same _ _ (ap (λ (s : SchemaShape). s.columns) schema_same)

    pub rows_same : (table_in columnar).rows ≡ length rows
    rows_same = sym (ap (λ (x : HeaderShape × Tail). x.0.rows) same)

    pub head_same : head_size columnar ≡ length (head_bytes ByColumns stated)
    head_same = sym (ap (λ (x : HeaderShape × Tail). x.1.at) same)

    pub count_same : segments_in (table_in columnar) ≡ length (groups_of rows)
    unfolding group_size
    count_same = count_is (table_in columnar).rows (segments_in (table_in columnar)) (table_in columnar).kept.all (table_in columnar).kept.nonempty ∙ ap (λ n. (n + 511) / 512) rows_same ∙ sym (groups_of-count rows)

  module _ (columnar : ColumnarTable) (read : ℕ → Bool) (opened : IsOpened (Some bytes) columnar) (has : HasColumns (Some bytes) columnar read (length (schema_of (table_in columnar)).columns.items)) where
    abbrev table : MemoryTable
    table = table_in columnar

    abbrev kept : List ColumnBlocks
    kept = table.columns.items

    states : StatesHeader columnar (head_bytes ByColumns stated ++ body)
    states = subst (StatesHeader columnar) parts opened.header

    pub shape_same : schema_shape (schema_of table) ≡ schema_shape schema
    shape_same = schema_same columnar body states

    layout_is : layout_of table ≡ layout
    layout_is = layout_same columnar body states

    columns_is : (schema_of table).columns.items ≡ schema.columns.items
    columns_is = columns_are columnar body states

    rows_is : table.rows ≡ length rows
    rows_is = rows_same columnar body states

    head_is_there : head_size columnar ≡ length (head_bytes ByColumns stated)
    head_is_there = head_same columnar body states

    count_is_there : segments_in table ≡ length (groups_of rows)
    count_is_there = count_same columnar body states

    moved : (column number : ℕ) (L : Layout) (C : List Column) (h n : ℕ) → L ≡ layout → C ≡ schema.columns.items → h ≡ length (head_bytes ByColumns stated) → n ≡ length (groups_of rows)
        → take (block_size L C column) (drop (h + n * bytes_before L C column + number * block_size L C column) bytes)
        ≡ take (block_size layout schema.columns.items column) (drop (length (head_bytes ByColumns stated) + length (groups_of rows) * bytes_before layout schema.columns.items column + number * block_size layout schema.columns.items column) bytes)
    moved column number L C h n a b c d = rw (a, b, c, d) refl

    blocks : (number : ℕ) → number < segments_in table → AreBlocks schema.columns.items read layout kept number (get_or (groups_of rows) number [])
    blocks number lt column there =
        let within : column < length (schema_of table).columns.items = omega (arith, there, ap length columns_is) in (
          λ is. has.blocks column within is number lt ∙ moved column number (layout_of table) (schema_of table).columns.items (head_size columnar) (segments_in table) layout_is columns_is head_is_there count_is_there
              ∙ block_is layout schema rows file.admitted.admitted bytes (head_bytes ByColumns stated) column number parts there (omega (arith, lt, count_is_there)),
          λ not. has.blank column within (inr not) number lt ∙ ap₂ (λ (L : Layout) (C : List Column). block_bytes (form_of L) C column []) layout_is columns_is,
        )

    stored_as : (L : Layout) (C : List Column) (n : ℕ) → L ≡ layout → C ≡ schema.columns.items → n ≡ length rows
        → stored_groups L C n (segments_in table) kept ≡ stored_groups layout schema.columns.items (length rows) (segments_in table) kept
    stored_as L C n a b c = rw (a, b, c) refl

    pub rows_are : rows_of table ≡ map (read_row schema.columns.items read) rows
    rows_are =
        ap (λ (l : List (List (List Value))). together l)
        (stored_as (layout_of table) (schema_of table).columns.items table.rows layout_is columns_is rows_is
        ∙ groups_are schema.columns.items read layout rows kept (segments_in table) file.admitted.admitted count_is_there (table.kept.blocks.all ∙ ap length columns_is) blocks)
        ∙ together_map (read_row schema.columns.items read) (groups_of rows) ∙ ap (map (read_row schema.columns.items read)) (groups_of-table rows)
