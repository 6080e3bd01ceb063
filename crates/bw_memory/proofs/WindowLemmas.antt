-- The segments of a file by columns that were read one after another, as one table.
use Rattle.std.proofs.Common.{◌≡◌, ◌≢◌, ◌∙◌, refl, sym, ap, ap₂, subst, ℕ, zero, suc, ◌+◌, ◌-◌, ◌*◌, ◌<◌, ◌≤◌, ◌^◌, Bool, true, false, cond, ltb}
use Rattle.std.proofs.Common.{Vec, Global, List, [], ◌∷◌, ◌++◌, flat_map, get_or, map, set, length, take, drop, min, None, Option, inl, inr, add-one, append-nil, length-set, arith}
use Rattle.std.specs.Prelude.{IfSome}
use Rattle.std.specs.List.{range_with_len}
use Rattle.std.proofs.lemmas.Bool.{cases_Bool, cases_eq, cases_lt, le-ltb, lt-ltb}
use Rattle.std.proofs.lemmas.List.FromFn.{get_or-range_with_len, length-range_with_len, map-range_with_len_more, sum_by-map-range_with_len_more}
use Rattle.bw_model.specs.declared.column.Column.{Column}
use Rattle.bw_model.specs.Groups.{group_size}
use Rattle.bw_model.specs.Row.{Value}
use Rattle.bw_segment.specs.declared.column_blocks.ColumnBlocks.{ColumnBlocks}
use Rattle.bw_segment.specs.declared.placement.Placement.{Placement}
use Rattle.bw_segment.specs.Packing.{block_bytes}
use Rattle.bw_segment.specs.ColumnBlocks.{block_numbered, segment_numbered}
use Rattle.bw_segment.proofs.ColumnBlockLemmas.{block_of_other, block_of_segment}
use Rattle.bw_segment.proofs.FrontLemmas.{if_some}
use Rattle.bw_segment.proofs.SoundLemmas.{length-cut, same_in_range}
use Rattle.bw_file.specs.declared.layout.Layout.{Layout}
use Rattle.bw_file.specs.Blocks.{block_fault, block_size, form_of, rows_spelled}
use Rattle.bw_file.proofs.BodyLemmas.{before_within}
use Rattle.bw_file.proofs.SegmentLemmas.{is_packing, segment_small}
use Rattle.bw_memory.specs.declared.columnar.ColumnarTable.{ColumnarTable}
use Rattle.bw_memory.specs.declared.segment_window.SegmentWindow.{SegmentWindow}
use Rattle.bw_memory.specs.declared.table.MemoryTable.{MemoryTable}
use Rattle.bw_memory.specs.Columnar.{AreFileBlocks, HasBlock, HasColumns, SameHeader, column_count, place_in, table_in}
use Rattle.bw_memory.specs.Columns.{IsBlank, block_in}
use Rattle.bw_memory.specs.Filling.{AreBytesAt}
use Rattle.bw_memory.specs.MemoryTable.{groups_in, layout_of, placement_of, schema_of, segments_in}
use Rattle.bw_memory.specs.StoredSegments.{StoresSegments, piece_of, rows_numbered, stored_group, stored_groups}
use Rattle.bw_memory.specs.Windows.{HasGroups, HasPartsBefore, IsPart, IsSegmentRead, first_in, group_spelled, sum_read, window_in}
use Rattle.bw_memory.proofs.ColumnarLemmas.{few_segments, groups_cut, pieces_known, replaced_column, replaced_stored, small_product, valid_from}
use Rattle.bw_memory.proofs.ReadColumnLemmas.{replaced}
use Rattle.bw_memory.proofs.ReadColumnsLemmas.{added, none_read, not_needed}
use Rattle.bw_memory.proofs.WholeColumnar.{length-pieces, piece_at}

-- what a function gives before a number, and this from there on
abbrev pick : {A : Type 0} (n : ℕ) (f : ℕ → A) (x : A) → ℕ → A
pick n f x number = cond (ltb number n) (f number) x

pick_before : {A : Type 0} (n : ℕ) (f : ℕ → A) (x : A) (number : ℕ) → number < n → pick n f x number ≡ f number
pick_before n f x number lt = ap (λ b. cond b (f number) x) (lt-ltb number n lt)

pick_last : {A : Type 0} (n : ℕ) (f : ℕ → A) (x : A) → pick n f x n ≡ x
pick_last n f x = ap (λ b. cond b (f n) x) (le-ltb n n (omega arith))

map_alike : {A : Type 0} (f g : ℕ → A) (first most : ℕ) → ((k : ℕ) → first ≤ k → k < first + most → f k ≡ g k) → map f (range_with_len first most) ≡ map g (range_with_len first most)
map_alike f g first zero same = refl
map_alike f g first (suc most) same = ap₂ ◌∷◌ (same first (omega arith) (omega arith)) (map_alike f g (first + 1) most (λ k from to. same k (omega arith) (omega arith)))

-- an element of a list
element : {A : Type 0} (l : List A) (i : ℕ) → i < length l → A
element [] i lt = absurd (omega (arith, lt))
element (x ∷ l) zero lt = x
element (x ∷ l) (suc i) lt = element l i (omega (arith, lt))

-- a table of the rows from a segment on, no more than those of so many segments, is a part of the file
pub is_part : (columnar : ColumnarTable) (first most : ℕ) (table : MemoryTable) → layout_of table ≡ layout_of (table_in columnar) → placement_of table ≡ placement_of (table_in columnar)
    → first + most ≤ segments_in (table_in columnar) → table.rows ≡ min ((table_in columnar).rows - group_size * first) (group_size * most) → IsPart columnar first table
unfolding group_size
is_part columnar first most table layout placement within rows = record {
  layout = layout;
  placement = placement;
  within = elim (cases_lt 0 table.segments) [
    | inl some ↦ omega (arith, table.kept.nonempty (table.segments - 1) (omega arith), rows, within)
    | inr none ↦ omega arith
  ];
  rows = λ number lt. omega (arith, table.kept.nonempty number lt, rows);
}

-- and has a segment, if there is a row
pub has_segment : (table : MemoryTable) → 1 ≤ table.rows → 1 ≤ segments_in table
unfolding group_size
has_segment table some = omega (arith, table.kept.all)

-- and no more segments than its rows need
pub at_most : (table : MemoryTable) (most : ℕ) → table.rows ≤ 512 * most → segments_in table ≤ most
unfolding group_size
at_most table most few = elim (cases_lt most table.segments) [
  | inl more ↦ omega (arith, table.kept.nonempty most more, few)
  | inr within ↦ within
]

-- the blocks of a window's column are those of the file
pub window_block : (known : Option (List ℕ)) (columnar : ColumnarTable) (first : ℕ) (table : MemoryTable) → IsPart columnar first table → (col at number : ℕ) (read block : List ℕ)
    → at ≡ place_in columnar col 0 + first * block_size (layout_of table) (schema_of table).columns.items col → length read ≡ segments_in table * block_size (layout_of table) (schema_of table).columns.items col
    → number < segments_in table → IfSome known (AreBytesAt at read) → block ≡ piece_of read (block_size (layout_of table) (schema_of table).columns.items col) number
    → IfSome known (HasBlock columnar col (first + number) block)
window_block known columnar first table part col at number read block place long there filled is =
    let L = layout_of (table_in columnar) in
    let C = (schema_of (table_in columnar)).columns.items in
    let size = block_size (layout_of table) (schema_of table).columns.items col in
    let same : size ≡ block_size L C col = ap₂ (λ (l : Layout) (c : List Column). block_size l c col) part.layout (ap (λ (p : Placement). p.schema.columns.items) part.placement) in
    let both : (first + number) * block_size L C col ≡ first * block_size L C col + number * block_size L C col = omega arith in
    let places : at + number * size ≡ place_in columnar col (first + number) = omega (arith, place, ap (λ n. first * n) same, ap (λ n. number * n) same, both) in
    if_some known _ _ (λ bytes cut. is ∙ cut ∙ ap₂ (λ n m. take n (drop m bytes)) same places) (pieces_known known at (segments_in table) size number read long there filled)

-- one column more of a window
module _ (known : Option (List ℕ)) (columnar : ColumnarTable) (read : ℕ → Bool) where
  pub parts_added : (old new : SegmentWindow) (col : ℕ) → HasPartsBefore known columnar read (first_in old) (window_in old) col → read col ≡ true
      → ((number : ℕ) → number < segments_in (window_in old) → IfSome known (HasBlock columnar col (first_in old + number) (block_in (window_in new) number col)))
      → ((other : ℕ) → other ≢ col → (number : ℕ) → block_in (window_in new) number other ≡ block_in (window_in old) number other)
      → first_in new ≡ first_in old → segments_in (window_in new) ≡ segments_in (window_in old) → layout_of (window_in new) ≡ layout_of (window_in old)
      → placement_of (window_in new) ≡ placement_of (window_in old) → (window_in new).rows ≡ (window_in old).rows → HasPartsBefore known columnar read (first_in new) (window_in new) (col + 1)
  parts_added old new col before is blocks others first segments layout placement rows =
      let fewer : (number : ℕ) → number < segments_in (window_in new) → number < segments_in (window_in old) = λ number lt. omega (arith, lt, segments) in
      let moved : (column number : ℕ) (block : List ℕ) → IfSome known (HasBlock columnar column (first_in old + number) block) → IfSome known (HasBlock columnar column (first_in new + number) block) =
      λ column number block has. subst (λ f. IfSome known (HasBlock columnar column (f + number) block)) (sym first) has in
      record {
        part = record {
          layout = layout ∙ before.part.layout;
          placement = placement ∙ before.part.placement;
          within = omega (arith, first, segments, before.part.within);
          rows = λ number lt. ap (λ n. rows_numbered n number) rows ∙ before.part.rows number (fewer number lt) ∙ ap (λ f. rows_numbered (table_in columnar).rows (f + number)) (sym first);
        };
        blocks = λ column lt needed number there. elim (cases_eq column col) [
          | inl same ↦ rw same (moved col number (block_in (window_in new) number col) (blocks number (fewer number there)))
          | inr off ↦
              moved column number (block_in (window_in new) number column)
              (subst (λ (block : List ℕ). IfSome known (HasBlock columnar column (first_in old + number) block)) (sym (others column off number)) (before.blocks column (omega (arith, lt, off)) needed number (fewer number there)))
        ];
        blank = λ column lt un number there.
            let off : column ≢ col = λ same. let e : true ≡ false = sym is ∙ ap read (sym same) ∙ un in cc e in
            others column off number ∙ before.blank column lt un number (fewer number there)
            ∙ sym (ap₂ (λ (L : Layout) (C : List Column). block_bytes (form_of L) C column []) layout (ap (λ (p : Placement). p.schema.columns.items) placement));
      }

  pub parts_passed : (window : SegmentWindow) (col : ℕ) → HasPartsBefore known columnar read (first_in window) (window_in window) col → read col ≡ false
      → HasPartsBefore known columnar read (first_in window) (window_in window) (col + 1)
  parts_passed window col before un = record {
    part = before.part;
    blocks = λ column lt needed. elim (cases_eq column col) [
      | inl same ↦ absurd (let e : true ≡ false = sym needed ∙ ap read same ∙ un in cc e)
      | inr off ↦ before.blocks column (omega (arith, lt, off)) needed
    ];
    blank = before.blank;
  }

-- what holds of a table holds by an equal header
module _ (L M : Layout) (C D : List Column) where
  moved_sizes : (f : ℕ → List ℕ) → M ≡ L → D ≡ C → ((column : ℕ) → column < length D → length (f column) ≡ block_size M D column) → (column : ℕ) → column < length C → length (f column) ≡ block_size L C column
  moved_sizes f a b holds = rw (← a, ← b) holds

  moved_valid : (r s : ℕ) (f : ℕ → List ℕ) → M ≡ L → D ≡ C → s ≡ r → ((column : ℕ) → column < length D → block_fault M D column s (f column) ≡ None) → (column : ℕ) → column < length C
      → block_fault L C column r (f column) ≡ None
  moved_valid r s f a b c holds = rw (← a, ← b, ← c) holds

  moved_rows : (r s : ℕ) (f : ℕ → List ℕ) → M ≡ L → D ≡ C → s ≡ r → rows_spelled L C r (flat_map f (range_with_len 0 (length C))) ≡ rows_spelled M D s (flat_map f (range_with_len 0 (length D)))
  moved_rows r s f a b c = rw (a, b, c) refl

module _ (known : Option (List ℕ)) (columnar : ColumnarTable) (read : ℕ → Bool) where
  abbrev whole : MemoryTable
  whole = table_in columnar

  abbrev columns : List Column
  columns = (schema_of (table_in columnar)).columns.items

  pub nothing_read : HasGroups known columnar read 0 []
  nothing_read = record { blocks = λ number column. []; are = λ number lt. absurd (omega (arith, lt)); is = refl }

  -- the segment of a number of a window comes after those before it
  module _ (first at : ℕ) (table : MemoryTable) (groups : List (List (List Value))) (window : HasPartsBefore known columnar read first table (column_count columnar)) (there : at < segments_in table)
      (so_far : HasGroups known columnar read (first + at) groups) where
    same_columns : (schema_of table).columns.items ≡ columns
    same_columns = ap (λ (p : Placement). p.schema.columns.items) window.part.placement

    few : rows_numbered table.rows at ≤ group_size
    unfolding group_size
    few = omega arith

    length-here : (column : ℕ) → column < length (schema_of table).columns.items → length (block_in table at column) ≡ block_size (layout_of table) (schema_of table).columns.items column
    length-here column lt =
        let cs = (schema_of table).columns.items in
        ap length (sym (block_of_segment (form_of (layout_of table)) cs (segments_in table) table.columns.items table.kept.blocks at there column lt))
        ∙ length-cut (form_of (layout_of table)) (is_packing (layout_of table)) cs (rows_numbered table.rows at) (segment_numbered table.columns.items at) few (table.kept.sound at there) column lt

    valid-here : (column : ℕ) → column < length (schema_of table).columns.items → block_fault (layout_of table) (schema_of table).columns.items column (rows_numbered table.rows at) (block_in table at column) ≡ None
    valid-here column lt = valid_from (layout_of table) (schema_of table).columns.items table.rows (segments_in table) table.columns.items table.kept.blocks table.kept.sound at there column lt

    here : IsSegmentRead known columnar read (first + at) (block_in table at)
    here = record {
      sizes = moved_sizes (layout_of whole) (layout_of table) columns (schema_of table).columns.items (block_in table at) window.part.layout same_columns length-here;
      valid = moved_valid (layout_of whole) (layout_of table) columns (schema_of table).columns.items (rows_numbered whole.rows (first + at)) (rows_numbered table.rows at) (block_in table at) window.part.layout same_columns (window.part.rows at there) valid-here;
      there = λ column lt is. window.blocks column lt is at there;
      blank = λ column lt un. window.blank column lt un at there ∙ ap₂ (λ (L : Layout) (C : List Column). block_bytes (form_of L) C column []) window.part.layout same_columns;
    }

    abbrev blocks_more : ℕ → ℕ → List ℕ
    blocks_more = pick (first + at) so_far.blocks (block_in table at)

    group_same : (f g : ℕ → List ℕ) (number : ℕ) → f ≡ g
        → rows_spelled (layout_of whole) columns (rows_numbered whole.rows number) (flat_map f (range_with_len 0 (column_count columnar)))
        ≡ rows_spelled (layout_of whole) columns (rows_numbered whole.rows number) (flat_map g (range_with_len 0 (column_count columnar)))
    group_same f g number same = ap (λ (h : ℕ → List ℕ). rows_spelled (layout_of whole) columns (rows_numbered whole.rows number) (flat_map h (range_with_len 0 (column_count columnar)))) same

    spelled_here : rows_spelled (layout_of whole) columns (rows_numbered whole.rows (first + at)) (flat_map (block_in table at) (range_with_len 0 (column_count columnar)))
        ≡ stored_group (layout_of table) (schema_of table).columns.items table.rows table.columns.items at
    unfolding segment_numbered
    spelled_here =
        moved_rows (layout_of whole) (layout_of table) columns (schema_of table).columns.items (rows_numbered whole.rows (first + at)) (rows_numbered table.rows at) (block_in table at) window.part.layout same_columns (window.part.rows at there)
        ∙ ap (λ n. rows_spelled (layout_of table) (schema_of table).columns.items (rows_numbered table.rows at) (flat_map (block_in table at) (range_with_len 0 n))) (sym table.kept.blocks.all)

    pub one_read : HasGroups known columnar read (first + at + 1) (groups ++ stored_group (layout_of table) (schema_of table).columns.items table.rows table.columns.items at ∷ [])
    one_read = record {
      blocks = blocks_more;
      are = λ number lt. elim (cases_lt number (first + at)) [
        | inl before ↦ subst (IsSegmentRead known columnar read number) (sym (pick_before (first + at) so_far.blocks (block_in table at) number before)) (so_far.are number before)
        | inr not_before ↦
            let last : first + at ≡ number = omega (arith, lt, not_before) in
            subst (λ n. IsSegmentRead known columnar read n (blocks_more n)) last (subst (IsSegmentRead known columnar read (first + at)) (sym (pick_last (first + at) so_far.blocks (block_in table at))) here)
      ];
      is = ap₂ (λ (l : List (List (List Value))) (g : List (List Value)). l ++ g ∷ [])
          (so_far.is ∙ map_alike (group_spelled columnar so_far.blocks) (group_spelled columnar blocks_more) 0 (first + at) (λ number from to. group_same (so_far.blocks number) (blocks_more number) number (sym (pick_before (first + at) so_far.blocks (block_in table at) number (omega (arith, to))))))
          (sym (group_same _ _ (first + at) (pick_last (first + at) so_far.blocks (block_in table at)) ∙ spelled_here))
          ∙ sym (map-range_with_len_more (group_spelled columnar blocks_more) 0 (first + at) (first + at) (omega arith));
    }

  -- the blocks of all segments, put together
  module _ (blank : IsBlank (table_in columnar)) (blocks : ℕ → ℕ → List ℕ) (are : (number : ℕ) → number < segments_in (table_in columnar) → IsSegmentRead known columnar read number (blocks number)) where
    abbrev segments : ℕ
    segments = segments_in (table_in columnar)

    abbrev size : ℕ → ℕ
    size column = block_size (layout_of (table_in columnar)) columns column

    abbrev all_bytes : ℕ → List ℕ
    all_bytes column = flat_map (λ number. blocks number column) (range_with_len 0 segments)

    below : (k d : ℕ) → k < length (range_with_len 0 segments) → get_or (range_with_len 0 segments) k d < segments
    below k d lt =
        let within : k < segments = omega (arith, lt, length-range_with_len 0 segments) in
        omega (arith, within, get_or-range_with_len 0 segments k d within)

    module _ (column : ℕ) (lt : column < column_count columnar) where
      length-all : length (all_bytes column) ≡ segments * size column
      length-all =
          length-pieces (λ number. blocks number column) (λ number. number < segments) (size column) (λ number there. (are number there).sizes column lt) (range_with_len 0 segments) below
          ∙ ap (λ n. n * size column) (length-range_with_len 0 segments)

      piece-all : (number : ℕ) → number < segments → piece_of (all_bytes column) (size column) number ≡ blocks number column
      piece-all number there =
          ap (λ (l : List ℕ). piece_of l (size column) number) (sym (append-nil (all_bytes column)))
          ∙ piece_at (λ n. blocks n column) (λ n. n < segments) (size column) 0 (λ n within. (are n within).sizes column lt) (range_with_len 0 segments) below number (omega (arith, there, length-range_with_len 0 segments)) []
          ∙ ap (λ n. blocks n column) {x = get_or (range_with_len 0 segments) number 0} {y = number} (omega (arith, get_or-range_with_len 0 segments number 0 there))

      short : length (all_bytes column) < 2 ^ 63
      short =
          let within = before_within (layout_of (table_in columnar)) columns column (column_count columnar) lt in
          let small = segment_small (layout_of (table_in columnar)) (schema_of (table_in columnar)) in
          omega (arith, length-all, small_product segments (size column) (few_segments (table_in columnar)) (omega (arith, within, small)))

      -- the column of these bytes, in the memory of another one
      abbrev column_of : ColumnBlocks → ColumnBlocks
      column_of d = record {
        size = size column;
        stride = size column;
        bytes = record { ptr = d.bytes.ptr; len = length (all_bytes column); cap = length (all_bytes column); alloc = d.bytes.alloc; items = all_bytes column; ok = (refl, omega arith); small = short };
        fronts = record { ptr = d.fronts.ptr; len = 0; cap = 0; alloc = d.fronts.alloc; items = []; ok = (refl, omega arith); small = omega arith };
        is_long = false;
        same = λ number le. absurd (omega (arith, le));
      }

    -- the file's table, with these columns
    module _ (kept : Vec ColumnBlocks Global) (stored : StoresSegments (layout_of (table_in columnar)) columns whole.rows segments kept.items) where
      abbrev table_of : ColumnarTable
      table_of = record {
        table = record {
          layout = whole.layout;
          placement = whole.placement;
          rows = whole.rows;
          segments = whole.segments;
          columns = kept;
          placed = whole.placed;
          within_limit = whole.within_limit;
          kept = stored;
          cut = groups_cut whole.layout columns whole.rows whole.segments kept.items whole.kept.nonempty;
        };
        head = columnar.head;
        short = columnar.short;
      }

    -- the first columns have the blocks
    record Made (count : ℕ) : Type 0 where
      kept : Vec ColumnBlocks Global
      stored : StoresSegments (layout_of (table_in columnar)) columns whole.rows segments kept.items
      has : HasColumns known (table_of kept stored) read count
      here : (column : ℕ) → column < count → read column ≡ true → (number : ℕ) → number < segments → block_numbered kept.items number column ≡ blocks number column

    none_made : Made 0
    none_made = record {
      kept = whole.columns;
      stored = whole.kept;
      has = none_read known read (table_of whole.columns whole.kept) blank;
      here = λ column lt is number there. absurd (omega (arith, lt));
    }

    column_passed : (count : ℕ) → read count ≡ false → Made count → Made (count + 1)
    column_passed count un made = record {
      kept = made.kept;
      stored = made.stored;
      has = not_needed known read (table_of made.kept made.stored) count un made.has;
      here = λ column lt is. elim (cases_eq column count) [
        | inl same ↦ absurd (let e : true ≡ false = sym is ∙ ap read same ∙ un in cc e)
        | inr off ↦ made.here column (omega (arith, lt, off)) is
      ];
    }

    module _ (count : ℕ) (lt : count < column_count columnar) (is : read count ≡ true) (made : Made count) where
      inside : count < length made.kept.items
      inside = omega (arith, lt, made.stored.blocks.all)

      abbrev fresh : ColumnBlocks
      fresh = column_of count lt (element made.kept.items count inside)

      abbrev items_more : List ColumnBlocks
      items_more = set made.kept.items count fresh

      valid : (number : ℕ) → number < segments → block_fault (layout_of (table_in columnar)) columns count (rows_numbered whole.rows number) (piece_of (all_bytes count) (size count) number) ≡ None
      valid number there = ap (block_fault (layout_of (table_in columnar)) columns count (rows_numbered whole.rows number)) (piece-all count lt number there) ∙ (are number there).valid count lt

      abbrev kept_more : Vec ColumnBlocks Global
      kept_more = record {
        ptr = made.kept.ptr;
        len = made.kept.len;
        cap = made.kept.cap;
        alloc = made.kept.alloc;
        items = items_more;
        ok = (made.kept.ok.0 ∙ sym (length-set made.kept.items count fresh), made.kept.ok.1);
        small = made.kept.small;
      }

      stored_more : StoresSegments (layout_of (table_in columnar)) columns whole.rows segments items_more
      stored_more = replaced_stored whole.layout columns whole.rows segments made.kept.items made.stored count fresh lt refl refl (length-all count lt) valid

      column_is : (number : ℕ) → block_numbered items_more number count ≡ piece_of (all_bytes count) (size count) number
      column_is = replaced_column whole.layout columns whole.rows segments made.kept.items made.stored count fresh lt refl refl (length-all count lt) valid

      others_are : (other : ℕ) → other ≢ count → (number : ℕ) → block_numbered items_more number other ≡ block_numbered made.kept.items number other
      others_are other not number = block_of_other made.kept.items count fresh inside number other not

      from_file : AreFileBlocks known (table_of made.kept made.stored) count (all_bytes count)
      from_file = record {
        long = length-all count lt;
        valid = valid;
        are = λ number there. subst (λ (block : List ℕ). IfSome known (HasBlock columnar count number block)) (sym (piece-all count lt number there)) ((are number there).there count lt is);
      }

      column_made : Made (count + 1)
      column_made = record {
        kept = kept_more;
        stored = stored_more;
        has = added known read (table_of made.kept made.stored) (table_of kept_more stored_more) count
            (replaced known (table_of made.kept made.stored) (table_of kept_more stored_more) count (all_bytes count) from_file refl refl refl refl refl (λ number there. column_is number) others_are) is made.has;
        here = λ column below needed number there. elim (cases_eq column count) [
          | inl same ↦ rw same (column_is number ∙ piece-all count lt number there)
          | inr off ↦ others_are column off number ∙ made.here column (omega (arith, below, off)) needed number there
        ];
      }

    one_made : (count : ℕ) → count < column_count columnar → (b : Bool) → read count ≡ b → Made count → Made (count + 1)
    one_made count lt true is made = column_made count lt is made
    one_made count lt false is made = column_passed count is made

    made : (count : ℕ) → count ≤ column_count columnar → Made count
    made zero le = none_made
    made (suc count) le = subst Made (add-one count) (one_made count (omega (arith, le)) (read count) refl (made count (omega (arith, le))))

    all_made : Made (column_count columnar)
    all_made = made (column_count columnar) (omega arith)

    pub whole_table : ColumnarTable
    whole_table = table_of all_made.kept all_made.stored

    pub whole_same : SameHeader columnar whole_table
    unfolding whole_table
    whole_same = record { layout = refl; schema = refl; rows = refl; segments = refl; head = refl }

    pub whole_has : HasColumns known whole_table read (column_count whole_table)
    unfolding whole_table
    whole_has = all_made.has

    block_is : (number column : ℕ) → number < segments → column < column_count columnar → blocks number column ≡ block_numbered all_made.kept.items number column
    block_is number column there lt = elim (cases_Bool (read column)) [
      | inl is ↦ sym (all_made.here column lt is number there)
      | inr un ↦ (are number there).blank column lt un ∙ sym (all_made.has.blank column lt (inr un) number there)
    ]

    segment_is : (number : ℕ) → number < segments → flat_map (blocks number) (range_with_len 0 (column_count columnar)) ≡ segment_numbered all_made.kept.items number
    unfolding segment_numbered
    segment_is number there =
        same_in_range (blocks number) (block_numbered all_made.kept.items number) 0 (column_count columnar) (λ column from to. block_is number column there (omega (arith, to)))
        ∙ ap (λ n. flat_map (block_numbered all_made.kept.items number) (range_with_len 0 n)) (sym all_made.stored.blocks.all)

    pub whole_groups : map (group_spelled columnar blocks) (range_with_len 0 segments) ≡ groups_in (table_in whole_table)
    unfolding stored_groups whole_table
    whole_groups =
        map_alike (group_spelled columnar blocks) (stored_group whole.layout columns whole.rows all_made.kept.items) 0 segments
        (λ number from to. ap (rows_spelled whole.layout columns (rows_numbered whole.rows number)) (segment_is number (omega (arith, to))))

-- one more column adds its number, if it is read
pub sum_read_more : (read : ℕ → Bool) (number : ℕ → ℕ) (count : ℕ)
    → sum_read read number (count + 1) ≡ sum_read read number count + cond (read count) (number count) 0
sum_read_more read number count = sum_by-map-range_with_len_more (λ n. n) (λ column. cond (read column) (number column) 0) 0 count count (omega arith)
