-- The ranges that are kept of columns: those of a column that was read, and those of the others, which stay.
use Rattle.std.proofs.Common.{◌≡◌, ◌≢◌, ◌∙◌, refl, sym, ap, ap₂, subst, ℕ, zero, suc, ◌/◌, ◌<◌, Bool, ◌&&◌, List, [], ◌∷◌, None, Option, Vec, Global, inl, inr, length, map, get_or, slice_set, arith}
use Rattle.std.specs.List.{list_all, range_with_len}
use Rattle.std.proofs.lemmas.Bool.{cases_eq, cases_lt}
use Rattle.std.proofs.lemmas.List.{get_or_past, length-map}
use Rattle.std.proofs.lemmas.List.FromFn.{get_or-map-range_with_len}
use Rattle.bw_model.specs.declared.column.Column.{Column}
use Rattle.bw_model.specs.declared.schema.Schema.{Schema}
use Rattle.bw_model.specs.Row.{Value, value_in}
use Rattle.bw_segment.specs.ColumnBlocks.{segment_numbered}
use Rattle.bw_segment.specs.Packing.{block_at, rows_spelled, value_in_block}
use Rattle.bw_segment.proofs.ColumnBlockLemmas.{block_of_segment}
use Rattle.bw_file.specs.Blocks.{form_of}
use Rattle.bw_file.specs.declared.layout.Layout.{Layout}
use Rattle.bw_ranges.specs.declared.column_range.ColumnRange.{ColumnRange}
use Rattle.bw_ranges.specs.ColumnRange.{has_value, only_null}
use Rattle.bw_memory.specs.declared.columnar.ColumnarTable.{ColumnarTable}
use Rattle.bw_memory.specs.declared.table.MemoryTable.{MemoryTable}
use Rattle.bw_memory.specs.Columnar.{HasReadColumn, column_count, table_in}
use Rattle.bw_memory.specs.Columns.{block_in}
use Rattle.bw_memory.specs.MemoryTable.{layout_of, meaning_numbered, schema_of, segments_in}
use Rattle.bw_memory.specs.Ranges.{AreRangesOf, HasRange, HaveRanges, ranges_kept}
use Rattle.bw_memory.specs.StoredSegments.{rows_numbered}

-- the values of a column are those of its blocks
module _ (range : ColumnRange) (column : ℕ) where
  abbrev in_block : Layout → List Column → List ℕ → ℕ → Bool
  in_block layout columns block row = has_value range (value_in_block (form_of layout) columns column block row)

  all_spelled : (row : ℕ → List Value) (test : ℕ → Bool) → ((n : ℕ) → has_value range (value_in (row n) column) ≡ test n) → (ns : List ℕ) → list_all (λ row. has_value range (value_in row column)) (map row ns) ≡ list_all test ns
  all_spelled row test same [] = refl
  all_spelled row test same (n ∷ ns) = ap₂ ◌&&◌ (same n) (all_spelled row test same ns)

  by_block : (table : MemoryTable) (number : ℕ) → number < segments_in table → column < length (schema_of table).columns.items
      → list_all (λ row. has_value range (value_in row column)) (meaning_numbered table number).rows
      ≡ list_all (in_block (layout_of table) (schema_of table).columns.items (block_in table number column)) (range_with_len 0 (rows_numbered table.rows number))
  unfolding rows_spelled
  by_block table number there lt =
      let packing = form_of (layout_of table) in
      let columns = (schema_of table).columns.items in
      let kept = table.columns.items in
      let values : ℕ → List Value = λ row. map (λ col. value_in_block packing columns col (block_at packing columns col (segment_numbered kept number)) row) (range_with_len 0 (length columns)) in
      all_spelled values (in_block (layout_of table) columns (block_in table number column))
      (λ row. ap (has_value range)
      (get_or-map-range_with_len (λ col. value_in_block packing columns col (block_at packing columns col (segment_numbered kept number)) row) 0 (length columns) column column None lt (omega arith)
      ∙ ap (λ block. value_in_block packing columns column block row) (block_of_segment packing columns (segments_in table) kept table.kept.blocks number there column lt)))
      (range_with_len 0 (rows_numbered table.rows number))

  moved : (number : ℕ) (L M : Layout) (C E : List Column) (B D : List ℕ) (r s : ℕ) → M ≡ L → E ≡ C → D ≡ B → s ≡ r
      → list_all (in_block M E D) (range_with_len 0 (rows_numbered s number)) ≡ list_all (in_block L C B) (range_with_len 0 (rows_numbered r number))
  moved number L M C E B D r s a b c d = rw (a, b, c, d) refl

  range_stays : (known : Option (List ℕ)) (old new : ColumnarTable) (at : ℕ) → HasReadColumn known old new at → column ≢ at → column < column_count old → (number : ℕ) → number < segments_in (table_in new)
      → HasRange range column (meaning_numbered (table_in old) number).rows → HasRange range column (meaning_numbered (table_in new) number).rows
  range_stays known old new at more off lt number there has =
      let before = table_in old in
      let after = table_in new in
      let columns = ap (λ (s : Schema). s.columns.items) more.same.schema in
      by_block after number there (omega (arith, lt, ap length columns))
      ∙ moved number (layout_of before) (layout_of after) (schema_of before).columns.items (schema_of after).columns.items (block_in before number column) (block_in after number column) before.rows after.rows
      more.same.layout columns (more.others column off number) more.same.rows
      ∙ sym (by_block before number (omega (arith, there, more.same.segments)) lt) ∙ has

kept_same : (kept : List (Vec ColumnRange Global)) (column : ℕ) (ranges : Vec ColumnRange Global) → column < length kept → ranges_kept (slice_set kept column ranges) column ≡ ranges.items
kept_same [] column ranges lt = absurd (omega (arith, lt))
kept_same (first ∷ kept) zero ranges lt = refl
kept_same (first ∷ kept) (suc column) ranges lt = kept_same kept column ranges (omega (arith, lt))

kept_other : (kept : List (Vec ColumnRange Global)) (column other : ℕ) (ranges : Vec ColumnRange Global) → other ≢ column → ranges_kept (slice_set kept column ranges) other ≡ ranges_kept kept other
kept_other [] column other ranges off = refl
kept_other (first ∷ kept) zero zero ranges off = absurd (off refl)
kept_other (first ∷ kept) zero (suc other) ranges off = refl
kept_other (first ∷ kept) (suc column) zero ranges off = refl
kept_other (first ∷ kept) (suc column) (suc other) ranges off = kept_other kept column other ranges (λ e. off (ap suc e))

-- a column was read, and its ranges put in their place
pub have_ranges : (size : ℕ) (known : Option (List ℕ)) (old new : ColumnarTable) (column : ℕ) → HasReadColumn known old new column → (kept : List (Vec ColumnRange Global)) (ranges : Vec ColumnRange Global)
    → length kept ≡ column_count old → column < column_count old → HaveRanges size (table_in old) kept → AreRangesOf size (table_in new) column ranges.items → HaveRanges size (table_in new) (slice_set kept column ranges)
have_ranges size known old new column more kept ranges each lt before here other = elim (cases_eq other column) [
  | inl same ↦
      subst (λ n. AreRangesOf size (table_in new) n (ranges_kept (slice_set kept column ranges) n)) (sym same)
      (subst (AreRangesOf size (table_in new) column) (sym (kept_same kept column ranges (omega (arith, each, lt)))) here)
  | inr off ↦ subst (AreRangesOf size (table_in new) other) (sym (kept_other kept column other ranges off)) (elim (cases_lt other (length kept)) [
    | inl within ↦ λ number there group.
        range_stays (get_or (ranges_kept kept other) (number / size) only_null) other known old new column more off (omega (arith, within, each)) number there (before other number (omega (arith, there, more.same.segments)) group)
    | inr past ↦
        let none : ranges_kept kept other ≡ [] = get_or_past (map (λ (v : Vec ColumnRange Global). v.items) kept) other [] (omega (arith, past, length-map kept (λ (v : Vec ColumnRange Global). v.items))) in
        subst (AreRangesOf size (table_in new) other) (sym none) (λ number there group. absurd (omega (arith, group)))
  ])
]
