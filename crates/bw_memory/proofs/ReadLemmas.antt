-- A segment that is read is kept after those before it.
use Rattle.std.proofs.Common.{◌≡◌, ◌∙◌, refl, sym, ap, ap₂, subst, ℕ, ◌+◌, ◌*◌, ◌≤◌, min, List, []}
use Rattle.std.proofs.Common.{◌∷◌, ◌++◌, length, map, arith}
use Rattle.bw_model.specs.declared.column.Column.{Column}
use Rattle.bw_model.specs.declared.schema.Schema.{Schema}
use Rattle.bw_model.specs.Groups.{group_size, groups_of, together}
use Rattle.bw_model.specs.Limits.{most_rows}
use Rattle.bw_model.specs.SchemaText.{SchemaShape, column_shape, schema_shape}
use Rattle.bw_model.specs.Row.{Value}
use Rattle.bw_segment.specs.declared.column_blocks.ColumnBlocks.{ColumnBlocks}
use Rattle.bw_segment.specs.ColumnBlocks.{StoresBlocks}
use Rattle.bw_file.specs.declared.layout.Layout.{Layout}
use Rattle.bw_file.specs.declared.segments.AnySegment.{AnySegment}
use Rattle.bw_file.specs.declared.table_reader.TableReader.{TableReader}
use Rattle.bw_file.specs.AnySegment.{any_is_group, any_layout, any_meaning}
use Rattle.bw_file.specs.Blocks.{IsSound, form_of, rows_spelled}
use Rattle.bw_file.specs.Reading.{State}
use Rattle.bw_file.specs.TableReader.{IsSegmentOf, ReadWhole, SameTable, ReadProgress, found_so_far}
use Rattle.bw_file.specs.TableReader.{layout_in, rows_given, rows_stated, schema_in}
use Rattle.bw_file.specs.TableReading.{found_as}
use Rattle.bw_file.proofs.FileSpelling.{read_is_spelled_by}
use Rattle.bw_file.proofs.MemoryAnswers.{columns_of}
use Rattle.bw_memory.specs.StoredSegments.{AddsSegment, AreBytesOf, StoresSegments, stored_groups}
use Rattle.bw_memory.specs.MemoryTable.{HasReadTable}
use Rattle.bw_memory.specs.ReadSegments.{StoresAllSegments}
use Rattle.bw_memory.proofs.StoredSegmentLemmas.{groups_added, none_kept, segment_added}

-- there are no groups before the first segment
pub no_groups : (layout : Layout) (columns : List Column) (rows : ℕ) (kept : List ColumnBlocks) → stored_groups layout columns rows 0 kept ≡ []
unfolding stored_groups
no_groups layout columns rows kept = refl

pub none_read : (layout : Layout) (columns : List Column) (rows : ℕ) (kept : List ColumnBlocks) → rows ≡ 0 → StoresBlocks (form_of layout) columns 0 kept → StoresSegments layout columns rows 0 kept
none_read layout columns rows kept none blocks = subst (λ (n : ℕ). StoresSegments layout columns n 0 kept) (sym none) (none_kept layout columns kept blocks)

pub none_given : (rows stated : ℕ) → rows ≡ 0 → rows ≡ min stated (group_size * 0)
unfolding group_size
none_given rows stated none = omega (arith, none)

module _ (first reader next : TableReader) (segment : AnySegment) (count : ℕ) (old new : List ColumnBlocks) (same : SameTable first reader) (is : IsSegmentOf reader segment)
    (kept : StoresSegments (layout_in first) (schema_in first).columns.items (rows_given reader) count old)
    (stored : StoresBlocks (form_of (layout_in first)) (schema_in first).columns.items count old) (given : rows_given reader ≡ min (rows_stated first) (group_size * count))
    (added : (bytes : List ℕ) × AreBytesOf segment bytes × AddsSegment (any_layout segment) (any_meaning segment).columns bytes old new)
    (counted : rows_given next ≡ rows_given reader + length (any_meaning segment).rows) where
  abbrev more : ℕ
  more = length (any_meaning segment).rows

  full : rows_given reader ≡ group_size * count
  unfolding group_size
  full = omega (arith, given, is.count, (any_is_group segment).nonempty, same.rows)

  layout_is : any_layout segment ≡ layout_in first
  layout_is = is.layout ∙ same.layout

  columns_are : (any_meaning segment).columns ≡ (schema_in first).columns.items
  columns_are = columns_of first reader segment same is

  sound : IsSound (layout_in first) (schema_in first).columns.items more added.0
  sound =
      subst (λ (layout : Layout). IsSound layout (schema_in first).columns.items more added.0) layout_is
      (subst (λ (columns : List Column). IsSound (any_layout segment) columns more added.0) columns_are added.1.sound)

  add : AddsSegment (layout_in first) (schema_in first).columns.items added.0 old new
  add =
      subst (λ (layout : Layout). AddsSegment layout (schema_in first).columns.items added.0 old new) layout_is
      (subst (λ (columns : List Column). AddsSegment (any_layout segment) columns added.0 old new) columns_are added.2)

  rows_are : rows_spelled (layout_in first) (schema_in first).columns.items more added.0 ≡ (any_meaning segment).rows
  rows_are = sym (ap₂ (λ (layout : Layout) (columns : List Column). rows_spelled layout columns more added.0) layout_is columns_are) ∙ added.1.rows

  pub stored_next : StoresBlocks (form_of (layout_in first)) (schema_in first).columns.items (count + 1) new
  stored_next = add.keep count stored

  pub kept_next : StoresSegments (layout_in first) (schema_in first).columns.items (rows_given next) (count + 1) new
  kept_next =
      subst (λ (rows : ℕ). StoresSegments (layout_in first) (schema_in first).columns.items rows (count + 1) new) (sym counted)
      (segment_added (layout_in first) (schema_in first).columns.items (rows_given reader) count more old new added.0 kept stored full (any_is_group segment).nonempty (any_is_group segment).within_limit sound add)

  pub given_next : rows_given next ≡ min (rows_stated first) (group_size * (count + 1))
  unfolding group_size
  given_next = omega (arith, full, counted, is.count, same.rows)

  pub groups_next : stored_groups (layout_in first) (schema_in first).columns.items (rows_given next) (count + 1) new
      ≡ stored_groups (layout_in first) (schema_in first).columns.items (rows_given reader) count old ++ (any_meaning segment).rows ∷ []
  groups_next =
      ap (λ (rows : ℕ). stored_groups (layout_in first) (schema_in first).columns.items rows (count + 1) new) counted
      ∙ groups_added (layout_in first) (schema_in first).columns.items (rows_given reader) count more old new added.0 kept stored full (any_is_group segment).nonempty (any_is_group segment).within_limit sound add
      ∙ ap (λ (rows : List (List Value)). stored_groups (layout_in first) (schema_in first).columns.items (rows_given reader) count old ++ rows ∷ []) rows_are

-- all segments, once the end was seen, which counted no row
pub all_kept : (old now : State) (first reader next : TableReader) (count : ℕ) (kept : List ColumnBlocks) → SameTable first reader
    → StoresSegments (layout_in first) (schema_in first).columns.items (rows_given reader) count kept → rows_given next ≡ rows_given reader → rows_given next ≤ most_rows
    → ((start : State) → ReadProgress start old first [] → ReadWhole start now (found_so_far reader (stored_groups (layout_in first) (schema_in first).columns.items (rows_given reader) count kept)))
    → ((start : State) → ReadProgress start old first [] → stored_groups (layout_in first) (schema_in first).columns.items (rows_given reader) count kept
    ≡ groups_of (together (stored_groups (layout_in first) (schema_in first).columns.items (rows_given reader) count kept)))
    → StoresAllSegments old now first (rows_given next) count kept
all_kept old now first reader next count kept same segments counted few read cut = subst (λ (rows : ℕ). StoresAllSegments old now first rows count kept) (sym counted) (record {
  segments = segments;
  within_limit = omega (arith, few, counted);
  read = λ start so_far. subst (ReadWhole start now) (ap₂ (λ (layout : Layout) (schema : Schema). found_as layout (schema_shape schema) (together groups)) same.layout same.schema) (read start so_far);
  cut = cut;
})
  where
    groups : List (List (List Value))
    groups = stored_groups (layout_in first) (schema_in first).columns.items (rows_given reader) count kept

-- the table of a file that was read completely
came_so : (start now : State) (first : TableReader) (schema : Schema) (rows : List (List Value)) → schema.name ≡ (schema_in first).name → schema.columns.items ≡ (schema_in first).columns.items
    → ReadWhole start now (found_as (layout_in first) (schema_shape (schema_in first)) rows) → HasReadTable start now (layout_in first) schema rows
came_so start now first schema rows name columns read = record {
  read = whole;
  text = read_is_spelled_by whole.bytes (found_as (layout_in first) (schema_shape schema) rows) schema whole.took.each refl whole.read;
}
  where
    shape : schema_shape (schema_in first) ≡ schema_shape schema
    shape = ap₂ (λ (n : List ℕ) (cs : List Column). (let found : SchemaShape = record { name = n; columns = map column_shape cs } in found)) (sym name) (sym columns)

    whole : ReadWhole start now (found_as (layout_in first) (schema_shape schema) rows)
    whole = subst (λ (found : SchemaShape). ReadWhole start now (found_as (layout_in first) found rows)) shape read

-- what is made of the segments that were read
module _ (first : TableReader) (layout : Layout) (schema : Schema) (rows given count : ℕ) (kept items : List ColumnBlocks) (same_layout : layout ≡ layout_in first)
    (name : schema.name ≡ (schema_in first).name) (columns : schema.columns.items ≡ (schema_in first).columns.items) (same_rows : given ≡ rows) (same_items : items ≡ kept) where
  pub segments_made : StoresSegments (layout_in first) (schema_in first).columns.items rows count kept → StoresSegments layout schema.columns.items given count items
  segments_made segments = rw (same_layout, columns, same_rows, same_items) segments

  groups_made : stored_groups layout schema.columns.items given count items ≡ stored_groups (layout_in first) (schema_in first).columns.items rows count kept
  groups_made = rw (same_layout, columns, same_rows, same_items) refl

  module _ (old now : State) (all : StoresAllSegments old now first rows count kept) where
    pub cut_made : (start : State) → ReadProgress start old first [] → stored_groups layout schema.columns.items given count items
        ≡ groups_of (together (stored_groups layout schema.columns.items given count items))
    cut_made start so_far =
        subst (λ (groups : List (List (List Value))). groups ≡ groups_of (together groups)) (sym groups_made) (all.cut start so_far)

    pub came_whole : (start : State) → ReadProgress start old first [] → HasReadTable start now layout schema (together (stored_groups layout schema.columns.items given count items))
    came_whole start so_far =
        subst (λ (kind : Layout). HasReadTable start now kind schema (together (stored_groups layout schema.columns.items given count items))) (sym same_layout)
        (subst (λ (groups : List (List (List Value))). HasReadTable start now (layout_in first) schema (together groups)) (sym groups_made)
        (came_so start now first schema (together (stored_groups (layout_in first) (schema_in first).columns.items rows count kept)) name columns (all.read start so_far)))
