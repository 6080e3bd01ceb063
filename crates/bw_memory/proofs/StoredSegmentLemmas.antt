-- Segments that are kept column by column, one after the other.
use Rattle.std.proofs.Common.{◌≡◌, ◌∙◌, refl, sym, ap, ap₂, subst, ℕ, zero, suc, ◌+◌, ◌-◌, ◌*◌, ◌<◌}
use Rattle.std.proofs.Common.{◌≤◌, min, List, [], ◌∷◌, ◌++◌, map, length, Result, Ok, Err, inl, inr}
use Rattle.std.proofs.Common.{add-one, length-append, arith}
use Rattle.std.specs.Prelude.{OnOk}
use Rattle.std.specs.List.{range_with_len}
use Rattle.std.proofs.lemmas.Bool.{cases_lt}
use Rattle.std.proofs.lemmas.List.FromFn.{map-range_with_len_more}
use Rattle.bw_io.specs.Shared.{bytes_in}
use Rattle.bw_model.specs.declared.column.Column.{Column}
use Rattle.bw_model.specs.Groups.{group_size, together}
use Rattle.bw_model.specs.Row.{Value}
use Rattle.bw_segment.specs.declared.column_blocks.ColumnBlocks.{ColumnBlocks}
use Rattle.bw_segment.specs.ColumnBlocks.{StoresBlocks, segment_numbered}
use Rattle.bw_segment.proofs.ColumnBlockLemmas.{stored_has}
use Rattle.bw_segment.proofs.SoundLemmas.{length-rows_spelled}
use Rattle.bw_file.specs.declared.layout.Layout.{Layout}
use Rattle.bw_file.specs.declared.segments.AnySegment.{AnySegment}
use Rattle.bw_file.specs.declared.segments.AnySegment.TheVariants.{Planes, Slices}
use Rattle.bw_file.specs.AnySegment.{any_layout, any_meaning}
use Rattle.bw_file.specs.Blocks.{IsSound, form_of, rows_spelled}
use Rattle.bw_file.proofs.MemoryAnswers.{together_more}
use Rattle.bw_memory.specs.StoredSegments.{AddsSegment, AreBytesOf, StoresSegments, stored_group}
use Rattle.bw_memory.specs.StoredSegments.{stored_groups, rows_numbered}

pub on_ok_three : {E A K L M P : Type 0} (result : Result A E) → (K → L → M → P) → OnOk result K → OnOk result L → OnOk result M → OnOk result P
on_ok_three (Ok x) f k l m = f k l m
on_ok_three (Err e) f k l m = tt

-- the bytes of a segment that was read
abbrev pub bytes_of : AnySegment → List ℕ
bytes_of (Planes segment) = bytes_in segment.bytes
bytes_of (Slices segment) = bytes_in segment.bytes

pub are_of : (segment : AnySegment) → AreBytesOf segment (bytes_of segment)
unfolding any_meaning form_of
are_of (Planes segment) =
    let columns = segment.placement.value.schema.columns.items in
    let count = length-rows_spelled (form_of (any_layout (Planes segment))) columns segment.rows (bytes_in segment.bytes) in
    record {
      sound = rw count segment.packed.sound;
      rows = ap (λ n. rows_spelled (any_layout (Planes segment)) columns n (bytes_in segment.bytes)) count;
    }
are_of (Slices segment) =
    let columns = segment.placement.value.schema.columns.items in
    let count = length-rows_spelled (form_of (any_layout (Slices segment))) columns segment.rows (bytes_in segment.bytes) in
    record {
      sound = rw count segment.packed.sound;
      rows = ap (λ n. rows_spelled (any_layout (Slices segment)) columns n (bytes_in segment.bytes)) count;
    }

-- how many rows a segment has
pub rows_cut : (rows number most : ℕ) → most ≡ min (rows - 512 * number) 512 → most ≡ rows_numbered rows number
unfolding group_size
rows_cut rows number most is = omega (arith, is)

-- nothing is kept
pub none_kept : (layout : Layout) (columns : List Column) (kept : List ColumnBlocks) → StoresBlocks (form_of layout) columns 0 kept → StoresSegments layout columns 0 0 kept
none_kept layout columns kept blocks = record { blocks = stored_has (form_of layout) columns 0 kept blocks; all = omega arith; nonempty = λ number lt. absurd (omega arith); sound = λ number lt. absurd (omega arith) }

-- one segment more, after full ones
module _ (layout : Layout) (columns : List Column) (rows count more : ℕ) (old new : List ColumnBlocks) (bytes : List ℕ) (keep : StoresSegments layout columns rows count old) (stored : StoresBlocks (form_of layout) columns count old)
    (full : rows ≡ group_size * count) (some : 1 ≤ more) (few : more ≤ group_size) (sound : IsSound layout columns more bytes) (add : AddsSegment layout columns bytes old new) where
  same_rows : (number : ℕ) → number < count → rows_numbered (rows + more) number ≡ rows_numbered rows number
  unfolding group_size
  same_rows number there = omega (arith, full)

  rows_last : rows_numbered (rows + more) count ≡ more
  unfolding group_size
  rows_last = omega (arith, full, few)

  pub segment_added : StoresSegments layout columns (rows + more) (count + 1) new
  unfolding group_size
  segment_added = record {
    blocks = stored_has (form_of layout) columns (count + 1) new (add.keep count stored);
    all = omega (arith, full, few);
    nonempty = λ number lt. omega (arith, full, some);
    sound = λ number lt. elim (cases_lt number count) [
      | inl before ↦
          let same = add.others count number stored before in
          subst (λ (n : ℕ). IsSound layout columns n (segment_numbered new number)) (sym (same_rows number before)) (subst (λ (l : List ℕ). IsSound layout columns (rows_numbered rows number) l) (sym same) (keep.sound number before))
      | inr not_before ↦
          let here : number ≡ count = omega arith in
          subst (λ (k : ℕ). IsSound layout columns (rows_numbered (rows + more) k) (segment_numbered new k)) (sym here)
          (subst (λ (n : ℕ). IsSound layout columns n (segment_numbered new count)) (sym rows_last) (subst (λ (l : List ℕ). IsSound layout columns more l) (sym (add.last count stored)) sound))
    ];
  }

  group_before : (number : ℕ) → number < count → stored_group layout columns (rows + more) new number ≡ stored_group layout columns rows old number
  group_before number there =
      ap₂ (rows_spelled layout columns) (same_rows number there) (add.others count number stored there)

  group_last : stored_group layout columns (rows + more) new count ≡ rows_spelled layout columns more bytes
  group_last = ap₂ (rows_spelled layout columns) rows_last (add.last count stored)

  same_before : (first most : ℕ) → first + most ≤ count
      → map (stored_group layout columns (rows + more) new) (range_with_len first most) ≡ map (stored_group layout columns rows old) (range_with_len first most)
  same_before first zero le = refl
  same_before first (suc most) le = ap₂ (λ (group : List (List Value)) (groups : List (List (List Value))). group ∷ groups) (group_before first (omega arith)) (same_before (first + 1) most (omega arith))

  pub groups_added : stored_groups layout columns (rows + more) (count + 1) new ≡ stored_groups layout columns rows count old ++ rows_spelled layout columns more bytes ∷ []
  unfolding stored_groups
  groups_added =
      map-range_with_len_more (stored_group layout columns (rows + more) new) 0 count count (omega arith)
      ∙ ap₂ (λ (groups : List (List (List Value))) (group : List (List Value)). groups ++ group ∷ []) (same_before 0 count (omega arith)) group_last

-- a segment more of those that are kept
pub groups_more : (layout : Layout) (columns : List Column) (rows number : ℕ) (kept : List ColumnBlocks)
    → stored_groups layout columns rows (number + 1) kept ≡ stored_groups layout columns rows number kept ++ stored_group layout columns rows kept number ∷ []
unfolding stored_groups
groups_more layout columns rows number kept = map-range_with_len_more (stored_group layout columns rows kept) 0 number number (omega arith)

-- there is room for the rows of a segment after those of the segments before it
pub room_for : (layout : Layout) (columns : List Column) (rows number taken : ℕ) (kept : List ColumnBlocks) → group_size * number < rows → taken ≤ group_size * number
    → taken + length (stored_group layout columns rows kept number) ≤ rows
unfolding group_size
room_for layout columns rows number taken kept some so_far =
    omega (arith, some, so_far, length-rows_spelled (form_of layout) columns (rows_numbered rows number) (segment_numbered kept number))

-- how many rows the first segments have
pub length-rows : (layout : Layout) (columns : List Column) (rows count : ℕ) (kept : List ColumnBlocks) → length (together (stored_groups layout columns rows count kept)) ≡ min rows (group_size * count)
unfolding group_size stored_groups
length-rows layout columns rows zero kept = omega arith
length-rows layout columns rows (suc count) kept =
    let group = stored_group layout columns rows kept count in
    let before = together (stored_groups layout columns rows count kept) in
    let all = ap (λ n. together (stored_groups layout columns rows n kept)) (sym (add-one count)) ∙ ap together (groups_more layout columns rows count kept) ∙ together_more (stored_groups layout columns rows count kept) group in
    omega (arith, ap length all, length-append before group, length-rows layout columns rows count kept, length-rows_spelled (form_of layout) columns (rows_numbered rows count) (segment_numbered kept count))
