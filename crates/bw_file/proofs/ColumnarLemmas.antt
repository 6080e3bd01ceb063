-- The blocks of a table file, put in the order of columns.
use Rattle.std.proofs.Common.{◌≡◌, ◌∙◌, refl, sym, ap, ap₂, ℕ, suc, ◌+◌, ◌-◌, ◌*◌, ◌/◌, ◌<◌, ◌≤◌, min, List, []}
use Rattle.std.proofs.Common.{◌∷◌, ◌++◌, All, flat_map, length, take, drop, append_assoc}
use Rattle.std.proofs.Common.{length-append, length-drop, true, inl, inr, arith}
use Rattle.std.specs.List.{list_all, range_with_len}
use Rattle.std.proofs.Math.Seq.{drop-append-add}
use Rattle.std.proofs.lemmas.Bool.{cases_lt}
use Rattle.std.proofs.lemmas.List.{drop_all, take_all}
use Rattle.std.proofs.lemmas.List.Elements.{All-cons, All-head, All-nil, All-tail}
use Rattle.bw_model.specs.declared.column.Column.{Column}
use Rattle.bw_model.specs.declared.schema.Schema.{Schema}
use Rattle.bw_model.specs.Column.{admits_values}
use Rattle.bw_model.specs.Groups.{group_size, groups_of, together}
use Rattle.bw_model.specs.Row.{Value}
use Rattle.bw_model.proofs.GroupLemmas.{groups_of-count, groups_of-sizes, groups_of-table}
use Rattle.bw_segment.specs.Meaning.{IsGroup}
use Rattle.bw_segment.specs.Packing.{block_bytes}
use Rattle.bw_segment.proofs.BytesLemmas.{block_of_text, length-text}
use Rattle.bw_segment.proofs.LayoutLemmas.{before_in_order, piece_kept}
use Rattle.bw_segment.proofs.SoundLemmas.{same_in_range}
use Rattle.bw_file.specs.declared.layout.Layout.{Layout}
use Rattle.bw_file.specs.declared.order.FileOrder.{FileOrder}
use Rattle.bw_file.specs.declared.order.FileOrder.TheVariants.{ByRows, ByColumns}
use Rattle.bw_file.specs.Blocks.{block_size, bytes_before, form_of, segment_bytes, segment_size}
use Rattle.bw_file.specs.Columnar.{column_blocks, columnar_bytes, piece_from}
use Rattle.bw_file.specs.FileBytes.{AreRows, file_bytes, front_bytes, header_bytes, magic}
use Rattle.bw_file.specs.FileBytes.{bytes_of_version, segments_bytes, version_for}
use Rattle.bw_file.proofs.SegmentLemmas.{is_packing}
use Rattle.bw_file.proofs.SpelledBody.{Admits, HasSize, each_admitted, group_under}

-- a header is as long in either order and version, and for any number of rows
pub length-header : (order : FileOrder) (version other : ℕ) (layout : Layout) (name : List ℕ) (columns : List Column) (rows more : ℕ)
    → length (header_bytes order version layout name columns rows) ≡ length (header_bytes ByRows other layout name columns more)
unfolding header_bytes front_bytes magic
length-header ByRows version other layout name columns rows more = refl
length-header ByColumns version other layout name columns rows more = refl

-- a piece whose ends are at most that of the bytes
pub clamped : (start count : ℕ) (bytes : List ℕ) → take (min (length bytes) (start + count) - min (length bytes) start) (drop (min (length bytes) start) bytes) ≡ take count (drop start bytes)
clamped start count bytes = elim (cases_lt (length bytes) (start + count)) [
  | inl past ↦ elim (cases_lt (length bytes) start) [
    | inl beyond ↦
        ap (λ (l : List ℕ). take (min (length bytes) (start + count) - min (length bytes) start) l) (drop_all (min (length bytes) start) bytes (omega arith) ∙ sym (drop_all start bytes (omega arith)))
        ∙ take_all _ (drop start bytes) (omega (arith, length-drop start bytes)) ∙ sym (take_all count (drop start bytes) (omega (arith, length-drop start bytes)))
    | inr within ↦
        ap (λ n. take (min (length bytes) (start + count) - min (length bytes) start) (drop n bytes)) {x = min (length bytes) start} {y = start} (omega arith)
        ∙ take_all _ (drop start bytes) (omega (arith, length-drop start bytes)) ∙ sym (take_all count (drop start bytes) (omega (arith, length-drop start bytes)))
  ]
  | inr inside ↦
      ap (λ n. take (min (length bytes) (start + count) - min (length bytes) start) (drop n bytes)) {x = min (length bytes) start} {y = start} (omega arith)
      ∙ ap (λ n. take n (drop start bytes)) {x = min (length bytes) (start + count) - min (length bytes) start} {y = count} (omega arith)
]

-- pieces of texts that are back to back, one of each
pub pieces_are : {A : Type 0} (f g : A → List ℕ) (P : A → Type 0) (size at count : ℕ) → ((x : A) → P x → length (f x) ≡ size)
    → ((x : A) (rest : List ℕ) → P x → take count (drop at (f x ++ rest)) ≡ g x) → (bytes head : List ℕ) (xs : List A) (h first : ℕ) → All P xs
    → bytes ≡ head ++ flat_map f xs → length head ≡ h + first * size → flat_map (piece_from bytes (h + at) size count) (range_with_len first (length xs)) ≡ flat_map g xs
pieces_are f g P size at count long cut bytes head [] h first all is here = refl
pieces_are f g P size at count long cut bytes head (x ∷ xs) h first all is here =
    let rest = flat_map f xs in
    let has = All-head P x xs all in
    let place : h + at + first * size ≡ length head + at = omega (arith, here) in
    let one : piece_from bytes (h + at) size count first ≡ g x =
    ap (λ n. take count (drop n bytes)) place ∙ ap (λ (l : List ℕ). take count (drop (length head + at) l)) is ∙ ap (take count) (drop-append-add head (f x ++ rest) at) ∙ cut x rest has in
    let more : (first + 1) * size ≡ first * size + size = omega arith in
    ap₂ ◌++◌ one (pieces_are f g P size at count long cut bytes (head ++ f x) xs h (first + 1) (All-tail P x xs all) (is ∙ sym (append_assoc head (f x) rest)) (omega (arith, here, length-append head (f x), long x has, more)))

-- the groups of rows that columns admit
abbrev pub IsGroupOf : List Column → List (List Value) → Type 0
IsGroupOf columns group = IsGroup (group_under columns group)

are_groups : (columns : List Column) (groups : List (List (List Value))) → All HasSize groups → All (Admits columns) groups → All (IsGroupOf columns) groups
are_groups columns [] sized admitted = All-nil (IsGroupOf columns)
are_groups columns (group ∷ groups) sized admitted =
    let size = All-head HasSize group groups sized in
    All-cons (IsGroupOf columns) group groups (record { nonempty = size.0; within_limit = size.1; admitted = All-head (Admits columns) group groups admitted })
    (are_groups columns groups (All-tail HasSize group groups sized) (All-tail (Admits columns) group groups admitted))

pub groups_admitted : (columns : List Column) (rows : List (List Value)) → list_all (admits_values columns) rows ≡ true → All (IsGroupOf columns) (groups_of rows)
groups_admitted columns rows admitted =
    are_groups columns (groups_of rows) (groups_of-sizes rows) (each_admitted columns (groups_of rows) (ap (list_all (admits_values columns)) (groups_of-table rows) ∙ admitted))

-- the blocks of a column among a table's segments
module _ (layout : Layout) (columns : List Column) (rows : List (List Value)) (admitted : list_all (admits_values columns) rows ≡ true) (column : ℕ) (there : column < length columns) where
  cut_of : (group : List (List Value)) (rest : List ℕ) → IsGroupOf columns group
      → take (block_size layout columns column) (drop (bytes_before layout columns column) (segment_bytes layout columns group ++ rest)) ≡ block_bytes (form_of layout) columns column group
  cut_of group rest is =
      let text = segment_bytes layout columns group in
      let long : length text ≡ segment_size layout columns = length-text (form_of layout) (is_packing layout) (group_under columns group) is in
      let within = before_in_order (form_of layout) columns (suc column) (length columns) (omega arith) in
      piece_kept (block_size layout columns column) (bytes_before layout columns column) text rest (omega (arith, long, within))
      ∙ block_of_text (form_of layout) (is_packing layout) (group_under columns group) is column there

  pub pieces_of_column : (head : List ℕ) (pieces : ℕ) → pieces ≡ (length rows + 511) / 512
      → flat_map (piece_from (head ++ segments_bytes layout columns rows) (length head + bytes_before layout columns column) (segment_size layout columns) (block_size layout columns column)) (range_with_len 0 pieces)
      ≡ column_blocks layout columns rows column
  unfolding segments_bytes column_blocks
  pieces_of_column head pieces is =
      ap (λ n. flat_map (piece_from (head ++ segments_bytes layout columns rows) (length head + bytes_before layout columns column) (segment_size layout columns) (block_size layout columns column)) (range_with_len 0 n)) (is ∙ sym (groups_of-count rows))
      ∙ pieces_are (segment_bytes layout columns) (block_bytes (form_of layout) columns column) (IsGroupOf columns) (segment_size layout columns) (bytes_before layout columns column) (block_size layout columns column)
      (λ group is. length-text (form_of layout) (is_packing layout) (group_under columns group) is) cut_of (head ++ segments_bytes layout columns rows) head (groups_of rows) (length head) 0 (groups_admitted columns rows admitted) refl (omega arith)

-- the blocks of a column among the segments after so many bytes
abbrev pub blocks_among : Layout → List Column → List ℕ → ℕ → ℕ → ℕ → List ℕ
blocks_among layout columns bytes head pieces column =
    flat_map (piece_from bytes (head + bytes_before layout columns column) (segment_size layout columns) (block_size layout columns column)) (range_with_len 0 pieces)

-- all columns, one after the other
pub columns_put : (layout : Layout) (schema : Schema) (rows : List (List Value)) (bytes head file : List ℕ) (pieces : ℕ) → AreRows schema.columns.items rows → bytes ≡ file_bytes layout schema rows
    → pieces ≡ (length rows + 511) / 512 → head ≡ header_bytes ByColumns 2 layout schema.name schema.columns.items (length rows)
    → file ≡ head ++ flat_map (blocks_among layout schema.columns.items bytes (length head) pieces) (range_with_len 0 (length schema.columns.items))
    → file ≡ columnar_bytes layout schema rows
unfolding bytes_of_version columnar_bytes
columns_put layout schema rows bytes head file pieces are text count is put =
    let columns = schema.columns.items in
    let first = header_bytes ByRows (version_for columns) layout schema.name columns (length rows) in
    let long : length head ≡ length first = ap length is ∙ length-header ByColumns 2 (version_for columns) layout schema.name columns (length rows) (length rows) in
    put ∙ ap₂ ◌++◌ is
    (same_in_range
    (blocks_among layout columns bytes (length head) pieces)
    (column_blocks layout columns rows) 0 (length columns) (λ column from to.
    ap₂ (λ (l : List ℕ) (n : ℕ). blocks_among layout columns l n pieces column) text long
    ∙ pieces_of_column layout columns rows are.admitted column (omega (arith, to)) first pieces count))
