-- The bytes of a table, row by row.
use Rattle.std.proofs.Common.{◌≡◌, ℕ, zero, suc, ◌+◌, ◌*◌, ◌<◌, ◌≤◌, ◌&&◌, true, not, List, [], ◌∷◌}
use Rattle.std.proofs.Common.{◌++◌, length, take, drop, nat_le, append_assoc, length-append}
use Rattle.std.proofs.Common.{length-drop, refl, sym, ap, ap₂, ◌∙◌, arith, mul-suc, flat_map}
use Rattle.std.proofs.lemmas.Bool.{leb-true, and_parts}
use Rattle.std.proofs.lemmas.List.{append-nil, nil_from_length, take_all, drop_all, take-append-le}
use Rattle.std.proofs.lemmas.List.{drop-append-le, flat_map_more}
use Rattle.std.specs.Int.{w32, to_le_bytes}
use Rattle.std.proofs.lemmas.List.Folds.{list_all-append}
use Rattle.bw_model.specs.Column.{admits_values}
use Rattle.bw_model.specs.Limits.{most_rows}
use Rattle.bw_model.specs.declared.column.Column.{Column}
use Rattle.bw_model.specs.Groups.{group_size, groups_of}
use Rattle.bw_model.specs.Row.{Value}
use Rattle.bw_model.proofs.GroupLemmas.{groups_of-nothing, groups_of-first}
use Rattle.bw_file.specs.declared.encoder.Encoder.{Encoder}
use Rattle.bw_file.specs.Encoder.{Holds, IsAsBefore}
use Rattle.bw_file.specs.declared.layout.Layout.{Layout}
use Rattle.bw_file.specs.declared.order.FileOrder.{FileOrder}
use Rattle.bw_file.specs.declared.order.FileOrder.TheVariants.{ByRows, ByColumns}
use Rattle.bw_file.specs.Blocks.{segment_bytes}
use Rattle.bw_file.specs.FileBytes.{AreRows, magic, front_bytes, header_bytes, segments_bytes}
use Rattle.bw_file.specs.FileBytes.{bytes_of_version, file_bytes, version_for}
use Rattle.bw_model.specs.Name.{is_name}
use Rattle.bw_text.specs.Keyword.{is_reserved}
use Rattle.bw_text.specs.Text.{is_word}

-- a name has at most 63 bytes
pub short_name : (text : List ℕ) → is_name text ≡ true → length text ≤ 63
unfolding is_name
short_name text e = leb-true (length text) 63 (and_parts (is_word text) (nat_le (length text) 63) (and_parts (is_word text && nat_le (length text) 63) (not (is_reserved text)) e).0).1

-- parts that were added one after another
pub front_added : (b0 b1 b2 b3 b4 b5 magic columns rows : List ℕ) (version layout : ℕ) → b1 ≡ b0 ++ magic → b2 ≡ b1 ++ version ∷ [] → b3 ≡ b2 ++ layout ∷ []
    → b4 ≡ b3 ++ columns → b5 ≡ b4 ++ rows → b5 ≡ b0 ++ (magic ++ (version ∷ layout ∷ []) ++ columns ++ rows)
front_added b0 b1 b2 b3 b4 b5 magic columns rows version layout e1 e2 e3 e4 e5 = rw (e5, e4, e3, e2, e1) (simp append_assoc)

pub column_added : (b0 b1 b2 b3 b4 name lo hi : List ℕ) (flag : ℕ) → b1 ≡ b0 ++ name → b2 ≡ b1 ++ lo → b3 ≡ b2 ++ hi → b4 ≡ b3 ++ flag ∷ []
    → b4 ≡ b0 ++ (name ++ (lo ++ hi) ++ flag ∷ [])
column_added b0 b1 b2 b3 b4 name lo hi flag e1 e2 e3 e4 = rw (e4, e3, e2, e1) (simp append_assoc)

pub three_added : (b0 b1 b2 b3 front name columns : List ℕ) → b1 ≡ b0 ++ front → b2 ≡ b1 ++ name → b3 ≡ b2 ++ columns → b3 ≡ b0 ++ (front ++ name ++ columns)
three_added b0 b1 b2 b3 front name columns e1 e2 e3 = rw (e3, e2, e1) (simp append_assoc)

some_before : (before : List (List Value)) → group_size ≤ length before → 0 < length before
unfolding group_size
some_before before full = omega arith

-- whole groups, and then some rows that are at most one
pub groups_more : (count : ℕ) (before group : List (List Value)) → length before ≡ group_size * count → 1 ≤ length group → length group ≤ group_size
    → groups_of (before ++ group) ≡ groups_of before ++ group ∷ []
groups_more zero before group whole some few =
    let none : before ≡ [] = nil_from_length before (omega (arith, whole)) in
    let first = groups_of-first group some in
    let all : take group_size group ≡ group = take_all group_size group few in
    let rest : drop group_size group ≡ [] = drop_all group_size group few in
    rw (none, groups_of-nothing {A = List Value}) (first ∙ rw (all, rest, groups_of-nothing {A = List Value}) refl)
groups_more (suc count) before group whole some few =
    let long : group_size * suc count ≡ group_size * count + group_size = mul-suc group_size count in
    let full : group_size ≤ length before = omega (arith, whole, long) in
    let first = groups_of-first (before ++ group) (simp length-append (omega (arith, some))) in
    let front : take group_size (before ++ group) ≡ take group_size before = take-append-le group_size before group full in
    let back : drop group_size (before ++ group) ≡ drop group_size before ++ group = drop-append-le group_size before group full in
    let left : length (drop group_size before) ≡ group_size * count = simp length-drop (omega (arith, whole, long)) in
    let more = groups_more count (drop group_size before) group left some few in
    let own = groups_of-first before (some_before before full) in
    first ∙ rw (front, back, more, own) refl

-- the text of such rows
pub segments_more : (layout : Layout) (columns : List Column) (count : ℕ) (head : List ℕ) (before group : List (List Value)) → length before ≡ group_size * count
    → 1 ≤ length group → length group ≤ group_size
    → (head ++ segments_bytes layout columns before) ++ segment_bytes layout columns group ≡ head ++ segments_bytes layout columns (before ++ group)
unfolding segments_bytes
segments_more layout columns count head before group whole some few =
    flat_map_more (segment_bytes layout columns) head (groups_of before) group
    ∙ ap (λ (groups : List (List (List Value))). head ++ flat_map (segment_bytes layout columns) groups) (sym (groups_more count before group whole some few))

-- so the number of rows is put into a header
pub rows_put : (order : FileOrder) (version : ℕ) (layout : Layout) (name : List ℕ) (columns : List Column) (rows : ℕ) (rest : List ℕ)
    → take 12 (header_bytes order version layout name columns 0 ++ rest) ++ to_le_bytes w32 rows ++ drop 16 (header_bytes order version layout name columns 0 ++ rest)
    ≡ header_bytes order version layout name columns rows ++ rest
unfolding header_bytes front_bytes magic
rows_put ByRows version layout name columns rows rest = refl
rows_put ByColumns version layout name columns rows rest = refl

-- the text with the group that an encoder kept
pub bytes_flushed : (encoder : Encoder) (rows : List (List Value)) (bytes : List ℕ) → 0 < encoder.filled → (holds : Holds encoder rows)
    → bytes ≡ encoder.bytes.items ++ segment_bytes encoder.layout encoder.placement.schema.columns.items holds.group
    → bytes ≡ header_bytes ByRows (version_for encoder.placement.schema.columns.items) encoder.layout encoder.placement.schema.name encoder.placement.schema.columns.items 0
    ++ segments_bytes encoder.layout encoder.placement.schema.columns.items rows
unfolding group_size
bytes_flushed encoder rows bytes some holds added =
    let columns = encoder.placement.schema.columns.items in
    let head = header_bytes ByRows (version_for columns) encoder.layout encoder.placement.schema.name columns 0 in
    let size = holds.filled in
    added ∙ ap (λ (front : List ℕ). front ++ segment_bytes encoder.layout columns holds.group) holds.text
    ∙ segments_more encoder.layout columns holds.groups head holds.before holds.group holds.whole (omega (arith, size)) (omega (arith, size, encoder.within_limit))
    ∙ ap (λ (all : List (List Value)). head ++ segments_bytes encoder.layout columns all) (sym holds.parts)

-- how many rows an encoder was given, if its group is whole
pub whole_flushed : (encoder : Encoder) (rows : List (List Value)) → encoder.filled ≡ 512 → (holds : Holds encoder rows) → length rows ≡ group_size * suc holds.groups
unfolding group_size
whole_flushed encoder rows full holds =
    ap length holds.parts ∙ simp length-append (omega (arith, holds.filled, holds.whole))

-- a row more is admitted
pub admitted_more : (columns : List Column) (rows : List (List Value)) (row : List Value) → AreRows columns rows → length rows < most_rows → admits_values columns row ≡ true
    → AreRows columns (rows ++ row ∷ [])
admitted_more columns rows row are lt admitted = record {
  within_limit = omega (arith, length-append rows (row ∷ []));
  admitted = list_all-append (admits_values columns) rows (row ∷ []) ∙ ap₂ ◌&&◌ are.admitted (ap (λ b. b && true) admitted);
}

-- a header takes sixteen bytes at least
pub header_long : (order : FileOrder) (version : ℕ) (layout : Layout) (name : List ℕ) (columns : List Column) (rows : ℕ) → 16 ≤ length (header_bytes order version layout name columns rows)
unfolding header_bytes front_bytes magic
header_long ByRows version layout name columns rows = omega arith
header_long ByColumns version layout name columns rows = omega arith

-- no rows have no text
pub segments_none : (layout : Layout) (columns : List Column) (head : List ℕ) → head ≡ head ++ segments_bytes layout columns []
unfolding segments_bytes
segments_none layout columns head = rw (groups_of-nothing {A = List Value}) (sym (append-nil head))

-- the bytes of a table whose rows are all in them, once their number is
pub bytes_finished : (encoder : Encoder) (rows : List (List Value)) (bytes text : List ℕ) (count : ℕ)
    → bytes ≡ header_bytes ByRows (version_for encoder.placement.schema.columns.items) encoder.layout encoder.placement.schema.name encoder.placement.schema.columns.items 0
    ++ segments_bytes encoder.layout encoder.placement.schema.columns.items rows
    → count ≡ length rows → text ≡ take 12 bytes ++ to_le_bytes w32 count ++ drop 16 bytes → text ≡ file_bytes encoder.layout encoder.placement.schema rows
unfolding bytes_of_version
bytes_finished encoder rows bytes text count has same put =
    let columns = encoder.placement.schema.columns.items in
    put ∙ ap (λ (front : List ℕ). take 12 front ++ to_le_bytes w32 count ++ drop 16 front) has
    ∙ rows_put ByRows (version_for columns) encoder.layout encoder.placement.schema.name columns count (segments_bytes encoder.layout columns rows)
    ∙ ap (λ (n : ℕ). header_bytes ByRows (version_for columns) encoder.layout encoder.placement.schema.name columns n ++ segments_bytes encoder.layout columns rows) same

-- an encoder that keeps no rows has them all in its text
pub bytes_held_by : (encoder : Encoder) (rows : List (List Value)) → encoder.filled ≡ 0 → (holds : Holds encoder rows)
    → encoder.bytes.items ≡ header_bytes ByRows (version_for encoder.placement.schema.columns.items) encoder.layout encoder.placement.schema.name encoder.placement.schema.columns.items 0
    ++ segments_bytes encoder.layout encoder.placement.schema.columns.items rows
bytes_held_by encoder rows none holds =
    let none_left : holds.group ≡ [] = nil_from_length holds.group (omega (arith, none, holds.filled)) in
    let all : rows ≡ holds.before = holds.parts ∙ rw none_left (append-nil holds.before) in rw all holds.text

-- an encoder that is as it was holds the rows that it held
pub held_as_before : (old new : Encoder) (rows : List (List Value)) → IsAsBefore old new → Holds old rows → Holds new rows
held_as_before old new rows same held = record {
  before = held.before;
  group = held.group;
  groups = held.groups;
  parts = held.parts;
  whole = held.whole;
  text = rw (same.layout, same.schema, same.text) held.text;
  kept = rw (same.schema, same.kept) held.kept;
  filled = held.filled ∙ sym same.filled;
  count = held.count ∙ sym same.rows;
  admitted = rw same.schema held.admitted;
}
