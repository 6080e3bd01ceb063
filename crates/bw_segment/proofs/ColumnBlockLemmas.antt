-- Blocks that are kept column by column, put together to segments.
use Rattle.std.proofs.Common.{◌≡◌, ◌≢◌, ◌∙◌, refl, sym, ap, ap₂, subst, ℕ, ◌+◌, ◌-◌, ◌*◌, ◌<◌, ◌≤◌}
use Rattle.std.proofs.Common.{true, ◌&&◌, leb, ltb, List, [], ◌∷◌, ◌++◌, flat_map, map, set, get_or}
use Rattle.std.proofs.Common.{length, take, drop, slice_range, length-append, length-drop}
use Rattle.std.proofs.Common.{length-take, length-set, inl, inr, arith}
use Rattle.std.specs.List.{range_with_len}
use Rattle.std.specs.Str.{bytes_eq}
use Rattle.std.proofs.lemmas.Bool.{and_from, and_parts, cases_eq, cases_lt, le-leb, leb-true, lt-ltb}
use Rattle.std.proofs.lemmas.Bool.Decides.{Decides-ltb}
use Rattle.std.proofs.lemmas.List.{get_or-map, get_or-set_other, get_or-set_same, length-map}
use Rattle.std.proofs.lemmas.List.{map-append, map-set, take_all}
use Rattle.std.proofs.lemmas.List.FromFn.{get_or-map-range_with_len, length-map-range_with_len}
use Rattle.std.proofs.lemmas.List.FromFn.{map-range_with_len_more}
use Rattle.std.proofs.Math.Seq.{map-set_same}
use Rattle.std.proofs.lemmas.Nat.{mul-le}
use Rattle.std.proofs.lemmas.Slice.Eq.{bytes_eq-Decides}
use Rattle.bw_model.specs.declared.column.Column.{Column}
use Rattle.bw_segment.specs.declared.column_blocks.ColumnBlocks.{ColumnBlocks}
use Rattle.bw_segment.specs.ColumnBlocks.{AreBlank, HasBlocks, StoresBlocks, block_numbered}
use Rattle.bw_segment.specs.ColumnBlocks.{block_start, bytes_kept, segment_numbered, size_kept}
use Rattle.bw_segment.specs.ColumnBlocks.{stands_numbered, stride_kept}
use Rattle.bw_segment.specs.Packing.{Packing, IsPacking, block_at, block_bytes, block_size}
use Rattle.bw_segment.specs.Packing.{bytes_before, segment_size}
use Rattle.bw_segment.proofs.BlankLemmas.{length-blank}
use Rattle.bw_segment.proofs.LayoutLemmas.{block_of_joined, cuts_are_all, length-blocks, piece_kept}
use Rattle.bw_segment.proofs.LayoutLemmas.{piece_last}
use Rattle.bw_segment.proofs.PackedLemmas.{slice_is_block}
use Rattle.bw_segment.proofs.SoundLemmas.{same_in_range}

-- the bytes of one column, and no bytes
abbrev items : ColumnBlocks → List ℕ
items blocks = blocks.bytes.items

abbrev pub no_bytes : ℕ → List ℕ
no_bytes col = []

-- what is mapped of columns, if one is put after them
pub mapped_more : {A : Type 0} (f : ColumnBlocks → A) (g : ℕ → A) (old now : List ColumnBlocks) (new : ColumnBlocks) (col : ℕ) → now ≡ old ++ new ∷ [] → map f old ≡ map g (range_with_len 0 col) → f new ≡ g col
    → map f now ≡ map g (range_with_len 0 (col + 1))
mapped_more {A = A} f g old now new col items so_far here =
    ap (map f) items ∙ map-append f old (new ∷ []) ∙ ap₂ (λ (l : List A) (x : A). l ++ x ∷ []) so_far here ∙ sym (map-range_with_len_more g 0 col col (omega arith))

-- columns that have the block of no rows
pub are_blank : (packing : Packing) (columns : List Column) (kept : List ColumnBlocks) (count : ℕ) → count ≡ length columns
    → map (λ (blocks : ColumnBlocks). blocks.size) kept ≡ map (block_size packing columns) (range_with_len 0 count)
    → map (λ (blocks : ColumnBlocks). blocks.stride) kept ≡ map (λ (column : ℕ). 0) (range_with_len 0 count)
    → map items kept ≡ map (λ column. block_bytes packing columns column []) (range_with_len 0 count) → AreBlank packing columns kept
are_blank packing columns kept count all sizes strides bytes = record {
  all = sym (length-map kept items) ∙ ap length bytes ∙ length-map-range_with_len (λ column. block_bytes packing columns column []) 0 count ∙ all;
  sizes = λ col lt. ap (λ (l : List ℕ). get_or l col 0) sizes ∙ get_or-map-range_with_len (block_size packing columns) 0 count col col 0 (omega arith) (omega arith);
  strides = λ col lt. ap (λ (l : List ℕ). get_or l col 0) strides ∙ get_or-map-range_with_len (λ (column : ℕ). 0) 0 count col col 0 (omega arith) (omega arith);
  bytes = λ col lt. ap (λ (l : List (List ℕ)). get_or l col []) bytes ∙ get_or-map-range_with_len (λ column. block_bytes packing columns column []) 0 count col col [] (omega arith) (omega arith);
}

-- columns without a block
pub none_kept : (packing : Packing) (columns : List Column) (kept : List ColumnBlocks) (count : ℕ) → count ≡ length columns
    → map (λ (blocks : ColumnBlocks). blocks.size) kept ≡ map (block_size packing columns) (range_with_len 0 count)
    → map (λ (blocks : ColumnBlocks). blocks.stride) kept ≡ map (block_size packing columns) (range_with_len 0 count)
    → map items kept ≡ map no_bytes (range_with_len 0 count) → StoresBlocks packing columns 0 kept
none_kept packing columns kept count all sizes strides none = record {
  all = sym (length-map kept items) ∙ ap length none ∙ length-map-range_with_len no_bytes 0 count ∙ all;
  sizes = λ col lt. ap (λ (l : List ℕ). get_or l col 0) sizes ∙ get_or-map-range_with_len (block_size packing columns) 0 count col col 0 (omega arith) (omega arith);
  strides = λ col lt. ap (λ (l : List ℕ). get_or l col 0) strides ∙ get_or-map-range_with_len (block_size packing columns) 0 count col col 0 (omega arith) (omega arith);
  long = λ col lt.
      let bytes : bytes_kept kept col ≡ [] = ap (λ (l : List (List ℕ)). get_or l col []) none ∙ get_or-map-range_with_len no_bytes 0 count col col [] (omega arith) (omega arith) in
      omega (arith, ap length bytes);
}

-- what is read of a column
pub size_read : (kept : List ColumnBlocks) (col : ℕ) (d : ColumnBlocks) → col < length kept → size_kept kept col ≡ (get_or kept col d).size
size_read kept col d lt = get_or-map (λ (blocks : ColumnBlocks). blocks.size) kept col d 0 lt

pub stride_read : (kept : List ColumnBlocks) (col : ℕ) (d : ColumnBlocks) → col < length kept → stride_kept kept col ≡ (get_or kept col d).stride
stride_read kept col d lt = get_or-map (λ (blocks : ColumnBlocks). blocks.stride) kept col d 0 lt

pub bytes_read : (kept : List ColumnBlocks) (col : ℕ) (d : ColumnBlocks) → col < length kept → bytes_kept kept col ≡ (get_or kept col d).bytes.items
bytes_read kept col d lt = get_or-map (λ (blocks : ColumnBlocks). blocks.bytes.items) kept col d [] lt

-- a block that is at its place
module _ (kept : List ColumnBlocks) (number col start end : ℕ) (stands : stands_numbered kept number col start end ≡ true) where
  abbrev place : ℕ
  place = block_start kept number col

  tests : (ltb col (length kept) && leb (place + size_kept kept col) (length (bytes_kept kept col)) && bytes_eq (slice_range (segment_numbered kept number) start end) (block_numbered kept number col)) ≡ true
  unfolding stands_numbered
  tests = stands

  first_tests : (ltb col (length kept) && leb (place + size_kept kept col) (length (bytes_kept kept col))) ≡ true
  first_tests = (and_parts _ _ tests).0

  pub is_column : col < length kept
  is_column = (Decides-ltb col (length kept)).0 (and_parts _ _ first_tests).0

  has_room : place + size_kept kept col ≤ length (bytes_kept kept col)
  has_room = leb-true _ _ (and_parts _ _ first_tests).1

  is_there : block_numbered kept number col ≡ slice_range (segment_numbered kept number) start end
  is_there = sym ((bytes_eq-Decides _ _).0 (and_parts _ _ tests).1)

  -- by what is read of the column
  module _ (d : ColumnBlocks) where
    abbrev blocks : ColumnBlocks
    blocks = get_or kept col d

    pub room_read : number * blocks.stride + blocks.size ≤ length blocks.bytes.items
    room_read =
        let size = size_read kept col d is_column in
        omega (arith, has_room, ap (λ n. number * n) (stride_read kept col d is_column), size, ap length (bytes_read kept col d is_column))

    pub block_read : slice_range blocks.bytes.items (number * blocks.stride) (number * blocks.stride + blocks.size) ≡ slice_range (segment_numbered kept number) start end
    unfolding block_numbered
    block_read =
        ap₂ (λ (l : List ℕ) (size : ℕ). slice_range l (number * blocks.stride) (number * blocks.stride + size)) (sym (bytes_read kept col d is_column)) (sym (size_read kept col d is_column))
        ∙ ap (λ (stride : ℕ). slice_range (bytes_kept kept col) (number * stride) (number * stride + size_kept kept col)) (sym (stride_read kept col d is_column)) ∙ is_there

-- one block for all segments
module _ (packing : Packing) (law : IsPacking packing) (columns : List Column) (kept : List ColumnBlocks) (blank : AreBlank packing columns kept) where
  pub blank_has : (count : ℕ) → HasBlocks packing columns count kept
  blank_has count = record {
    all = blank.all;
    sizes = blank.sizes;
    room = λ col lt number there.
        omega (arith, ap (λ n. number * n) (blank.strides col lt), ap length (blank.bytes col lt), length-blank packing law columns col lt);
  }

  pub blank_numbered : (number col : ℕ) → col < length columns → block_numbered kept number col ≡ block_bytes packing columns col []
  unfolding block_numbered
  blank_numbered number col lt =
      let block = block_bytes packing columns col [] in
      let none : block_start kept number col ≡ 0 = omega (arith, ap (λ n. number * n) (blank.strides col lt)) in
      ap₂ (λ (l : List ℕ) (n : ℕ). slice_range l n (n + size_kept kept col)) (blank.bytes col lt) none
      ∙ take_all (0 + size_kept kept col - 0) block (omega (arith, blank.sizes col lt, length-blank packing law columns col lt))

-- a column that is put in place of another
module _ (old : List ColumnBlocks) (col : ℕ) (new : ColumnBlocks) (there : col < length old) where
  put_other : {A : Type 0} (f : ColumnBlocks → A) (d : A) (other : ℕ) → other ≢ col → get_or (map f (set old col new)) other d ≡ get_or (map f old) other d
  put_other {A = A} f d other not = ap (λ (l : List A). get_or l other d) (map-set f old col new) ∙ get_or-set_other (map f old) col other (f new) d not

  put_same : {A : Type 0} (f : ColumnBlocks → A) (d : A) → get_or (map f (set old col new)) col d ≡ f new
  put_same {A = A} f d = ap (λ (l : List A). get_or l col d) (map-set f old col new) ∙ get_or-set_same (map f old) col (f new) d (omega (arith, length-map old f, there))

  pub block_of_other : (number other : ℕ) → other ≢ col → block_numbered (set old col new) number other ≡ block_numbered old number other
  unfolding block_numbered
  block_of_other number other not =
      ap₂ (λ (stride size : ℕ). slice_range (bytes_kept (set old col new) other) (number * stride) (number * stride + size)) (put_other (λ (b : ColumnBlocks). b.stride) 0 other not) (put_other (λ (b : ColumnBlocks). b.size) 0 other not)
      ∙ ap (λ (l : List ℕ). slice_range l (block_start old number other) (block_start old number other + size_kept old other)) (put_other items [] other not)

  pub block_of_same : (number : ℕ) → block_numbered (set old col new) number col ≡ slice_range new.bytes.items (number * new.stride) (number * new.stride + new.size)
  unfolding block_numbered
  block_of_same number =
      ap₂ (λ (stride size : ℕ). slice_range (bytes_kept (set old col new) col) (number * stride) (number * stride + size)) (put_same (λ (b : ColumnBlocks). b.stride) 0) (put_same (λ (b : ColumnBlocks). b.size) 0)
      ∙ ap (λ (l : List ℕ). slice_range l (number * new.stride) (number * new.stride + new.size)) (put_same items [])

  pub has_put : (packing : Packing) (columns : List Column) (count : ℕ) → HasBlocks packing columns count old → col < length columns → new.size ≡ block_size packing columns col → new.stride ≡ new.size
      → length new.bytes.items ≡ count * new.size → HasBlocks packing columns count (set old col new)
  has_put packing columns count keep lt size stride long = record {
    all = length-set old col new ∙ keep.all;
    sizes = λ other here. elim (cases_eq other col) [
      | inl same ↦ rw same (put_same (λ (b : ColumnBlocks). b.size) 0 ∙ size)
      | inr not ↦ put_other (λ (b : ColumnBlocks). b.size) 0 other not ∙ keep.sizes other here
    ];
    room = λ other here number below. elim (cases_eq other col) [
      | inl same ↦ rw same (
          let le = mul-le (number + 1) new.size count new.size (omega arith) (omega arith) in
          let more : (number + 1) * new.size ≡ number * new.size + new.size = omega arith in
          omega (arith, ap (λ n. number * n) (put_same (λ (b : ColumnBlocks). b.stride) 0 ∙ stride), ap length (put_same items []), size, long, le, more))
      | inr not ↦ omega (arith, ap (λ n. number * n) (put_other (λ (b : ColumnBlocks). b.stride) 0 other not), ap length (put_other items [] other not), keep.room other here number below)
    ];
  }

-- blocks that are back to back
pub stored_has : (packing : Packing) (columns : List Column) (count : ℕ) (kept : List ColumnBlocks) → StoresBlocks packing columns count kept → HasBlocks packing columns count kept
stored_has packing columns count kept keep = record {
  all = keep.all;
  sizes = keep.sizes;
  room = λ col lt number there.
      let size = block_size packing columns col in
      let le = mul-le (number + 1) size count size (omega arith) (omega arith) in
      let more : (number + 1) * size ≡ number * size + size = omega arith in
      omega (arith, ap (λ n. number * n) (keep.strides col lt), keep.long col lt, le, more);
}

-- the segment of a number among this many
module _ (packing : Packing) (columns : List Column) (count : ℕ) (kept : List ColumnBlocks) (keep : HasBlocks packing columns count kept) (number : ℕ) (there : number < count) where
  abbrev block : ℕ → List ℕ
  block = block_numbered kept number

  room : (col : ℕ) → col < length columns → block_start kept number col + size_kept kept col ≤ length (bytes_kept kept col)
  room col lt = omega (arith, keep.sizes col lt, keep.room col lt number there)

  length-block : (col : ℕ) → col < length columns → length (block col) ≡ block_size packing columns col
  unfolding block_numbered
  length-block col lt =
      let start = block_start kept number col in
      let size = size_kept kept col in
      let rest = drop start (bytes_kept kept col) in
      omega (arith, room col lt, keep.sizes col lt, length-drop start (bytes_kept kept col), length-take (start + size - start) rest)

  in_columns : segment_numbered kept number ≡ flat_map block (range_with_len 0 (length columns))
  unfolding segment_numbered
  in_columns = ap (λ n. flat_map block (range_with_len 0 n)) keep.all

  pub block_of_segment : (col : ℕ) → col < length columns → block_at packing columns col (segment_numbered kept number) ≡ block col
  block_of_segment col lt = ap (block_at packing columns col) in_columns ∙ block_of_joined packing columns block length-block col lt

  pub length-segment : length (segment_numbered kept number) ≡ segment_size packing columns
  length-segment = ap length in_columns ∙ length-blocks packing columns block length-block

  pub stands : (col : ℕ) → col < length columns → stands_numbered kept number col (bytes_before packing columns col) (bytes_before packing columns (col + 1)) ≡ true
  unfolding stands_numbered
  stands col lt =
      let there : col < length kept = omega (arith, keep.all) in
      and_from _ _ (and_from _ _ (lt-ltb _ _ there) (le-leb _ _ (room col lt)))
      ((bytes_eq-Decides _ _).1 (slice_is_block packing columns (segment_numbered kept number) col ∙ block_of_segment col lt))

-- Each of the first columns, this many, has a block more than before, and the others are as they
-- were.
pub record HaveMore (old new : List ColumnBlocks) (block : ℕ → List ℕ) (count : ℕ) : Type 0 where
  pub all : length new ≡ length old
  pub sizes : (col : ℕ) → size_kept new col ≡ size_kept old col
  pub strides : (col : ℕ) → stride_kept new col ≡ stride_kept old col
  pub more : (col : ℕ) → col < count → bytes_kept new col ≡ bytes_kept old col ++ block col
  pub rest : (col : ℕ) → count ≤ col → bytes_kept new col ≡ bytes_kept old col

pub none_more : (kept : List ColumnBlocks) (block : ℕ → List ℕ) → HaveMore kept kept block 0
none_more kept block = record { all = refl; sizes = λ col. refl; strides = λ col. refl; more = λ col lt. absurd (omega arith); rest = λ col le. refl }

pub one_more : (old now : List ColumnBlocks) (block : ℕ → List ℕ) (col : ℕ) (new d : ColumnBlocks) → HaveMore old now block col → col < length now
    → new.size ≡ (get_or now col d).size → new.stride ≡ (get_or now col d).stride → new.bytes.items ≡ (get_or now col d).bytes.items ++ block col → HaveMore old (set now col new) block (col + 1)
one_more old now block col new d so_far there size stride bytes = record {
  all = length-set now col new ∙ so_far.all;
  sizes = λ other. ap (λ (l : List ℕ). get_or l other 0) (map-set_same (λ (b : ColumnBlocks). b.size) now col new d size) ∙ so_far.sizes other;
  strides = λ other. ap (λ (l : List ℕ). get_or l other 0) (map-set_same (λ (b : ColumnBlocks). b.stride) now col new d stride) ∙ so_far.strides other;
  more = λ other lt. elim (cases_lt other col) [
    | inl before ↦ untouched other (omega arith) ∙ so_far.more other before
    | inr not_before ↦
        ap (λ k. bytes_kept (set now col new) k) {x = other} {y = col} (omega arith) ∙ touched ∙ ap (λ (l : List ℕ). l ++ block col) (so_far.rest col (omega arith))
        ∙ ap (λ k. bytes_kept old k ++ block k) {x = col} {y = other} (omega arith)
  ];
  rest = λ other le. untouched other (omega arith) ∙ so_far.rest other (omega arith);
}
  where
    mapped : map items (set now col new) ≡ set (map items now) col new.bytes.items
    mapped = map-set items now col new

    untouched : (other : ℕ) → other ≢ col → bytes_kept (set now col new) other ≡ bytes_kept now other
    untouched other not = ap (λ (l : List (List ℕ)). get_or l other []) mapped ∙ get_or-set_other (map items now) col other new.bytes.items [] not

    touched : bytes_kept (set now col new) col ≡ bytes_kept now col ++ block col
    touched =
        ap (λ (l : List (List ℕ)). get_or l col []) mapped ∙ get_or-set_same (map items now) col new.bytes.items [] (omega (arith, length-map now items, there)) ∙ bytes
        ∙ ap (λ (l : List ℕ). l ++ block col) (sym (bytes_read now col d there))

pub all_more : (old new : List ColumnBlocks) (block : ℕ → List ℕ) (most count : ℕ) → most ≡ count → HaveMore old new block most → HaveMore old new block count
all_more old new block most count same more = subst (HaveMore old new block) same more

-- a segment more
module _ (packing : Packing) (columns : List Column) (count : ℕ) (old new : List ColumnBlocks) (bytes : List ℕ) (keep : StoresBlocks packing columns count old)
    (long : length bytes ≡ segment_size packing columns) (length-at : (col : ℕ) → col < length columns → length (block_at packing columns col bytes) ≡ block_size packing columns col)
    (more : HaveMore old new (λ col. block_at packing columns col bytes) (length columns)) where
  pub keep_more : StoresBlocks packing columns (count + 1) new
  keep_more = record {
    all = more.all ∙ keep.all;
    sizes = λ col lt. more.sizes col ∙ keep.sizes col lt;
    strides = λ col lt. more.strides col ∙ keep.strides col lt;
    long = λ col lt.
        let size = block_size packing columns col in
        let next : (count + 1) * size ≡ count * size + size = omega arith in
        omega (arith, ap length (more.more col lt), length-append (bytes_kept old col) (block_at packing columns col bytes), keep.long col lt, length-at col lt, next);
  }

  start_is : (number col : ℕ) → col < length columns → block_start new number col ≡ number * block_size packing columns col
  start_is number col lt = ap (λ n. number * n) (more.strides col ∙ keep.strides col lt)

  cut_is : (number col : ℕ) → col < length columns
      → block_numbered new number col ≡ take (block_size packing columns col) (drop (number * block_size packing columns col) (bytes_kept old col ++ block_at packing columns col bytes))
  unfolding block_numbered
  cut_is number col lt =
      let start = start_is number col lt in
      let size = more.sizes col ∙ keep.sizes col lt in
      ap₂ (λ n l. take n l) {x = block_start new number col + size_kept new col - block_start new number col} {y = block_size packing columns col} (omega (arith, size))
      (ap₂ (λ n (l : List ℕ). drop n l) start (more.more col lt))

  old_cut_is : (number col : ℕ) → col < length columns → block_numbered old number col ≡ take (block_size packing columns col) (drop (number * block_size packing columns col) (bytes_kept old col))
  unfolding block_numbered
  old_cut_is number col lt =
      let size = keep.sizes col lt in
      ap₂ (λ n l. take n l) {x = block_start old number col + size_kept old col - block_start old number col} {y = block_size packing columns col} (omega (arith, size))
      (ap (λ n. drop (number * n) (bytes_kept old col)) (keep.strides col lt))

  pub last_segment : segment_numbered new count ≡ bytes
  unfolding segment_numbered
  last_segment =
      ap (λ n. flat_map (block_numbered new count) (range_with_len 0 n)) (more.all ∙ keep.all)
      ∙ same_in_range (block_numbered new count) (λ col. block_at packing columns col bytes) 0 (length columns) (λ col from to.
      let lt : col < length columns = omega (arith, to) in
      cut_is count col lt ∙ piece_last (block_size packing columns col) (count * block_size packing columns col) (bytes_kept old col) (block_at packing columns col bytes) (keep.long col lt) (length-at col lt))
      ∙ cuts_are_all packing columns bytes long

  pub other_segment : (number : ℕ) → number < count → segment_numbered new number ≡ segment_numbered old number
  unfolding segment_numbered
  other_segment number there =
      ap (λ n. flat_map (block_numbered new number) (range_with_len 0 n)) more.all
      ∙ same_in_range (block_numbered new number) (block_numbered old number) 0 (length old) (λ col from to.
      let lt : col < length columns = omega (arith, to, keep.all) in
      let size = block_size packing columns col in
      let le = mul-le (number + 1) size count size (omega arith) (omega arith) in
      let next : (number + 1) * size ≡ number * size + size = omega arith in
      cut_is number col lt ∙ piece_kept size (number * size) (bytes_kept old col) (block_at packing columns col bytes) (omega (arith, keep.long col lt, le, next)) ∙ sym (old_cut_is number col lt))
