-- Columns of a table that are read one at a time.
use Rattle.std.proofs.Common.{◌≡◌, ◌∙◌, refl, sym, ap, ap₂, subst, ℕ, zero, suc, ◌+◌, ◌-◌, ◌*◌, ◌/◌, ◌<◌}
use Rattle.std.proofs.Common.{◌≤◌, List, [], ◌++◌, ◌∷◌, set, length, take, drop, None, Option, Some}
use Rattle.std.proofs.Common.{Result, Ok, Err}
use Rattle.std.proofs.Common.{slice_range, add-one, inl, inr, arith}
use Rattle.std.specs.Prelude.{IfSome}
use Rattle.std.proofs.lemmas.Bool.{cases_eq, cases_lt}
use Rattle.std.proofs.lemmas.List.{drop-drop, drop-take, take-take}
use Rattle.std.proofs.lemmas.Nat.{mul-le}
use Rattle.bw_model.specs.declared.column.Column.{Column}
use Rattle.bw_model.specs.declared.fault.Fault.{Fault}
use Rattle.bw_model.specs.Fault.{at_byte}
use Rattle.bw_model.specs.Groups.{group_size, groups_of, together}
use Rattle.bw_model.specs.Row.{Value}
use Rattle.bw_model.proofs.GroupLemmas.{groups_of-nothing}
use Rattle.bw_segment.specs.declared.column_blocks.ColumnBlocks.{ColumnBlocks}
use Rattle.bw_segment.specs.ColumnBlocks.{AreBlank, HasBlocks, block_numbered, segment_numbered}
use Rattle.bw_segment.proofs.BlankLemmas.{blank_is_fine}
use Rattle.bw_segment.proofs.ColumnBlockLemmas.{blank_has, blank_numbered, block_of_other, block_of_same}
use Rattle.bw_segment.proofs.ColumnBlockLemmas.{block_of_segment, has_put, length-segment}
use Rattle.bw_segment.proofs.SoundLemmas.{length-rows_spelled}
use Rattle.bw_file.specs.declared.layout.Layout.{Layout}
use Rattle.bw_file.specs.Blocks.{IsSound, block_fault, block_size, form_of}
use Rattle.bw_file.specs.TableReading.{IsTableFault, IsValidAt, fault_place}
use Rattle.bw_file.proofs.EncoderLemmas.{groups_more as groups_with}
use Rattle.bw_file.proofs.FaultLemmas.{IsOwn}
use Rattle.bw_file.proofs.MemoryAnswers.{together_more}
use Rattle.bw_file.proofs.SegmentLemmas.{is_packing}
use Rattle.bw_memory.specs.declared.table.MemoryTable.{MemoryTable}
use Rattle.bw_memory.specs.Filling.{AreBytesAt}
use Rattle.bw_memory.specs.StoredSegments.{StoresSegments, piece_of, rows_numbered, stored_group}
use Rattle.bw_memory.specs.StoredSegments.{stored_groups}
use Rattle.bw_memory.proofs.StoredSegmentLemmas.{groups_more, length-rows}

-- each block of the segment of a number is valid
abbrev pub AreValid : Layout → List Column → ℕ → ℕ → List ColumnBlocks → Type 0
AreValid layout columns rows count kept =
    (number : ℕ) → number < count → (col : ℕ) → col < length columns → block_fault layout columns col (rows_numbered rows number) (block_numbered kept number col) ≡ None

module _ (layout : Layout) (columns : List Column) (rows count : ℕ) (kept : List ColumnBlocks) (has : HasBlocks (form_of layout) columns count kept) where
  sound_from : AreValid layout columns rows count kept → (number : ℕ) → number < count → IsSound layout columns (rows_numbered rows number) (segment_numbered kept number)
  sound_from valid number there = record {
    size = length-segment (form_of layout) columns count kept has number there;
    without = λ col lt. ap (block_fault layout columns col (rows_numbered rows number)) (block_of_segment (form_of layout) columns count kept has number there col lt) ∙ valid number there col lt;
  }

  pub valid_from : ((number : ℕ) → number < count → IsSound layout columns (rows_numbered rows number) (segment_numbered kept number)) → AreValid layout columns rows count kept
  valid_from sound number there col lt =
      ap (block_fault layout columns col (rows_numbered rows number)) (sym (block_of_segment (form_of layout) columns count kept has number there col lt)) ∙ (sound number there).without col lt

  pub stores_from : rows ≤ group_size * count → ((number : ℕ) → number < count → group_size * number < rows) → AreValid layout columns rows count kept → StoresSegments layout columns rows count kept
  stores_from all nonempty valid = record { blocks = has; all = all; nonempty = nonempty; sound = sound_from valid }

-- whole groups but for the last one are the groups of their rows
pub groups_cut : (layout : Layout) (columns : List Column) (rows count : ℕ) (kept : List ColumnBlocks) → ((number : ℕ) → number < count → group_size * number < rows)
    → stored_groups layout columns rows count kept ≡ groups_of (together (stored_groups layout columns rows count kept))
unfolding stored_groups group_size
groups_cut layout columns rows zero kept some = sym (groups_of-nothing {A = List Value})
groups_cut layout columns rows (suc count) kept some =
    let before = stored_groups layout columns rows count kept in
    let group = stored_group layout columns rows kept count in
    let here = some count (omega arith) in
    let size = length-rows_spelled (form_of layout) columns (rows_numbered rows count) (segment_numbered kept count) in
    let whole : length (together before) ≡ 512 * count = omega (arith, length-rows layout columns rows count kept, here) in
    let all : stored_groups layout columns rows (suc count) kept ≡ before ++ group ∷ [] = ap (λ n. stored_groups layout columns rows n kept) (sym (add-one count)) ∙ groups_more layout columns rows count kept in
    let earlier = groups_cut layout columns rows count kept (λ number lt. some number (omega arith)) in
    all ∙ ap (λ (l : List (List (List Value))). l ++ group ∷ []) earlier
    ∙ sym (groups_with count (together before) group whole (omega (arith, size, here)) (omega (arith, size)))
    ∙ ap groups_of (sym (together_more before group)) ∙ ap (λ (l : List (List (List Value))). groups_of (together l)) (sym all)

-- columns that weren't read
module _ (layout : Layout) (columns : List Column) (rows : ℕ) (kept : List ColumnBlocks) (blank : AreBlank (form_of layout) columns kept) where
  abbrev count : ℕ
  count = (rows + 511) / 512

  in_rows : (number : ℕ) → number < (rows + 511) / 512 → group_size * number < rows
  unfolding group_size
  in_rows number lt = omega (arith, lt)

  pub unread_stored : StoresSegments layout columns rows ((rows + 511) / 512) kept
  unfolding group_size
  unread_stored =
      stores_from layout columns rows ((rows + 511) / 512) kept (blank_has (form_of layout) (is_packing layout) columns kept blank ((rows + 511) / 512)) (omega arith) in_rows
      (λ number there col lt.
      ap (block_fault layout columns col (rows_numbered rows number)) (blank_numbered (form_of layout) (is_packing layout) columns kept blank number col lt)
      ∙ blank_is_fine (form_of layout) (is_packing layout) columns col (rows_numbered rows number) lt (omega (arith, in_rows number there)) (omega arith))

  pub unread_cut : stored_groups layout columns rows ((rows + 511) / 512) kept ≡ groups_of (together (stored_groups layout columns rows ((rows + 511) / 512) kept))
  unread_cut = groups_cut layout columns rows ((rows + 511) / 512) kept in_rows

-- a column in place of another
module _ (layout : Layout) (columns : List Column) (rows count : ℕ) (old : List ColumnBlocks) (kept : StoresSegments layout columns rows count old) (col : ℕ) (new : ColumnBlocks) (there : col < length columns)
    (size : new.size ≡ block_size layout columns col) (stride : new.stride ≡ new.size) (long : length new.bytes.items ≡ count * block_size layout columns col)
    (valid : (number : ℕ) → number < count → block_fault layout columns col (rows_numbered rows number) (piece_of new.bytes.items (block_size layout columns col) number) ≡ None) where
  inside : col < length old
  inside = omega (arith, there, kept.blocks.all)

  pub replaced_column : (number : ℕ) → block_numbered (set old col new) number col ≡ piece_of new.bytes.items (block_size layout columns col) number
  replaced_column number =
      block_of_same old col new inside number
      ∙ ap₂ (λ (a b : ℕ). slice_range new.bytes.items (number * a) (number * a + b)) (stride ∙ size) size
      ∙ ap (λ n. take n (drop (number * block_size layout columns col) new.bytes.items))
      {x = number * block_size layout columns col + block_size layout columns col - number * block_size layout columns col} {y = block_size layout columns col} (omega arith)

  pub replaced_stored : StoresSegments layout columns rows count (set old col new)
  replaced_stored =
      stores_from layout columns rows count (set old col new) (has_put old col new inside (form_of layout) columns count kept.blocks there size stride (long ∙ ap (λ n. count * n) (sym size))) kept.all kept.nonempty
      (λ number here other lt. elim (cases_eq other col) [
        | inl same ↦ rw same (ap (block_fault layout columns col (rows_numbered rows number)) (replaced_column number) ∙ valid number here)
        | inr not ↦ ap (block_fault layout columns other (rows_numbered rows number)) (block_of_other old col new inside number other not) ∙ valid_from layout columns rows count old kept.blocks kept.sound number here other lt
      ])

  pub replaced_cut : stored_groups layout columns rows count (set old col new) ≡ groups_of (together (stored_groups layout columns rows count (set old col new)))
  replaced_cut = groups_cut layout columns rows count (set old col new) kept.nonempty

fault_is : (x y : Fault) → ◌≡◌ {A = Result (Unit {0}) Fault} (Err x) (Err y) → x ≡ y
fault_is x y e = cc

-- the result of validating a block tells its error
module _ (at : ℕ) (layout : Layout) (columns : List Column) (rows col : ℕ) (block : List ℕ) where
  pub is_valid : (found : Option ℕ) → IsValidAt at layout columns rows col block found (Ok tt) → found ≡ None
  is_valid None valid = refl
  is_valid (Some code) valid = absurd cc

  pub has_error : (found : Option ℕ) (fault : Fault) → IsValidAt at layout columns rows col block found (Err fault)
      → (code : ℕ) × (found ≡ Some code) × (fault ≡ at_byte code (at + fault_place layout columns rows col block code))
  has_error None fault valid = absurd cc
  has_error (Some code) fault valid = (code, refl, fault_is fault (at_byte code (at + fault_place layout columns rows col block code)) valid)

  pub error_is_own : (found : Option ℕ) (fault : Fault) → IfSome found IsOwn → IsValidAt at layout columns rows col block found (Err fault) → IsTableFault fault
  error_is_own None fault own valid = absurd cc
  error_is_own (Some code) fault own valid =
      subst IsTableFault (sym (fault_is fault (at_byte code (at + fault_place layout columns rows col block code)) valid)) (own (at + fault_place layout columns rows col block code))

-- the block of a number, cut out of the others
pub piece_cut : (blocks : List ℕ) (size number : ℕ) → slice_range blocks (number * size) (number * size + size) ≡ piece_of blocks size number
piece_cut blocks size number = ap (λ n. take n (drop (number * size) blocks)) {x = number * size + size - number * size} {y = size} (omega arith)

-- what holds of the numbers below and of one more
pub below_and : (P : ℕ → Type 0) (n : ℕ) → ((k : ℕ) → k < n → P k) → P n → (k : ℕ) → k < n + 1 → P k
below_and P n before here k lt = elim (cases_lt k n) [
  | inl earlier ↦ before k earlier
  | inr not_earlier ↦ subst P {x = n} {y = k} (omega arith) here
]

-- a block by equal parts
pub block_alike : (layout : Layout) (there columns : List Column) (col rows_there rows : ℕ) (cut block : List ℕ) → there ≡ columns → rows_there ≡ rows → cut ≡ block
    → block_fault layout columns col rows block ≡ block_fault layout there col rows_there cut
block_alike layout there columns col rows_there rows cut block placed counted is = rw (placed, counted, is) refl

pub place_alike : (at : ℕ) (layout : Layout) (there columns : List Column) (col rows_there rows : ℕ) (cut block : List ℕ) (size_there size number code : ℕ) → there ≡ columns → rows_there ≡ rows → cut ≡ block
    → size_there ≡ size → at_byte code (at + number * size_there + fault_place layout there rows_there col cut code) ≡ at_byte code (at + number * size + fault_place layout columns rows col block code)
place_alike at layout there columns col rows_there rows cut block size_there size number code placed counted is sized = rw (placed, counted, is, sized) refl

-- the pieces of bytes that were read from a place on
pub pieces_known : (known : Option (List ℕ)) (at count size number : ℕ) (read : List ℕ) → length read ≡ count * size → number < count → IfSome known (AreBytesAt at read)
    → IfSome known (λ bytes. piece_of read size number ≡ take size (drop (at + number * size) bytes))
pieces_known None at count size number read long there filled = tt
pieces_known (Some bytes) at count size number read long there filled =
    let rest = drop at bytes in
    let start = number * size in
    let left = length read - start in
    let le = mul-le (number + 1) size count size (omega arith) (omega arith) in
    let more : (number + 1) * size ≡ number * size + size = omega arith in
    let whole : length read ≡ start + left = omega (arith, long, le, more) in
    ap (λ (l : List ℕ). take size (drop start l)) filled ∙ ap (λ n. take size (drop start (take n rest))) whole ∙ ap (take size) (drop-take start left rest)
    ∙ take-take size left (drop start rest) (omega (arith, long, le, more)) ∙ ap (take size) (drop-drop start at bytes)

-- a table has at most 32,768 segments
pub few_segments : (table : MemoryTable) → table.segments ≤ 32768
unfolding group_size
few_segments table = elim (cases_lt 0 table.segments) [
  | inl some ↦ omega (arith, table.kept.nonempty (table.segments - 1) (omega arith), table.within_limit)
  | inr none ↦ omega arith
]

pub small_product : (segments before : ℕ) → segments ≤ 32768 → before ≤ 270400 → segments * before ≤ 8860467200
small_product segments before few small = omega (arith, mul-le segments before 32768 270400 few small)
