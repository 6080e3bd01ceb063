-- Reading segments block by block.
use Rattle.std.proofs.Common.{◌≡◌, true, false, ℕ, zero, suc, ◌+◌, ◌-◌, ◌*◌, ◌<◌, ◌≤◌, Bool, ◌&&◌}
use Rattle.std.proofs.Common.{◌||◌, ◌==◌, nat_le, List, [], ◌++◌, length, Option, Some, None, refl}
use Rattle.std.proofs.Common.{subst, sym, ◌∙◌, arith, inl, inr, drop, get_or, Result}
use Rattle.std.specs.Int.{bit_at}
use Rattle.std.specs.List.{list_any, range_with_len}
use Rattle.bw_model.specs.declared.column.Column.{Column}
use Rattle.bw_model.specs.declared.fault.Fault.{Fault}
use Rattle.bw_model.specs.Fault.{at_byte}
use Rattle.bw_file.specs.declared.layout.Layout.{Layout}
use Rattle.std.proofs.lemmas.List.{drop_all, drop_more}
use Rattle.std.proofs.lemmas.Bool.{cases_lt}
use Rattle.bw_segment.proofs.LayoutLemmas.{block_added}
use Rattle.bw_file.specs.Blocks.{form_of, bytes_before, block_size, block_fault, AreSound}
use Rattle.bw_file.specs.Blocks.{rows_spelled}
use Rattle.bw_file.specs.Reading.{◌>>=◌, give, field, State, HasConsumed, GoesOn, Fails}
use Rattle.bw_file.specs.Reading.{HasByteMore, Reads}
use Rattle.bw_file.specs.TableReading.{plane_has_padding, has_padding, padding_from, fault_place}
use Rattle.bw_file.specs.TableReading.{sound_at, one_block, blocks, segment, IsValidAt}
use Rattle.bw_file.proofs.ReadingLemmas.{took_nothing, needs_none, begins, passes, stops, refuses}

-- a block is taken, and then judged
block_begins : (layout : Layout) (schema : List Column) (rows number : ℕ) (old : State)
    → GoesOn (one_block layout schema rows number) old
    (field (block_size layout schema number) >>= λ bytes. sound_at old.offset layout schema rows number bytes (block_fault layout schema number rows bytes)) old
unfolding one_block
block_begins layout schema rows number old = record { bytes = []; took = took_nothing old.known old.offset old.failures; needed = needs_none (one_block layout schema rows number) old.offset; failures = refl; on = λ rest. refl }

block_taken : (layout : Layout) (schema : List Column) (rows number : ℕ) (bytes : List ℕ) (fault : Option ℕ) (old new : State)
    → GoesOn (field (block_size layout schema number)) old (give bytes) new → block_fault layout schema number rows bytes ≡ fault
    → GoesOn (one_block layout schema rows number) old (sound_at old.offset layout schema rows number bytes fault) new
block_taken layout schema rows number bytes fault old new p e =
    rw (← e) (passes (one_block layout schema rows number) (field (block_size layout schema number))
    (λ bytes. sound_at old.offset layout schema rows number bytes (block_fault layout schema number rows bytes)) bytes old old new (block_begins layout schema rows number old) p)

pub block_good : (layout : Layout) (schema : List Column) (rows number : ℕ) (bytes : List ℕ) (old new : State)
    → GoesOn (field (block_size layout schema number)) old (give bytes) new → block_fault layout schema number rows bytes ≡ None
    → GoesOn (one_block layout schema rows number) old (give bytes) new
block_good layout schema rows number bytes old new p e = block_taken layout schema rows number bytes None old new p e

pub block_bad : (layout : Layout) (schema : List Column) (rows number code place : ℕ) (bytes : List ℕ) (old new : State)
    → GoesOn (field (block_size layout schema number)) old (give bytes) new → block_fault layout schema number rows bytes ≡ Some code
    → place ≡ old.offset + fault_place layout schema rows number bytes code → Fails (one_block layout schema rows number) old new (at_byte code place)
block_bad layout schema rows number code place bytes old new p e at =
    rw at (refuses (one_block layout schema rows number) (sound_at old.offset layout schema rows number bytes (Some code)) old new code
    (old.offset + fault_place layout schema rows number bytes code) (block_taken layout schema rows number bytes (Some code) old new p e) (λ rest. refl))

-- a block that was validated
pub block_validated : (layout : Layout) (schema : List Column) (rows number : ℕ) (bytes : List ℕ) (old new : State) (found : Option ℕ) (result : Result (Unit {0}) Fault)
    → GoesOn (field (block_size layout schema number)) old (give bytes) new → block_fault layout schema number rows bytes ≡ found → IsValidAt old.offset layout schema rows number bytes found result
    → Reads (λ (_ : Unit {0}). bytes) (one_block layout schema rows number) old new result
block_validated layout schema rows number bytes old new None result p e valid =
    subst (Reads (λ (_ : Unit {0}). bytes) (one_block layout schema rows number) old new) (sym valid) (block_good layout schema rows number bytes old new p e)
block_validated layout schema rows number bytes old new (Some code) result p e valid =
    subst (Reads (λ (_ : Unit {0}). bytes) (one_block layout schema rows number) old new) (sym valid)
    (block_bad layout schema rows number code (old.offset + fault_place layout schema rows number bytes code) bytes old new p e refl)

pub block_stops : (layout : Layout) (schema : List Column) (rows number : ℕ) (old new : State) (fault : Fault) → Fails (field (block_size layout schema number)) old new fault
    → Fails (one_block layout schema rows number) old new fault
block_stops layout schema rows number old new fault p =
    stops (one_block layout schema rows number) (field (block_size layout schema number))
    (λ bytes. sound_at old.offset layout schema rows number bytes (block_fault layout schema number rows bytes)) old old new fault (block_begins layout schema rows number old) p

-- the search for a byte with a bit of a padding row
pub padding_here : (layout : Layout) (schema : List Column) (rows number : ℕ) (bytes : List ℕ) (at : ℕ) → at < length bytes
    → has_padding layout schema rows number at (get_or bytes at 0) ≡ true → padding_from layout schema rows number (drop at bytes) at ≡ at
unfolding padding_from
padding_here layout schema rows number bytes at lt e = rw (drop_more bytes at 0 lt, e) refl

pub padding_next : (layout : Layout) (schema : List Column) (rows number : ℕ) (bytes : List ℕ) (at : ℕ) → at < length bytes
    → has_padding layout schema rows number at (get_or bytes at 0) ≡ false
    → padding_from layout schema rows number (drop at bytes) at ≡ padding_from layout schema rows number (drop (at + 1) bytes) (at + 1)
unfolding padding_from
padding_next layout schema rows number bytes at lt e = rw (drop_more bytes at 0 lt, e) refl

pub padding_past : (layout : Layout) (schema : List Column) (rows number : ℕ) (bytes : List ℕ) (at : ℕ) → length bytes ≤ at
    → padding_from layout schema rows number (drop at bytes) at ≡ at
unfolding padding_from
padding_past layout schema rows number bytes at le = rw (drop_all at bytes le) refl

-- the bits of a byte, from one on
abbrev pub bits_from : ℕ → ℕ → ℕ → ℕ → Bool
bits_from rows place byte bit = list_any (λ bit. nat_le rows (8 * place + bit) && (bit_at byte bit == 1)) (range_with_len bit (8 - bit))

pub bits_begin : (rows place byte : ℕ) → plane_has_padding rows place byte ≡ bits_from rows place byte 0
unfolding plane_has_padding
bits_begin rows place byte = refl

bits_next : (rows place byte bit : ℕ) → bit < 8 → bits_from rows place byte bit
    ≡ (nat_le rows (8 * place + bit) && (bit_at byte bit == 1)) || bits_from rows place byte (bit + 1)
bits_next rows place byte bit lt =
    let more : 8 - bit ≡ suc (8 - (bit + 1)) = omega arith in
    let next : bit + 1 ≡ suc bit = omega arith in
    rw (more, next) refl

pub bits_clear : (rows place byte bit : ℕ) → bit < 8 → (bit_at byte bit == 1) ≡ false → bits_from rows place byte bit ≡ bits_from rows place byte (bit + 1)
bits_clear rows place byte bit lt e = bits_next rows place byte bit lt ∙ go (nat_le rows (8 * place + bit))
  where
    go : (late : Bool) → (late && (bit_at byte bit == 1)) || bits_from rows place byte (bit + 1) ≡ bits_from rows place byte (bit + 1)
    go true = rw e refl
    go false = refl

pub bits_early : (rows place byte bit : ℕ) → bit < 8 → nat_le rows (8 * place + bit) ≡ false → bits_from rows place byte bit ≡ bits_from rows place byte (bit + 1)
bits_early rows place byte bit lt e = bits_next rows place byte bit lt ∙ rw e refl

-- blocks one after another
pub blocks_more : (layout : Layout) (schema : List Column) (rows count i : ℕ) (before bytes : List ℕ) (old mid new : State) → i < count
    → GoesOn (blocks layout schema rows 0 count []) old (blocks layout schema rows i (count - i) before) mid
    → GoesOn (one_block layout schema rows i) mid (give bytes) new
    → GoesOn (blocks layout schema rows 0 count []) old (blocks layout schema rows (i + 1) (count - (i + 1)) (before ++ bytes)) new
unfolding blocks
blocks_more layout schema rows count i before bytes old mid new lt p q =
    let e : count - i ≡ suc (count - (i + 1)) = omega arith in
    let next : suc i ≡ i + 1 = omega arith in
    let so_far : GoesOn (blocks layout schema rows 0 count []) old (blocks layout schema rows i (suc (count - (i + 1))) before) mid = rw e at p in
    subst (λ (k : ℕ). GoesOn (blocks layout schema rows 0 count []) old (blocks layout schema rows k (count - (i + 1)) (before ++ bytes)) new) next (passes (blocks layout schema rows 0 count []) (one_block layout schema rows i)
    (λ bytes. blocks layout schema rows (suc i) (count - (i + 1)) (before ++ bytes)) bytes old mid new so_far q)

pub blocks_stop : (layout : Layout) (schema : List Column) (rows count i : ℕ) (before : List ℕ) (old mid new : State) (fault : Fault) → i < count
    → GoesOn (blocks layout schema rows 0 count []) old (blocks layout schema rows i (count - i) before) mid
    → Fails (one_block layout schema rows i) mid new fault
    → Fails (blocks layout schema rows 0 count []) old new fault
unfolding blocks
blocks_stop layout schema rows count i before old mid new fault lt p q =
    let e : count - i ≡ suc (count - (i + 1)) = omega arith in
    let so_far : GoesOn (blocks layout schema rows 0 count []) old (blocks layout schema rows i (suc (count - (i + 1))) before) mid = rw e at p in
    stops (blocks layout schema rows 0 count []) (one_block layout schema rows i)
    (λ bytes. blocks layout schema rows (suc i) (count - (i + 1)) (before ++ bytes)) old mid new fault so_far q

pub blocks_read : (layout : Layout) (schema : List Column) (rows count i : ℕ) (before : List ℕ) (old new : State) → count ≤ i
    → GoesOn (blocks layout schema rows 0 count []) old (blocks layout schema rows i (count - i) before) new
    → GoesOn (blocks layout schema rows 0 count []) old (give before) new
unfolding blocks
blocks_read layout schema rows count i before old new le p = let e : count - i ≡ 0 = omega arith in rw e at p

-- the rows of a segment are those of its bytes
pub segment_read : (layout : Layout) (schema : List Column) (rows : ℕ) (bytes : List ℕ) (old new : State) → GoesOn (blocks layout schema rows 0 (length schema) []) old (give bytes) new
    → GoesOn (segment layout schema rows) old (give (rows_spelled layout schema rows bytes)) new
unfolding segment
segment_read layout schema rows bytes old new p =
    passes (segment layout schema rows) (blocks layout schema rows 0 (length schema) []) (λ bytes. give (rows_spelled layout schema rows bytes)) bytes old old new
    (begins (segment layout schema rows) old) p

pub segment_stops : (layout : Layout) (schema : List Column) (rows : ℕ) (old new : State) (fault : Fault) → Fails (blocks layout schema rows 0 (length schema) []) old new fault
    → Fails (segment layout schema rows) old new fault
unfolding segment
segment_stops layout schema rows old new fault p =
    stops (segment layout schema rows) (blocks layout schema rows 0 (length schema) []) (λ bytes. give (rows_spelled layout schema rows bytes)) old old new fault
    (begins (segment layout schema rows) old) p

-- a byte in place of the end
pub end_refused : (old new : State) (bytes : List ℕ) → HasConsumed old new bytes → new.failures ≡ old.failures → length bytes ≡ 1 → HasByteMore old new (at_byte 309 old.offset)
end_refused old new bytes took same one =
    record { bytes = bytes; took = took; unfinished = λ failed. absurd (cc failed); failures = omega (arith, same); refused = λ _. (one, refl) }

-- the block of a column ends within the segment
pub before_within : (layout : Layout) (schema : List Column) (column count : ℕ) → column < count → bytes_before layout schema (suc column) ≤ bytes_before layout schema count
before_within layout schema column zero lt = absurd (omega (arith, lt))
before_within layout schema column (suc count) lt =
    elim (cases_lt column count) [
      | inl less ↦ let shorter = before_within layout schema column count less in omega (arith, shorter)
      | inr same ↦ let e : column ≡ count = omega arith in rw e (omega arith)
    ]

-- blocks that are sound, and a block after them
pub sound_more : (layout : Layout) (schema : List Column) (rows column : ℕ) (before added : List ℕ) → length added ≡ block_size layout schema column
    → AreSound layout schema rows column before → block_fault layout schema column rows added ≡ None → AreSound layout schema rows (column + 1) (before ++ added)
sound_more layout schema rows column before added long sound good =
    let next : suc column ≡ column + 1 = omega arith in
    subst (λ (k : ℕ). AreSound layout schema rows k (before ++ added)) next (block_added (form_of layout) schema rows column before added sound long good)

pub before_more : (layout : Layout) (schema : List Column) (column start size : ℕ) → start ≡ bytes_before layout schema column → size ≡ block_size layout schema column
    → start + size ≡ bytes_before layout schema (column + 1)
before_more layout schema column start size at sized =
    let next : suc column ≡ column + 1 = omega arith in
    subst (λ (k : ℕ). start + size ≡ bytes_before layout schema k) next (omega (arith, at, sized))
