-- Segments as bytes: blocks that are put together and cut out again, and the rows that they spell.
use Rattle.std.proofs.Common.{◌≡◌, ◌∙◌, sym, ap, ℕ, zero, suc, ◌+◌, ◌-◌, ◌<◌, ◌≤◌, List, ◌++◌}
use Rattle.std.proofs.Common.{flat_map, length, take, drop, length-append, append_assoc, append-nil}
use Rattle.std.proofs.Common.{add-one, add-zero, None, inl, inr, arith}
use Rattle.std.specs.List.{range_with_len}
use Rattle.std.proofs.Math.Seq.{drop-append_seam, take-append_seam, drop-append-add, drop-drop}
use Rattle.std.proofs.lemmas.Bool.{cases_lt}
use Rattle.std.proofs.lemmas.List.{take_all, take-append-drop, drop-take, take-take, drop-append-le}
use Rattle.std.proofs.lemmas.List.{take-append-le, drop_all, length-drop}
use Rattle.bw_model.specs.declared.column.Column.{Column}
use Rattle.bw_segment.specs.Packing.{Packing, block_size, bytes_before, segment_size, block_at}
use Rattle.bw_segment.specs.BlockFault.{block_fault, AreSound}

-- a piece of bytes after which others are put, and the last piece
pub piece_kept : (size at : ℕ) (bytes added : List ℕ) → at + size ≤ length bytes → take size (drop at (bytes ++ added)) ≡ take size (drop at bytes)
piece_kept size at bytes added le =
    ap (take size) (drop-append-le at bytes added (omega arith)) ∙ take-append-le size (drop at bytes) added (omega (arith, length-drop at bytes))

pub piece_last : (size at : ℕ) (bytes added : List ℕ) → length bytes ≡ at → length added ≡ size → take size (drop at (bytes ++ added)) ≡ added
piece_last size at bytes added here long =
    ap (λ k. take size (drop k (bytes ++ added))) (sym here) ∙ ap (take size) (drop-append_seam bytes added) ∙ take_all size added (omega (arith, long))

-- a block more of those that are put together
pub block_more : (blocks : ℕ → List ℕ) (bytes : List ℕ) (count col : ℕ) → col < count
    → (bytes ++ blocks col) ++ flat_map blocks (range_with_len (col + 1) (count - (col + 1))) ≡ bytes ++ flat_map blocks (range_with_len col (count - col))
block_more blocks bytes count col lt =
    append_assoc bytes (blocks col) (flat_map blocks (range_with_len (col + 1) (count - (col + 1))))
    ∙ ap (λ n. bytes ++ flat_map blocks (range_with_len col n)) {x = suc (count - (col + 1))} {y = count - col} (omega arith)

module _ (packing : Packing) (columns : List Column) where
  abbrev before : ℕ → ℕ
  before = bytes_before packing columns

  pub before_in_order : (a b : ℕ) → a ≤ b → before a ≤ before b
  before_in_order a zero le = omega (arith, ap before {x = a} {y = zero} (omega arith))
  before_in_order a (suc b) le = elim (cases_lt b a) [
    | inl lt ↦ omega (arith, ap before {x = a} {y = suc b} (omega arith))
    | inr earlier ↦ omega (arith, before_in_order a b earlier)
  ]

  -- blocks that are cut out one after the other are all bytes
  cuts_joined : (bytes : List ℕ) (a k : ℕ) → flat_map (λ column. block_at packing columns column bytes) (range_with_len a k) ++ drop (before (a + k)) bytes ≡ drop (before a) bytes
  cuts_joined bytes a zero = ap (λ k. drop (before k) bytes) (add-zero a)
  cuts_joined bytes a (suc k) =
      let rest = drop (before a) bytes in
      let size = block_size packing columns a in
      let following : drop (before (a + 1)) bytes ≡ drop size rest = ap (λ k. drop (before k) bytes) (add-one a) ∙ sym (drop-drop size (before a) bytes) in
      append_assoc (take size rest) (flat_map (λ column. block_at packing columns column bytes) (range_with_len (a + 1) k)) (drop (before (a + suc k)) bytes)
      ∙ ap (λ l. take size rest ++ l)
      (ap (λ n. flat_map (λ column. block_at packing columns column bytes) (range_with_len (a + 1) k) ++ drop (before n) bytes) {x = a + suc k} {y = a + 1 + k} (omega arith)
      ∙ cuts_joined bytes (a + 1) k ∙ following)
      ∙ take-append-drop size rest

  pub cuts_are_all : (bytes : List ℕ) → length bytes ≡ segment_size packing columns → flat_map (λ column. block_at packing columns column bytes) (range_with_len 0 (length columns)) ≡ bytes
  cuts_are_all bytes long =
      let cuts = flat_map (λ column. block_at packing columns column bytes) (range_with_len 0 (length columns)) in
      sym (append-nil cuts) ∙ ap (λ l. cuts ++ l) (sym (drop_all (before (length columns)) bytes (omega (arith, long))))
      ∙ ap (λ n. cuts ++ drop (before n) bytes) {x = length columns} {y = 0 + length columns} (omega arith) ∙ cuts_joined bytes 0 (length columns)

  -- blocks that are put together, each as long as its column's
  module _ (blocks : ℕ → List ℕ) (long : (column : ℕ) → column < length columns → length (blocks column) ≡ block_size packing columns column) where
    length-joined : (a k : ℕ) → a + k ≤ length columns → before a + length (flat_map blocks (range_with_len a k)) ≡ before (a + k)
    length-joined a zero le = omega (arith, ap before (add-zero a))
    length-joined a (suc k) le =
        let more = length-joined (a + 1) k (omega arith) in
        let next = ap before {x = a + suc k} {y = a + 1 + k} (omega arith) in
        omega (arith, length-append (blocks a) (flat_map blocks (range_with_len (a + 1) k)), long a (omega arith), more, ap before (add-one a), next)

    pub length-blocks : length (flat_map blocks (range_with_len 0 (length columns))) ≡ segment_size packing columns
    length-blocks = omega (arith, length-joined 0 (length columns) (omega arith), ap before {x = 0 + length columns} {y = length columns} (omega arith))

    cut_joined : (column a k : ℕ) → a ≤ column → column < a + k → a + k ≤ length columns
        → take (block_size packing columns column) (drop (before column - before a) (flat_map blocks (range_with_len a k))) ≡ blocks column
    cut_joined column a zero from to le = absurd (omega arith)
    cut_joined column a (suc k) from to le =
        let rest = flat_map blocks (range_with_len (a + 1) k) in
        elim (cases_lt a column) [
          | inl later ↦
              let far : before column - before a ≡ length (blocks a) + (before column - before (a + 1)) =
              omega (arith, long a (omega arith), ap before (add-one a), before_in_order (suc a) column (omega arith)) in
              ap (λ n. take (block_size packing columns column) (drop n (blocks a ++ rest))) far
              ∙ ap (take (block_size packing columns column)) (drop-append-add (blocks a) rest (before column - before (a + 1)))
              ∙ cut_joined column (a + 1) k (omega arith) (omega arith) (omega arith)
          | inr not_later ↦
              ap (λ c. take (block_size packing columns c) (drop (before c - before a) (blocks a ++ rest))) {y = a} (omega arith)
              ∙ ap (λ n. take (block_size packing columns a) (drop n (blocks a ++ rest))) {y = 0} (omega arith)
              ∙ ap (λ n. take n (blocks a ++ rest)) (sym (long a (omega arith))) ∙ take-append_seam (blocks a) rest ∙ ap blocks {x = a} {y = column} (omega arith)
        ]

    pub block_of_joined : (column : ℕ) → column < length columns → block_at packing columns column (flat_map blocks (range_with_len 0 (length columns))) ≡ blocks column
    block_of_joined column lt =
        ap (λ n. take (block_size packing columns column) (drop n (flat_map blocks (range_with_len 0 (length columns))))) {y = before column - before 0} (omega arith)
        ∙ cut_joined column 0 (length columns) (omega arith) (omega arith) (omega arith)

  -- a block more
  pub block_added : (count blocks : ℕ) (bytes block : List ℕ) → AreSound packing columns count blocks bytes → length block ≡ block_size packing columns blocks → block_fault packing columns blocks count block ≡ None
      → AreSound packing columns count (suc blocks) (bytes ++ block)
  block_added count blocks bytes block so_far long fine = record {
    size = omega (arith, length-append bytes block, so_far.size, long);
    without = λ column lt. elim (cases_lt column blocks) [
      | inl earlier ↦
          let within = before_in_order (suc column) blocks (omega arith) in
          ap (block_fault packing columns column count) (piece_kept (block_size packing columns column) (before column) bytes block (omega (arith, so_far.size, within)))
          ∙ so_far.without column earlier
      | inr not_earlier ↦
          ap (λ c. block_fault packing columns c count (block_at packing columns c (bytes ++ block))) {y = blocks} (omega arith)
          ∙ ap (block_fault packing columns blocks count) (piece_last (block_size packing columns blocks) (before blocks) bytes block so_far.size long) ∙ fine
    ];
  }
