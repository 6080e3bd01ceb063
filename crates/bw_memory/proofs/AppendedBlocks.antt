-- The blocks of a column that a window adds to those of the segments before it.
use Rattle.std.proofs.Common.{◌≡◌, ◌∙◌, inl, inr, refl, sym, ap, ap₂, subst, ℕ, ◌+◌, ◌-◌, ◌*◌, ◌<◌, List, ◌++◌, length, take, drop, Option, Some, None, arith}
use Rattle.std.specs.Prelude.{IfSome}
use Rattle.std.proofs.lemmas.Bool.{cases_lt}
use Rattle.std.proofs.lemmas.List.{drop-append-le, length-append, length-drop, take-append-le}
use Rattle.std.proofs.lemmas.Nat.{mul-le}
use Rattle.std.proofs.Math.Seq.{drop-append-add}
use Rattle.bw_model.specs.declared.column.Column.{Column}
use Rattle.bw_model.specs.declared.fault.Fault.{Fault}
use Rattle.bw_model.specs.Fault.{at_byte}
use Rattle.bw_segment.specs.declared.placement.Placement.{Placement}
use Rattle.bw_segment.proofs.FrontLemmas.{if_some}
use Rattle.bw_file.specs.declared.layout.Layout.{Layout}
use Rattle.bw_file.specs.Blocks.{block_fault, block_size}
use Rattle.bw_file.specs.TableReading.{fault_place}
use Rattle.bw_memory.specs.declared.columnar.ColumnarTable.{ColumnarTable}
use Rattle.bw_memory.specs.declared.table.MemoryTable.{MemoryTable}
use Rattle.bw_memory.specs.Columnar.{AreFirstBlocks, HasBlock, IsColumnFault, place_in, table_in}
use Rattle.bw_memory.specs.Columns.{IsBlocksFault}
use Rattle.bw_memory.specs.Filling.{AreBytesAt}
use Rattle.bw_memory.specs.MemoryTable.{layout_of, schema_of, segments_in}
use Rattle.bw_memory.specs.StoredSegments.{piece_of, rows_numbered}
use Rattle.bw_memory.specs.Windows.{IsPart}
use Rattle.bw_memory.proofs.WindowLemmas.{window_block}

-- a piece of the first of two lists, and one of the second
piece_before : (xs ys : List ℕ) (count size number : ℕ) → length xs ≡ count * size → number < count → piece_of (xs ++ ys) size number ≡ piece_of xs size number
piece_before xs ys count size number long lt =
    let le = mul-le (number + 1) size count size (omega arith) (omega arith) in
    let more : (number + 1) * size ≡ number * size + size = omega arith in
    ap (take size) (drop-append-le (number * size) xs ys (omega (arith, long, le, more)))
    ∙ take-append-le size (drop (number * size) xs) ys (omega (arith, length-drop (number * size) xs, long, le, more))

piece_after : (xs ys : List ℕ) (count size number : ℕ) → length xs ≡ count * size → piece_of (xs ++ ys) size (count + number) ≡ piece_of ys size number
piece_after xs ys count size number long =
    let both : (count + number) * size ≡ length xs + number * size = omega (arith, long) in
    ap (λ n. take size (drop n (xs ++ ys))) both ∙ ap (take size) (drop-append-add xs ys (number * size))

-- a block has the same error, at the same place, by equal parts
fault_alike : (L M : Layout) (C D : List Column) (col r s : ℕ) (block : List ℕ) → M ≡ L → D ≡ C → s ≡ r → block_fault L C col r block ≡ block_fault M D col s block
fault_alike L M C D col r s block a b c = rw (a, b, c) refl

place_alike : (L M : Layout) (C D : List Column) (col r s : ℕ) (block : List ℕ) (code : ℕ) → M ≡ L → D ≡ C → s ≡ r → fault_place L C r col block code ≡ fault_place M D s col block code
place_alike L M C D col r s block code a b c = rw (a, b, c) refl

module _ (known : Option (List ℕ)) (columnar : ColumnarTable) (first : ℕ) (table : MemoryTable) (part : IsPart columnar first table) (col : ℕ) where
  abbrev columns : List Column
  columns = (schema_of (table_in columnar)).columns.items

  abbrev size : ℕ
  size = block_size (layout_of (table_in columnar)) columns col

  same_columns : (schema_of table).columns.items ≡ columns
  same_columns = ap (λ (p : Placement). p.schema.columns.items) part.placement

  sizes : block_size (layout_of table) (schema_of table).columns.items col ≡ size
  sizes = ap₂ (λ (l : Layout) (c : List Column). block_size l c col) part.layout same_columns

  -- a block has the same error in the part and in the whole
  same_fault : (number : ℕ) → number < segments_in table → (block : List ℕ)
      → block_fault (layout_of (table_in columnar)) columns col (rows_numbered (table_in columnar).rows (first + number)) block
      ≡ block_fault (layout_of table) (schema_of table).columns.items col (rows_numbered table.rows number) block
  same_fault number there block = fault_alike (layout_of (table_in columnar)) (layout_of table) columns (schema_of table).columns.items col (rows_numbered (table_in columnar).rows (first + number)) (rows_numbered table.rows number) block
      part.layout same_columns (part.rows number there)

  pub blocks_added : (at : ℕ) (before read : List ℕ) → at ≡ place_in columnar col 0 + first * block_size (layout_of table) (schema_of table).columns.items col
      → AreFirstBlocks known columnar col first before
      → length read ≡ segments_in table * block_size (layout_of table) (schema_of table).columns.items col
      → ((number : ℕ) → number < segments_in table → block_fault (layout_of table) (schema_of table).columns.items col (rows_numbered table.rows number)
      (piece_of read (block_size (layout_of table) (schema_of table).columns.items col) number) ≡ None)
      → IfSome known (AreBytesAt at read) → AreFirstBlocks known columnar col (first + segments_in table) (before ++ read)
  blocks_added at before read place had long valid filled = record {
    long = omega (arith, length-append before read, had.long, long, ap (λ n. segments_in table * n) sizes);
    valid = λ number lt. elim (cases_lt number first) [
      | inl earlier ↦ rw (piece_before before read first size number had.long earlier) (had.valid number earlier)
      | inr later ↦
          let n = number - first in
          let there : n < segments_in table = omega (arith, lt) in
          let is : first + n ≡ number = omega arith in
          subst (λ k. block_fault (layout_of (table_in columnar)) columns col (rows_numbered (table_in columnar).rows k) (piece_of (before ++ read) size k) ≡ None) is
          (ap (λ (l : List ℕ). block_fault (layout_of (table_in columnar)) columns col (rows_numbered (table_in columnar).rows (first + n)) l) (piece_after before read first size n had.long ∙ ap (λ s. piece_of read s n) (sym sizes))
          ∙ same_fault n there (piece_of read (block_size (layout_of table) (schema_of table).columns.items col) n) ∙ valid n there)
    ];
    are = λ number lt. elim (cases_lt number first) [
      | inl earlier ↦ subst (λ (b : List ℕ). IfSome known (HasBlock columnar col number b)) (sym (piece_before before read first size number had.long earlier)) (had.are number earlier)
      | inr later ↦
          let n = number - first in
          let there : n < segments_in table = omega (arith, lt) in
          let is : first + n ≡ number = omega arith in
          subst (λ k. IfSome known (HasBlock columnar col k (piece_of (before ++ read) size k))) is
          (window_block known columnar first table part col at n read (piece_of (before ++ read) size (first + n)) place long there filled
          (piece_after before read first size n had.long ∙ ap (λ s. piece_of read s n) (sym sizes)))
    ];
  }

  -- what the blocks of all segments may be, if those of the segments before the part and these are there: of a known file, the file's
  abbrev file_blocks : Option (List ℕ) → List ℕ → ℕ → List ℕ
  file_blocks None all number = piece_of all size number
  file_blocks (Some bytes) all number = take size (drop (place_in columnar col number) bytes)

  are_file_blocks : (any : Option (List ℕ)) (all : List ℕ) (number : ℕ) → IfSome any (HasBlock columnar col number (file_blocks any all number))
  are_file_blocks None all number = tt
  are_file_blocks (Some bytes) all number = refl

  file_block_is : (any : Option (List ℕ)) (all : List ℕ) (number : ℕ) → IfSome any (HasBlock columnar col number (piece_of all size number)) → file_blocks any all number ≡ piece_of all size number
  file_block_is None all number has = refl
  file_block_is (Some bytes) all number has = sym has

  pub part_refused : (at : ℕ) (before : List ℕ) (fault : Fault) → at ≡ place_in columnar col 0 + first * block_size (layout_of table) (schema_of table).columns.items col
      → AreFirstBlocks known columnar col first before → IsBlocksFault known table col at fault → IsColumnFault known columnar col fault
  part_refused at before fault place had (inl damaged) =
      let part_size = block_size (layout_of table) (schema_of table).columns.items col in
      let all = before ++ damaged.bytes in
      let f = damaged.first in
      let later : (n : ℕ) → n < segments_in table → file_blocks known all (first + n) ≡ piece_of damaged.bytes part_size n =
      λ n there. let is = piece_after before damaged.bytes first size n had.long ∙ ap (λ s. piece_of damaged.bytes s n) (sym sizes) in
      file_block_is known all (first + n) (window_block known columnar first table part col at n damaged.bytes (piece_of all size (first + n)) place damaged.long there damaged.there is) ∙ is in
      let earlier : (n : ℕ) → n < first → file_blocks known all n ≡ piece_of before size n =
      λ n lt. let is = piece_before before damaged.bytes first size n had.long lt in
      file_block_is known all n (subst (λ (b : List ℕ). IfSome known (HasBlock columnar col n b)) (sym is) (had.are n lt)) ∙ is in
      inl (record {
        blocks = file_blocks known all;
        are = λ number there. are_file_blocks known all number;
        first = record {
          number = first + f.number;
          within = omega (arith, f.within, part.within);
          before = λ n lt. elim (cases_lt n first) [
            | inl lt_first ↦ ap (block_fault (layout_of (table_in columnar)) columns col (rows_numbered (table_in columnar).rows n)) (earlier n lt_first) ∙ had.valid n lt_first
            | inr not ↦
                let k = n - first in
                let there : k < segments_in table = omega (arith, lt, f.within) in
                let is : first + k ≡ n = omega arith in
                subst (λ m. block_fault (layout_of (table_in columnar)) columns col (rows_numbered (table_in columnar).rows m) (file_blocks known all m) ≡ None) is
                (ap (block_fault (layout_of (table_in columnar)) columns col (rows_numbered (table_in columnar).rows (first + k))) (later k there) ∙ same_fault k there (piece_of damaged.bytes part_size k) ∙ f.before k (omega (arith, lt)))
          ];
          code = f.code;
          here = ap (block_fault (layout_of (table_in columnar)) columns col (rows_numbered (table_in columnar).rows (first + f.number))) (later f.number f.within) ∙ same_fault f.number f.within (piece_of damaged.bytes part_size f.number) ∙ f.here;
          is = f.is ∙ ap (at_byte f.code) (omega (
            arith,
            place,
            ap (λ n. first * n) sizes,
            ap (λ n. f.number * n) sizes,
            same_place f.number f.within (piece_of damaged.bytes part_size f.number) f.code,
            ap (λ (b : List ℕ). fault_place (layout_of (table_in columnar)) columns (rows_numbered (table_in columnar).rows (first + f.number)) col b f.code) (later f.number f.within),
          ));
        };
      })
    where
      same_place : (number : ℕ) → number < segments_in table → (block : List ℕ) (code : ℕ)
          → fault_place (layout_of (table_in columnar)) columns (rows_numbered (table_in columnar).rows (first + number)) col block code
          ≡ fault_place (layout_of table) (schema_of table).columns.items (rows_numbered table.rows number) col block code
      same_place number there block code = place_alike (layout_of (table_in columnar)) (layout_of table) columns (schema_of table).columns.items col (rows_numbered (table_in columnar).rows (first + number)) (rows_numbered table.rows number) block code
          part.layout same_columns (part.rows number there)
  part_refused at before fault place had (inr (inl memory)) = inr (inl memory)
  part_refused at before fault place had (inr (inr (inl read))) = inr (inr (inl read))
  part_refused at before fault place had (inr (inr (inr short))) =
      let le = mul-le (first + segments_in table) size (segments_in (table_in columnar)) size part.within (omega arith) in
      let both : (first + segments_in table) * size ≡ first * size + segments_in table * size = omega arith in
      inr (inr (inr (short.0, if_some known _ _ (λ bytes lt. omega (arith, lt, place, ap (λ n. first * n) sizes, ap (λ n. segments_in table * n) sizes, le, both)) short.1)))
