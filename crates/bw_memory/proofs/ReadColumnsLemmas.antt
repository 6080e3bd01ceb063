-- The columns of a file by columns that have been read.
use Rattle.std.proofs.Common.{◌≡◌, ◌≢◌, ◌∙◌, ◌⊎◌, refl, sym, ap, subst, ℕ, ◌+◌, ◌<◌, ◌≤◌, Bool, true, false}
use Rattle.std.proofs.Common.{ap₂, ◌*◌, List, [], length, take, drop, Option, Result, Ok, inl, inr, arith}
use Rattle.std.specs.Prelude.{IfSome}
use Rattle.std.proofs.lemmas.Bool.{cases_eq}
use Rattle.bw_segment.proofs.FrontLemmas.{if_some}
use Rattle.bw_model.specs.declared.column.Column.{Column}
use Rattle.bw_model.specs.declared.fault.Fault.{Fault}
use Rattle.bw_model.specs.declared.schema.Schema.{Schema}
use Rattle.bw_model.specs.SchemaText.{SchemaShape, schema_shape}
use Rattle.bw_segment.specs.Packing.{block_bytes}
use Rattle.bw_file.specs.declared.layout.Layout.{Layout}
use Rattle.bw_file.specs.Blocks.{block_size, bytes_before, form_of}
use Rattle.bw_file.specs.Columnar.{columnar_length}
use Rattle.bw_file.specs.Reading.{Tail, tail}
use Rattle.bw_file.specs.TableReading.{HeaderShape}
use Rattle.bw_memory.specs.declared.columnar.ColumnarTable.{ColumnarTable}
use Rattle.bw_memory.specs.Columnar.{HasBlock, HasColumns, HasDamage, HasReadColumn, IsOpened, SameHeader, StatesTable, column_count}
use Rattle.bw_memory.specs.Columnar.{head_size, table_in}
use Rattle.bw_memory.specs.Columns.{IsBlank, block_in}
use Rattle.bw_memory.specs.MemoryTable.{layout_of, schema_of, segments_in}

module _ (known : Option (List ℕ)) (read : ℕ → Bool) where
  -- no column was read
  pub none_read : (columnar : ColumnarTable) → IsBlank (table_in columnar) → HasColumns known columnar read 0
  none_read columnar blank = record {
    blocks = λ column lt is number there. absurd (omega (arith, lt));
    blank = λ column lt is number there. blank column lt number there;
  }

  -- the next column isn't needed
  pub not_needed : (columnar : ColumnarTable) (count : ℕ) → read count ≡ false → HasColumns known columnar read count → HasColumns known columnar read (count + 1)
  not_needed columnar count un has = record {
    blocks = λ column lt is. has.blocks column (before column lt is) is;
    blank = λ column lt is. has.blank column lt (other column is);
  }
    where
      before : (column : ℕ) → column < count + 1 → read column ≡ true → column < count
      before column lt is = elim (cases_eq column count) [ inl same ↦ absurd (let e : true ≡ false = sym is ∙ ap read same ∙ un in cc e) | inr off ↦ omega (arith, lt, off) ]

      other : (column : ℕ) → (count + 1 ≤ column) ⊎ (read column ≡ false) → (count ≤ column) ⊎ (read column ≡ false)
      other column (inl le) = inl (omega (arith, le))
      other column (inr is) = inr is

  -- a block by equal numbers of a header
  place_moved : (bytes : List ℕ) (column number : ℕ) (L M : Layout) (C D : List Column) (n m h k : ℕ) → M ≡ L → D ≡ C → m ≡ n → k ≡ h
      → take (block_size L C column) (drop (h + n * bytes_before L C column + number * block_size L C column) bytes) ≡ take (block_size M D column) (drop (k + m * bytes_before M D column + number * block_size M D column) bytes)
  place_moved bytes column number L M C D n m h k a b c d = rw (a, b, c, d) refl

  -- the same block, by an equal header
  same_place : (old new : ColumnarTable) (column number : ℕ) (block bytes : List ℕ) → SameHeader old new → HasBlock old column number block bytes → HasBlock new column number block bytes
  same_place old new column number block bytes same is =
      is ∙ place_moved bytes column number (layout_of (table_in old)) (layout_of (table_in new)) (schema_of (table_in old)).columns.items (schema_of (table_in new)).columns.items
      (segments_in (table_in old)) (segments_in (table_in new)) (head_size old) (head_size new) same.layout (ap (λ (s : Schema). s.columns.items) same.schema) same.segments same.head

  pub block_same : (old new : ColumnarTable) (column number : ℕ) (block : List ℕ) → SameHeader old new → IfSome known (HasBlock old column number block) → IfSome known (HasBlock new column number block)
  block_same old new column number block same has = if_some known _ _ (λ bytes is. same_place old new column number block bytes same is) has

  -- the next column was read
  module _ (old new : ColumnarTable) (count : ℕ) (more : HasReadColumn known old new count) (needed : read count ≡ true) (has : HasColumns known old read count) where
    there_before : (number : ℕ) → number < segments_in (table_in new) → number < segments_in (table_in old)
    there_before number there = omega (arith, there, more.same.segments)

    this_block : (column : ℕ) → column ≡ count → (number : ℕ) → number < segments_in (table_in new) → IfSome known (HasBlock new column number (block_in (table_in new) number column))
    this_block column same number there = rw same (block_same old new count number (block_in (table_in new) number count) more.same (more.blocks number (there_before number there)))

    earlier_block : (column : ℕ) → column < count + 1 → column ≢ count → read column ≡ true → (number : ℕ) → number < segments_in (table_in new) → IfSome known (HasBlock new column number (block_in (table_in new) number column))
    earlier_block column lt off is number there =
        block_same old new column number (block_in (table_in new) number column) more.same
        (subst (λ (block : List ℕ). IfSome known (HasBlock old column number block)) (sym (more.others column off number)) (has.blocks column (omega (arith, lt, off)) is number (there_before number there)))

    apart : (column : ℕ) → (count + 1 ≤ column) ⊎ (read column ≡ false) → column ≢ count
    apart column (inl le) = λ same. omega (arith, le, same)
    apart column (inr un) = λ same. let e : true ≡ false = sym needed ∙ ap read (sym same) ∙ un in cc e

    unread_before : (column : ℕ) → (count + 1 ≤ column) ⊎ (read column ≡ false) → (count ≤ column) ⊎ (read column ≡ false)
    unread_before column (inl le) = inl (omega (arith, le))
    unread_before column (inr un) = inr un

    blank_block : (column : ℕ) → column < length (schema_of (table_in new)).columns.items → (count + 1 ≤ column) ⊎ (read column ≡ false) → (number : ℕ) → number < segments_in (table_in new)
        → block_in (table_in new) number column ≡ block_bytes (form_of (layout_of (table_in new))) (schema_of (table_in new)).columns.items column []
    blank_block column lt un number there =
        let within : column < length (schema_of (table_in old)).columns.items = omega (arith, lt, ap (λ (s : Schema). length s.columns.items) more.same.schema) in
        more.others column (apart column un) number ∙ has.blank column within (unread_before column un) number (there_before number there)
        ∙ sym (ap₂ (λ (L : Layout) (C : List Column). block_bytes (form_of L) C column []) more.same.layout (ap (λ (s : Schema). s.columns.items) more.same.schema))

    pub added : HasColumns known new read (count + 1)
    added = record {
      blocks = λ column lt is number there. elim (cases_eq column count) [
        | inl same ↦ this_block column same number there
        | inr off ↦ earlier_block column lt off is number there
      ];
      blank = blank_block;
    }

-- a file that was opened, by an equal header
header_moved : (bytes : List ℕ) (version : ℕ) (L M : Layout) (S T : SchemaShape) (n m h k : ℕ) → M ≡ L → T ≡ S → m ≡ n → k ≡ h
    → ◌≡◌ {A = Result (HeaderShape × Tail) Fault} (Ok (record { version = version; layout = L; rows = n; schema = S }, tail h (drop h bytes))) (Ok (record { version = version; layout = M; rows = m; schema = T }, tail k (drop k bytes)))
header_moved bytes version L M S T n m h k a b c d = rw (a, b, c, d) refl

size_moved : (L M : Layout) (C D : List Column) (n m h k : ℕ) → M ≡ L → D ≡ C → m ≡ n → k ≡ h → columnar_length L C h n ≡ columnar_length M D k m
size_moved L M C D n m h k a b c d = rw (a, b, c, d) refl

states_same : (old new : ColumnarTable) (bytes : List ℕ) → SameHeader old new → StatesTable old bytes → StatesTable new bytes
states_same old new bytes same is = record {
  header = (
    is.header.0,
    is.header.1 ∙ header_moved bytes is.header.0 (layout_of (table_in old)) (layout_of (table_in new)) (schema_shape (schema_of (table_in old))) (schema_shape (schema_of (table_in new)))
        (table_in old).rows (table_in new).rows (head_size old) (head_size new) same.layout (ap (λ (s : Schema). schema_shape s) same.schema) same.rows same.head,
  );
  size = is.size ∙ size_moved (layout_of (table_in old)) (layout_of (table_in new)) (schema_of (table_in old)).columns.items (schema_of (table_in new)).columns.items
      (segments_in (table_in old)) (segments_in (table_in new)) (head_size old) (head_size new) same.layout (ap (λ (s : Schema). s.columns.items) same.schema) same.segments same.head;
}

pub opened_same : (known : Option (List ℕ)) (old new : ColumnarTable) → SameHeader old new → IsOpened known old → IsOpened known new
opened_same known old new same opened = if_some known _ _ (λ bytes is. states_same old new bytes same is) opened

-- the same columns were read
pub read_alike : (known : Option (List ℕ)) (columnar : ColumnarTable) (read other : ℕ → Bool) (count : ℕ) → ((column : ℕ) → column < column_count columnar → read column ≡ other column) → count ≤ column_count columnar
    → HasColumns known columnar read count → HasColumns known columnar other count
read_alike known columnar read other count alike within has = record {
  blocks = λ column lt is. has.blocks column lt (alike column (omega (arith, lt, within)) ∙ is);
  blank = λ column lt is. has.blank column lt (elim is [ inl past ↦ inl past | inr un ↦ inr (alike column lt ∙ un) ]);
}

pub damage_alike : (known : Option (List ℕ)) (columnar : ColumnarTable) (read other : ℕ → Bool) (fault : Fault) → ((column : ℕ) → column < column_count columnar → read column ≡ other column)
    → HasDamage known read columnar fault → HasDamage known other columnar fault
damage_alike known columnar read other fault alike damage = record {
  column = damage.column;
  within = damage.within;
  needed = sym (alike damage.column damage.within) ∙ damage.needed;
  before = read_alike known columnar read other damage.column alike (omega (arith, damage.within)) damage.before;
  is = damage.is;
}
