-- A column was read: the file's header is as it was, and the columns that were read stay.
use Rattle.std.proofs.Common.{◌≡◌, ◌≢◌, ◌∙◌, ◌⊎◌, refl, sym, ap, ap₂, subst, ℕ, ◌<◌, false, List, [], Option, length, inl, inr, arith}
use Rattle.std.proofs.Common.{slice_set}
use Rattle.std.specs.Prelude.{Result, Ok, Err, IfSome, OnOk, OnErr, drop, take}
use Rattle.std.proofs.lemmas.Bool.{cases_eq}
use Rattle.std.proofs.lemmas.List.{get_or-set_same, get_or-set_other}
use Rattle.bw_model.specs.declared.column.Column.{Column}
use Rattle.bw_model.specs.declared.fault.Fault.{Fault}
use Rattle.bw_model.specs.declared.schema.Schema.{Schema}
use Rattle.bw_segment.specs.Packing.{block_bytes}
use Rattle.bw_file.specs.Blocks.{block_size, form_of}
use Rattle.bw_file.specs.TableReading.{IsTableFault}
use Rattle.bw_io.specs.Source.{is_input_fault}
use Rattle.bw_file.specs.declared.layout.Layout.{Layout}
use Rattle.bw_memory.specs.Columnar.{HasReadColumn, SameHeader, column_count, head_size, place_in, table_in}
use Rattle.bw_memory.specs.ColumnStore.{FileHeader, HasColumn, HasColumnFault, IsBlankColumn, IsTableOf, header_of, in_file}
use Rattle.bw_memory.specs.declared.column_state.ColumnState.{ColumnState}
use Rattle.bw_memory.specs.declared.column_state.ColumnState.TheVariants as state
use Rattle.bw_memory.specs.FileColumns.{HasColumnDamage, HasColumnsRead, IsBlankElsewhere, state_of}
use Rattle.bw_memory.specs.MemoryTable.{layout_of, schema_of, segments_in}
use Rattle.bw_memory.specs.declared.columnar.ColumnarTable.{ColumnarTable}

header_moved : (L M : Layout) (S T : Schema) (r s n m h k : ℕ) → M ≡ L → T ≡ S → s ≡ r → m ≡ n → k ≡ h
    → ◌≡◌ {A = FileHeader} (record { layout = M; schema = T; rows = s; segments = m; head = k }) (record { layout = L; schema = S; rows = r; segments = n; head = h })
header_moved L M S T r s n m h k a b c d e = rw (a, b, c, d, e) refl

pub header_same : (old new : ColumnarTable) → SameHeader old new → header_of new ≡ header_of old
header_same old new same =
    header_moved (layout_of (table_in old)) (layout_of (table_in new)) (schema_of (table_in old)) (schema_of (table_in new)) (table_in old).rows (table_in new).rows
    (segments_in (table_in old)) (segments_in (table_in new)) (head_size old) (head_size new) same.layout same.schema same.rows same.segments same.head

-- the column that was read is the file's
pub column_read : (known : Option (List ℕ)) (old new : ColumnarTable) (column : ℕ) → HasReadColumn known old new column
    → HasColumn (in_file known (header_of old)) (table_in new) column
column_read known old new column more = more.blocks

-- and the others stay
pub column_kept : (known : Option (List ℕ)) (old new : ColumnarTable) (column : ℕ) → HasReadColumn known old new column
    → (other : ℕ) → HasColumn (in_file known (header_of old)) (table_in old) other → HasColumn (in_file known (header_of old)) (table_in new) other
column_kept known old new column more other has = elim (cases_eq other column) [
  | inl same ↦ subst (HasColumn (in_file known (header_of old)) (table_in new)) (sym same) (column_read known old new column more)
  | inr off ↦ λ number there. subst (λ (block : List ℕ). IfSome known (λ bytes. block ≡ take (block_size (layout_of (table_in old)) (schema_of (table_in old)).columns.items other) (drop (place_in old other number) bytes)))
      (sym (more.others other off number)) (has number there)
]

-- a column that wasn't read stays blank
pub blank_kept : (known : Option (List ℕ)) (old new : ColumnarTable) (column : ℕ) → HasReadColumn known old new column → (other : ℕ) → other ≢ column
    → IsBlankColumn (table_in old) other → IsBlankColumn (table_in new) other
blank_kept known old new column more other off blank number there =
    more.others other off number ∙ blank number (omega (arith, there, more.same.segments))
    ∙ sym (ap₂ (λ (L : Layout) (C : List Column). block_bytes (form_of L) C other []) more.same.layout (ap (λ (s : Schema). s.columns.items) more.same.schema))

-- one column more was read
module _ (known : Option (List ℕ)) (old new : ColumnarTable) (column : ℕ) (more : HasReadColumn known old new column) (states : List ColumnState) (within : column < length states) where
  abbrev pub after : List ColumnState
  after = slice_set states column state.Read

  pub have_more : HasColumnsRead known old states → HasColumnsRead known new after
  have_more have other is = subst (λ (h : FileHeader). HasColumn (in_file known h) (table_in new) other) (sym (header_same old new more.same)) (elim (cases_eq column other) [
    | inl same ↦ subst (HasColumn (in_file known (header_of old)) (table_in new)) same (column_read known old new column more)
    | inr off ↦ column_kept known old new column more other (have other (sym (get_or-set_other states column other state.Read state.Unread (λ same. off (sym same))) ∙ is))
  ])

  pub blank_else : IsBlankElsewhere old states → IsBlankElsewhere new after
  blank_else blank other lt unread = elim (cases_eq column other) [
    | inl same ↦ absurd (unread (ap (state_of after) (sym same) ∙ get_or-set_same states column state.Read state.Unread within))
    | inr off ↦ blank_kept known old new column more other (λ same. off (sym same)) (blank other (omega (arith, lt, ap (λ (s : Schema). length s.columns.items) more.same.schema))
        (λ read. unread (get_or-set_other states column other state.Read state.Unread (λ same. off (sym same)) ∙ read)))
  ]

  pub damage_stays : HasColumnDamage known old states → HasColumnDamage known new after
  damage_stays damage other fault is = elim (cases_eq column other) [
    | inl same ↦ absurd (let e : state.Read ≡ state.Damaged fault = sym (get_or-set_same states column state.Read state.Unread within) ∙ ap (state_of after) same ∙ is in cc e)
    | inr off ↦
        let was = damage other fault (sym (get_or-set_other states column other state.Read state.Unread (λ same. off (sym same))) ∙ is) in
        (subst (λ (h : FileHeader). HasColumnFault (in_file known h) other fault) (sym (header_same old new more.same)) was.0, was.1, was.2)
  ]

-- a column that wasn't read is damaged
module _ (known : Option (List ℕ)) (columnar : ColumnarTable) (column : ℕ) (states : List ColumnState) (within : column < length states) (found : Fault) where
  abbrev pub damaged : List ColumnState
  damaged = slice_set states column (state.Damaged found)

  pub have_still : HasColumnsRead known columnar states → HasColumnsRead known columnar damaged
  have_still have other is = elim (cases_eq column other) [
    | inl same ↦ absurd (let e : state.Damaged found ≡ state.Read = sym (get_or-set_same states column (state.Damaged found) state.Unread within) ∙ ap (state_of damaged) same ∙ is in cc e)
    | inr off ↦ have other (sym (get_or-set_other states column other (state.Damaged found) state.Unread (λ same. off (sym same))) ∙ is)
  ]

  pub blank_still : state_of states column ≡ state.Unread → IsBlankElsewhere columnar states → IsBlankElsewhere columnar damaged
  blank_still unread blank other lt is = blank other lt (elim (cases_eq column other) [
    | inl same ↦ λ read. let e : state.Unread ≡ state.Read = sym unread ∙ ap (state_of states) same ∙ read in cc e
    | inr off ↦ λ read. is (get_or-set_other states column other (state.Damaged found) state.Unread (λ same. off (sym same)) ∙ read)
  ])

  pub one_more_damaged : HasColumnFault (in_file known (header_of columnar)) column found → IsTableFault found → is_input_fault found ≡ false
      → HasColumnDamage known columnar states → HasColumnDamage known columnar damaged
  one_more_damaged fault table input damage other any is = elim (cases_eq column other) [
    | inl same ↦
        let e : found ≡ any = damaged_is (sym (get_or-set_same states column (state.Damaged found) state.Unread within) ∙ ap (state_of damaged) same ∙ is) in (
          subst (λ (n : ℕ). HasColumnFault (in_file known (header_of columnar)) n any) same (subst (HasColumnFault (in_file known (header_of columnar)) column) e fault),
          subst IsTableFault e table,
          subst (λ (f : Fault). is_input_fault f ≡ false) e input,
        )
    | inr off ↦ damage other any (sym (get_or-set_other states column other (state.Damaged found) state.Unread (λ same. off (sym same))) ∙ is)
  ]
    where
      damaged_is : {x y : Fault} → state.Damaged x ≡ state.Damaged y → x ≡ y
      damaged_is e = cc e

-- each column was read or is blank
pub table_is : (known : Option (List ℕ)) (columnar : ColumnarTable) (states : List ColumnState) → HasColumnsRead known columnar states → IsBlankElsewhere columnar states
    → IsTableOf (in_file known (header_of columnar)) (table_in columnar)
table_is known columnar states have blank = record { layout = refl; schema = refl; rows = refl; segments = refl; each = λ other lt. by_state other lt (state_of states other) refl }
  where
    by_state : (other : ℕ) → other < column_count columnar → (s : ColumnState) → state_of states other ≡ s
        → HasColumn (in_file known (header_of columnar)) (table_in columnar) other ⊎ IsBlankColumn (table_in columnar) other
    by_state other lt state.Read e = inl (have other e)
    by_state other lt state.Unread e = inr (blank other lt (λ read. let u : state.Unread ≡ state.Read = sym e ∙ read in cc u))
    by_state other lt (state.Damaged fault) e = inr (blank other lt (λ read. let u : state.Damaged fault ≡ state.Read = sym e ∙ read in cc u))

-- the header is as it was, whether a column was read or not
pub header_after : (known : Option (List ℕ)) (old new : ColumnarTable) (column : ℕ) (result : Result (Unit {0}) Fault) → OnOk result (HasReadColumn known old new column) → OnErr result (new ≡ old)
    → header_of new ≡ header_of old
header_after known old new column (Ok x) more same = header_same old new more.same
header_after known old new column (Err fault) more same = ap header_of same
