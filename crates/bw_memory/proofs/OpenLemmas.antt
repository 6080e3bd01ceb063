-- What is known of a file by columns that is opened.
use Rattle.std.proofs.Common.{◌≡◌, ◌∙◌, sym, ap, ap₂, subst, ℕ, ◌+◌, ◌<◌, min, List, ◌++◌, length, take, drop}
use Rattle.std.proofs.Common.{false, ◌||◌, Option, Some, None, Ok, Err, Result, inl, inr, map, arith}
use Rattle.std.specs.Prelude.{IfSome}
use Rattle.std.proofs.lemmas.Bool.{cases_Bool, cases_lt}
use Rattle.std.proofs.lemmas.List.{take-append-drop, take_all}
use Rattle.bw_model.specs.declared.column.Column.{Column}
use Rattle.bw_model.specs.declared.fault.Fault.{Fault}
use Rattle.bw_model.specs.Fault.{at_byte, is_memory}
use Rattle.bw_model.specs.SchemaText.{column_shape}
use Rattle.bw_io.specs.Source.{is_read_fault}
use Rattle.bw_segment.proofs.FrontLemmas.{if_some}
use Rattle.bw_file.specs.declared.header.Header.{Header}
use Rattle.bw_file.specs.declared.layout.Layout.{Layout}
use Rattle.bw_file.specs.declared.order.FileOrder.TheVariants.{ByColumns}
use Rattle.bw_file.specs.Columnar.{columnar_length}
use Rattle.bw_file.specs.Header.{header_shape}
use Rattle.bw_file.specs.Reading.{Tail, tail}
use Rattle.bw_file.specs.TableReading.{HeaderShape, header_in}
use Rattle.bw_memory.specs.declared.columnar.ColumnarTable.{ColumnarTable}
use Rattle.bw_memory.specs.Columnar.{HasOpenFault, IsOpenFault, IsOpened, StatesHeader, columnar_header}
use Rattle.bw_memory.specs.Columnar.{head_size, table_in}
use Rattle.bw_memory.specs.Filling.{AreBytesAt}
use Rattle.bw_memory.specs.MemoryTable.{layout_of, schema_of, segments_in}

-- the first bytes of a file
pub first_bytes : (known : Option (List ℕ)) (size count : ℕ) (buffer read : List ℕ) → IfSome known (λ bytes. size ≡ length bytes) → count ≡ min size 20000 → length buffer ≡ count → read ≡ buffer
    → IfSome known (AreBytesAt 0 buffer) → IfSome known (λ bytes. read ≡ take 20000 bytes)
first_bytes None size count buffer read long is filled same there = tt
first_bytes (Some bytes) size count buffer read long is filled same there = same ∙ there ∙ elim (cases_lt (length bytes) 20000) [
  | inl less ↦ take_all (length buffer) bytes (omega (arith, less, long, is, filled)) ∙ sym (take_all 20000 bytes (omega (arith, less)))
  | inr enough ↦ ap (λ n. take n bytes) {x = length buffer} {y = 20000} (omega (arith, enough, long, is, filled))
]

-- a header that was rejected
pub open_refused : (known : Option (List ℕ)) (read : List ℕ) (fault : Fault) → (is_memory fault ≡ false → header_in ByColumns (tail 0 read) ≡ Err fault)
    → IfSome known (λ bytes. read ≡ take 20000 bytes) → IsOpenFault known fault
open_refused known read fault refused first = elim (cases_Bool (is_memory fault)) [
  | inl memory ↦ inl (ap (λ b. b || is_read_fault fault) memory)
  | inr kept ↦ inr (if_some known (λ bytes. read ≡ take 20000 bytes) (λ bytes. HasOpenFault bytes fault)
      (λ bytes is. HasOpenFault.header (subst (λ (l : List ℕ). header_in ByColumns (tail 0 l) ≡ Err fault) is (refused kept))) first)
]

-- the header that a table states
pub header_of_table : (columnar : ColumnarTable) (header : Header) → layout_of (table_in columnar) ≡ header.layout → (schema_of (table_in columnar)).name ≡ header.schema.name
    → (schema_of (table_in columnar)).columns.items ≡ header.schema.columns.items → (table_in columnar).rows ≡ header.rows → header_shape header ≡ columnar_header header.version columnar
header_of_table columnar header layout name columns rows =
    ap (λ (l : Layout). made l header.rows header.schema.name header.schema.columns.items) (sym layout)
    ∙ ap (λ (n : ℕ). made (layout_of (table_in columnar)) n header.schema.name header.schema.columns.items) (sym rows)
    ∙ ap₂ (made (layout_of (table_in columnar)) (table_in columnar).rows) (sym name) (sym columns)
  where
    made : Layout → ℕ → List ℕ → List Column → HeaderShape
    made l n text cs = record { version = header.version; layout = l; rows = n; schema = record { name = text; columns = map column_shape cs } }

pub states_header : (columnar : ColumnarTable) (header : Header) (read bytes : List ℕ) → read ≡ take 20000 bytes
    → ((rest : List ℕ) → header_in ByColumns (tail 0 (read ++ rest)) ≡ Ok (header_shape header, tail (head_size columnar) (drop (head_size columnar) (read ++ rest))))
    → header_shape header ≡ columnar_header header.version columnar → StatesHeader columnar bytes
states_header columnar header read bytes is parsed same =
    let all : read ++ drop 20000 bytes ≡ bytes = ap (λ (l : List ℕ). l ++ drop 20000 bytes) is ∙ take-append-drop 20000 bytes in
    let done : HeaderShape → List ℕ → Result (HeaderShape × Tail) Fault = λ h l. Ok (h, tail (head_size columnar) (drop (head_size columnar) l)) in
    (header.version, ap (λ (l : List ℕ). header_in ByColumns (tail 0 l)) (sym all) ∙ parsed (drop 20000 bytes) ∙ ap₂ done same all)

-- a file that is shorter, longer, or as long as it must be
module _ (known : Option (List ℕ)) (columnar : ColumnarTable) (header : Header) (read : List ℕ) (size all : ℕ) (long : IfSome known (λ bytes. size ≡ length bytes))
    (first : IfSome known (λ bytes. read ≡ take 20000 bytes))
    (parsed : (rest : List ℕ) → header_in ByColumns (tail 0 (read ++ rest)) ≡ Ok (header_shape header, tail (head_size columnar) (drop (head_size columnar) (read ++ rest))))
    (same : header_shape header ≡ columnar_header header.version columnar)
    (end : head_size columnar + all ≡ columnar_length (layout_of (table_in columnar)) (schema_of (table_in columnar)).columns.items (head_size columnar) (segments_in (table_in columnar))) where
  abbrev demanded : ℕ
  demanded = columnar_length (layout_of (table_in columnar)) (schema_of (table_in columnar)).columns.items (head_size columnar) (segments_in (table_in columnar))

  both_known : IfSome known (λ bytes. (size ≡ length bytes) × (read ≡ take 20000 bytes))
  both_known = both known long first
    where
      both : (known : Option (List ℕ)) → IfSome known (λ bytes. size ≡ length bytes) → IfSome known (λ bytes. read ≡ take 20000 bytes) → IfSome known (λ bytes. (size ≡ length bytes) × (read ≡ take 20000 bytes))
      both None a b = tt
      both (Some bytes) a b = (a, b)

  pub too_short : size < head_size columnar + all → IsOpenFault known (at_byte 305 size)
  too_short less = inr (if_some known (λ bytes. (size ≡ length bytes) × (read ≡ take 20000 bytes)) (λ bytes. HasOpenFault bytes (at_byte 305 size)) (λ bytes is.
      subst (λ n. HasOpenFault bytes (at_byte 305 n)) (sym is.0) (HasOpenFault.shorter columnar (states_header columnar header read bytes is.1 parsed same) (omega (arith, less, end, is.0)))) both_known)

  pub too_long : head_size columnar + all < size → IsOpenFault known (at_byte 309 (head_size columnar + all))
  too_long more = inr (if_some known (λ bytes. (size ≡ length bytes) × (read ≡ take 20000 bytes)) (λ bytes. HasOpenFault bytes (at_byte 309 (head_size columnar + all))) (λ bytes is.
      subst (λ n. HasOpenFault bytes (at_byte 309 n)) (sym end) (HasOpenFault.longer columnar (states_header columnar header read bytes is.1 parsed same) (omega (arith, more, end, is.0)))) both_known)

  pub is_opened : size ≡ head_size columnar + all → IsOpened known columnar
  is_opened right = if_some known (λ bytes. (size ≡ length bytes) × (read ≡ take 20000 bytes)) _ (λ bytes is. record {
    header = states_header columnar header read bytes is.1 parsed same;
    size = omega (arith, right, end, is.0);
  }) both_known
