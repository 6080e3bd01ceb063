-- Whole tables, row by row.
use Rattle.std.proofs.Common.{◌≡◌, ℕ, zero, suc, ◌+◌, ◌<◌, ◌≤◌, true, List, [], ◌∷◌, ◌++◌, length}
use Rattle.std.proofs.Common.{get_or, map, take, Some, Ok, Err, Bool, false, if◌then◌else◌, refl}
use Rattle.std.proofs.Common.{ap, ◌∙◌, arith, append-nil, take_all}
use Rattle.std.specs.List.{list_all}
use Rattle.bw_model.specs.declared.column.Column.{Column}
use Rattle.bw_model.specs.declared.row.Row.{Row}
use Rattle.bw_model.specs.Column.{admits_values}
use Rattle.bw_model.specs.Groups.{together}
use Rattle.bw_model.specs.Row.{Value, values_of}
use Rattle.bw_model.proofs.BitsLemmas.{both}
use Rattle.bw_segment.proofs.CodeLemmas.{length_admitted}
use Rattle.bw_file.specs.declared.segments.AnySegment.{AnySegment}
use Rattle.bw_model.specs.declared.schema.Schema.{Schema}
use Rattle.bw_file.specs.declared.encoder.Encoder.{Encoder}
use Rattle.bw_file.specs.declared.layout.Layout.{Layout}
use Rattle.bw_file.specs.Encoder.{Holds, encoder_layout, encoder_schema}
use Rattle.bw_model.specs.declared.fault.Fault.{Fault}
use Rattle.bw_model.specs.Fault.{is_memory}
use Rattle.bw_model.specs.SchemaText.{schema_shape}
use Rattle.bw_file.specs.declared.table_reader.TableReader.{TableReader}
use Rattle.bw_io.specs.Source.{is_read_fault, source_state}
use Rattle.bw_file.specs.Reading.{State, state_at}
use Rattle.bw_file.specs.TableReader.{AnswersFault, ReadWhole, found_so_far}
use Rattle.bw_file.specs.TableReading.{Found, IsReadAs}
use Rattle.bw_file.specs.FileBytes.{file_bytes}
use Rattle.bw_file.specs.AnySegment.{any_meaning, any_is_group}

-- columns that admit all rows admit each
pub admitted_in : (columns : List Column) (rows : List (List Value)) (i : ℕ) → list_all (admits_values columns) rows ≡ true → i < length rows
    → admits_values columns (get_or rows i []) ≡ true
admitted_in columns [] i all lt = absurd (omega (arith, lt))
admitted_in columns (row ∷ rows) zero all lt = (both (admits_values columns row) (list_all (admits_values columns) rows) all).0
admitted_in columns (row ∷ rows) (suc i) all lt =
    admitted_in columns rows i (both (admits_values columns row) (list_all (admits_values columns) rows) all).1 (omega (arith, lt))

-- a row of a segment has a value a column
pub row_wide : (segment : AnySegment) (i : ℕ) → i < length (any_meaning segment).rows → length (get_or (any_meaning segment).rows i []) ≡ length (any_meaning segment).columns
row_wide segment i lt =
    length_admitted (any_meaning segment).columns (get_or (any_meaning segment).rows i [])
    (admitted_in (any_meaning segment).columns (any_meaning segment).rows i (any_is_group segment).admitted lt)

-- table files of equal parts are equal
pub bytes_alike : (a b : Layout) (x y : Schema) (rows : List (List Value)) → a ≡ b → x.name ≡ y.name → x.columns.items ≡ y.columns.items → file_bytes a x rows ≡ file_bytes b y rows
bytes_alike a b x y rows layout name columns = rw (layout, name, columns) refl

-- the text of what an encoder was given, if it was given all rows
pub bytes_of_all : (encoder : Encoder) (layout : Layout) (schema : Schema) (rows : List Row) (count : ℕ) (bytes : List ℕ) → length rows ≤ count
    → encoder_layout encoder ≡ layout → (encoder_schema encoder).name ≡ schema.name → (encoder_schema encoder).columns.items ≡ schema.columns.items
    → ((given : List (List Value)) → Holds encoder given → bytes ≡ file_bytes (encoder_layout encoder) (encoder_schema encoder) given)
    → Holds encoder (map values_of (take count rows)) → bytes ≡ file_bytes layout schema (map values_of rows)
bytes_of_all encoder layout schema rows count bytes all same_layout same_name same_columns text holds =
    let whole : take count rows ≡ rows = take_all count rows all in
    text (map values_of (take count rows)) holds ∙ bytes_alike (encoder_layout encoder) layout (encoder_schema encoder) schema (map values_of (take count rows)) same_layout same_name same_columns
    ∙ ap (λ given. file_bytes layout schema (map values_of given)) whole

-- a source that never fails answers no failed read, so what is rejected is the first error of its
-- bytes
pub no_read_failed : (failed : Bool) → 0 ≡ 0 + (if failed then 1 else 0) → failed ≡ false
no_read_failed true e = absurd (omega (arith, e))
no_read_failed false e = refl

pub fault_seen : (bytes last : List ℕ) (before : State) (offset : ℕ) (fault : Fault) → before.failures ≡ 0
    → AnswersFault (state_at (source_state (Some bytes) 0) 0) before (state_at (source_state (Some last) 0) offset) fault → is_memory fault ≡ false → IsReadAs bytes (Err fault)
fault_seen bytes last before offset fault none p kept =
    let own : is_read_fault fault ≡ false = no_read_failed (is_read_fault fault) (rw none at p.failures) in
    let has = p.first (rw (kept, own) refl) in
    let all : bytes ≡ p.bytes ++ has.rest = p.took.consumed ∙ ap (λ (more : List ℕ). p.bytes ++ more) has.coming in
    rw all has.read

pub whole_seen : (bytes last : List ℕ) (offset : ℕ) (found : Found) → ReadWhole (state_at (source_state (Some bytes) 0) 0) (state_at (source_state (Some last) 0) offset) found → IsReadAs bytes (Ok found)
whole_seen bytes last offset found p =
    let all : bytes ≡ p.bytes = p.took.consumed ∙ ap (λ (more : List ℕ). p.bytes ++ more) p.ended ∙ append-nil p.bytes in
    rw all p.read

pub found_same : (bytes : List ℕ) (reader : TableReader) (groups : List (List (List Value))) (layout : Layout) (schema : Schema) (rows : List (List Value)) → layout ≡ reader.layout
    → schema.name ≡ reader.placement.value.schema.name → schema.columns.items ≡ reader.placement.value.schema.columns.items → rows ≡ together groups
    → IsReadAs bytes (Ok (found_so_far reader groups)) → IsReadAs bytes (Ok (record { layout = layout; schema = schema_shape schema; rows = rows }))
found_same bytes reader groups layout schema rows same_layout same_name same_columns same_rows read = rw (same_layout, same_name, same_columns, same_rows) read
