-- How long the header of a table file is, and the whole file.
use Rattle.std.proofs.Common.{◌≡◌, ◌∙◌, sym, ap, subst, ℕ, ◌+◌, ◌*◌, All, List, [], ◌∷◌, ◌++◌}
use Rattle.std.proofs.Common.{length, length-append, inl, inr, arith, append-nil}
use Rattle.std.specs.List.{flat_map, list_all}
use Rattle.std.proofs.lemmas.List.Elements.{All-head, All-tail}
use Rattle.bw_model.specs.declared.column.Column.{Column}
use Rattle.bw_model.specs.declared.schema.Schema.{Schema}
use Rattle.bw_model.specs.Column.{admits_values}
use Rattle.bw_model.specs.Groups.{groups_of}
use Rattle.bw_model.specs.Row.{Value}
use Rattle.bw_model.proofs.GroupLemmas.{groups_of-count, groups_of-sizes, groups_of-table}
use Rattle.bw_segment.specs.Meaning.{IsGroup}
use Rattle.bw_segment.proofs.BytesLemmas.{length-text}
use Rattle.bw_file.specs.declared.layout.Layout.{Layout}
use Rattle.bw_file.specs.declared.order.FileOrder.TheVariants.{ByRows}
use Rattle.bw_file.specs.declared.table_reader.TableReader.{TableReader}
use Rattle.bw_file.specs.Blocks.{form_of, segment_size, segment_bytes}
use Rattle.bw_file.specs.FileBytes.{AreRows, IsFileBytes, front_bytes, header_bytes, segments_bytes}
use Rattle.bw_file.specs.FileBytes.{bytes_of_version, version_for}
use Rattle.bw_file.specs.Reading.{State, GoesOn, give, tail}
use Rattle.bw_file.specs.TableReader.{header_stated, layout_in, rows_stated, schema_in, version_in}
use Rattle.bw_file.specs.TableReading.{header}
use Rattle.bw_file.proofs.FileSpelling.{head_is}
use Rattle.bw_file.proofs.ReaderLemmas.{head_at}
use Rattle.bw_file.proofs.SegmentLemmas.{is_packing}
use Rattle.bw_file.proofs.SpellingLemmas.{IsBytes, head_bytes, header_takes}
use Rattle.bw_file.proofs.SpelledBody.{Admits, HasSize, each_admitted, group_under}
use Rattle.bw_csv_calls.specs.Info.{file_size, segment_count}

-- a reader took the bytes of its header
pub header_taken : (start now : State) (reader : TableReader) → start.offset ≡ 0 → GoesOn header start (give (header_stated (version_in reader) reader)) now
    → now.offset ≡ length (header_bytes ByRows (version_in reader) (layout_in reader) (schema_in reader).name (schema_in reader).columns.items (rows_stated reader))
header_taken start now reader first read =
    let h = header_stated (version_in reader) reader in
    let bytes = read.bytes in
    let e = head_at start now h [] first read in
    let fits : IsBytes (bytes ++ []) = subst IsBytes (sym (append-nil bytes)) read.took.each in
    let takes = header_takes ByRows (tail 0 (bytes ++ [])) (h, tail now.offset []) fits e in
    let same : bytes ≡ head_bytes ByRows h = sym (append-nil bytes) ∙ takes.0.parts ∙ append-nil (head_bytes ByRows h) in
    let size : length bytes ≡ length (head_bytes ByRows h) = ap length same in
    let shaped = ap length (head_is ByRows (version_in reader) (rows_stated reader) (layout_in reader) (schema_in reader)) in
    omega (arith, read.took.advanced, size, shaped, first)

-- each group has a segment's bytes
groups_sized : (layout : Layout) (columns : List Column) (groups : List (List (List Value))) → All HasSize groups → All (Admits columns) groups
    → length (flat_map (segment_bytes layout columns) groups) ≡ length groups * segment_size layout columns
groups_sized layout columns [] sized admitted = omega arith
groups_sized layout columns (group ∷ groups) sized admitted =
    let size = All-head HasSize group groups sized in
    let is : IsGroup (group_under columns group) = record { nonempty = size.0; within_limit = size.1; admitted = All-head (Admits columns) group groups admitted } in
    let first : length (segment_bytes layout columns group) ≡ segment_size layout columns = length-text (form_of layout) (is_packing layout) (group_under columns group) is in
    let rest = groups_sized layout columns groups (All-tail HasSize group groups sized) (All-tail (Admits columns) group groups admitted) in
    omega (arith, length-append (segment_bytes layout columns group) (flat_map (segment_bytes layout columns) groups), first, rest)

pub table_sized : (version : ℕ) (layout : Layout) (schema : Schema) (rows : List (List Value)) → AreRows schema.columns.items rows
    → length (bytes_of_version version layout schema.name schema.columns.items rows) ≡ file_size version layout schema (length rows)
unfolding bytes_of_version segments_bytes
table_sized version layout schema rows are =
    let columns = schema.columns.items in
    let head = header_bytes ByRows version layout schema.name columns (length rows) in
    let each = each_admitted columns (groups_of rows) (ap (list_all (admits_values columns)) (groups_of-table rows) ∙ are.admitted) in
    let sized = groups_sized layout columns (groups_of rows) (groups_of-sizes rows) each in
    length-append head (flat_map (segment_bytes layout columns) (groups_of rows)) ∙ ap (λ (n : ℕ). length head + n) (sized ∙ ap (λ (n : ℕ). n * segment_size layout columns) (groups_of-count rows))

-- a header is as long in either version
header_sized : (v w : ℕ) (layout : Layout) (schema : Schema) (rows : ℕ) → file_size v layout schema rows ≡ file_size w layout schema rows
unfolding header_bytes front_bytes
header_sized v w layout schema rows = ap (λ (n : ℕ). n + segment_count rows * segment_size layout schema.columns.items) (simp length-append)

pub file_sized : (bytes : List ℕ) (layout : Layout) (schema : Schema) (rows : List (List Value)) (version : ℕ) → IsFileBytes bytes layout schema rows
    → length bytes ≡ file_size version layout schema (length rows)
file_sized bytes layout schema rows version file =
    elim file.text [
      | inl shorter ↦
          ap length shorter ∙ table_sized (version_for schema.columns.items) layout schema rows file.admitted ∙ header_sized (version_for schema.columns.items) version layout schema (length rows)
      | inr longer ↦ ap length longer ∙ table_sized 2 layout schema rows file.admitted ∙ header_sized 2 version layout schema (length rows)
    ]
