-- The columns that were wanted are those that the query and its program name.
use Rattle.std.proofs.Common.{◌≡◌, ◌∙◌, ap, ℕ, ◌<◌, length, sym, arith}
use Rattle.std.proofs.lemmas.List.FromFn.{length-map-range_with_len}
use Rattle.bw_model.specs.declared.schema.Schema.{Schema}
use Rattle.bw_memory.specs.Columnar.{column_count, is_wanted}
use Rattle.bw_memory.specs.MemoryTable.{schema_of}
use Rattle.bw_query.specs.NamedColumns.{is_read}
use Rattle.bw_query.specs.Scan.{program_of}
use Rattle.bw_query.proofs.ColumnarExits.{wanted_is}
use Rattle.bw_query.proofs.PartLemmas.{err_is_not_ok, text_by_parts, text_read_if}
use Rattle.bw_query.proofs.columnar_calls.text_by_columns.Goals as goal
use Rattle.bw_query.proofs.columnar_calls.text_by_columns.Goals.{in_default-via-in-Err+else-is_damage, in_default-via-in-Ok-1}

pub columnar_text-requires-clause-each : goal.columnar_text-requires-clause-each
columnar_text-requires-clause-each g c =
    let count : c.len.result ≡ column_count c.args.columnar.now = omega (arith, c.len.ensures, c.schema.result.now.columns.ok.0, ap (λ (s : Schema). length s.columns.items) (c.schema.ensures ∙ ap schema_of c.table.ensures)) in
    ap length (c.deref.ensures.value ∙ c.in_ok-wanted.ensures.columns) ∙ length-map-range_with_len (is_read (program_of c.args.scan.now) c.args.query.now) 0 c.len.result ∙ count

pub returns-in-Err-clause-text : goal.returns-in-Err-clause-text
returns-in-Err-clause-text g c = text_read_if _ _ c.args.columnar.now c.text_in_memory.new.columnar c.args.query.now c.args.scan.now c.text_in_memory.result c.columnar_text.ensures.same c.text_in_memory.ensures.header c.text_in_memory.ensures.read c.text_in_memory.ensures.text

pub returns-in-Ok-clause-text : goal.returns-in-Ok-clause-text
returns-in-Ok-clause-text g c =
    let read = is_read (program_of c.args.scan.now) c.args.query.now in
    let wanted = c.deref.result.now in
    let count : c.len.result ≡ column_count c.args.columnar.now = omega (arith, c.len.ensures, c.schema.result.now.columns.ok.0, ap (λ (s : Schema). length s.columns.items) (c.schema.ensures ∙ ap schema_of c.table.ensures)) in
    let alike : (column : ℕ) → column < column_count c.args.columnar.now → is_wanted wanted column ≡ read column = λ column lt. wanted_is read wanted c.len.result (c.deref.ensures.value ∙ c.in_ok-wanted.ensures.columns) column (omega (arith, lt, count)) in
    elim c.in_default-1.branch [
      | in_default-via-in-Err+else-is_damage w ↦ absurd (err_is_not_ok w.in-Err.fault c.in_ok-found-in_default.found (sym w.found-is ∙ c.in_ok-found-in_default.was))
      | in_default-via-in-Ok-1 w ↦ text_by_parts _ c.args.columnar.now c.args.query.now c.args.scan.now wanted _ _ c.requires.blank alike (rw (sym w.found-is ∙ c.in_ok-found-in_default.was) at c.columnar_text.ensures.text)
    ]
