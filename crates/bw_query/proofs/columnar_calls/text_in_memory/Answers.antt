-- The columns that were wanted are those that the query and its program name.
use Rattle.std.proofs.Common.{◌≡◌, ◌∙◌, ap, length, arith}
use Rattle.std.proofs.lemmas.List.FromFn.{length-map-range_with_len}
use Rattle.bw_model.specs.declared.schema.Schema.{Schema}
use Rattle.bw_model.proofs.ErrLemmas.{err_passed_on}
use Rattle.bw_memory.specs.Columnar.{column_count, is_wanted}
use Rattle.bw_memory.specs.MemoryTable.{schema_of}
use Rattle.bw_memory.proofs.ReadColumnsLemmas.{damage_alike, read_alike}
use Rattle.bw_query.specs.NamedColumns.{is_read}
use Rattle.bw_query.specs.Scan.{program_of}
use Rattle.bw_query.proofs.ColumnarExits.{wanted_is}
use Rattle.bw_query.proofs.columnar_calls.text_in_memory.Goals as goal

pub read_columns-requires-clause-each : goal.read_columns-requires-clause-each
read_columns-requires-clause-each g c =
    let count : c.len.result ≡ column_count c.args.columnar.now = omega (arith, c.len.ensures, c.schema.result.now.columns.ok.0, ap (λ (s : Schema). length s.columns.items) (c.schema.ensures ∙ ap schema_of c.table.ensures)) in
    ap length (c.deref.ensures.value ∙ c.in_ok-wanted.ensures.columns) ∙ length-map-range_with_len (is_read (program_of c.args.scan.now) c.args.query.now) 0 c.len.result ∙ count

pub returns-in_err-read_columns-clause-refused : goal.returns-in_err-read_columns-clause-refused
returns-in_err-read_columns-clause-refused g c =
    let known = (g.D.RandomAccess.state c.args.device.now).known in
    let new = c.read_columns.new.self in
    let read = is_read (program_of c.args.scan.now) c.args.query.now in
    let wanted = c.deref.result.now in
    let count : c.len.result ≡ column_count c.args.columnar.now = omega (arith, c.len.ensures, c.schema.result.now.columns.ok.0, ap (λ (s : Schema). length s.columns.items) (c.schema.ensures ∙ ap schema_of c.table.ensures)) in
    let same = ap (λ (s : Schema). length s.columns.items) c.in_err-read_columns.ensures.header.schema in
    rw (err_passed_on _ c.from_residual-in_err-read_columns.ensures.1) (λ own.
    damage_alike known new (is_wanted wanted) read c.in_err-read_columns.field-0.0
    (λ column lt. wanted_is read wanted c.len.result (c.deref.ensures.value ∙ c.in_ok-wanted.ensures.columns) column (omega (arith, lt, count, same))) c.in_err-read_columns.ensures.refused)

pub returns-in-Ok-clause-text : goal.returns-in-Ok-clause-text
returns-in-Ok-clause-text g c = rw c.table-2.ensures at c.in_ok-found.ensures.text

pub returns-in-Ok-clause-read : goal.returns-in-Ok-clause-read
returns-in-Ok-clause-read g c =
    let known = (g.D.RandomAccess.state c.args.device.now).known in
    let new = c.read_columns.new.self in
    let read = is_read (program_of c.args.scan.now) c.args.query.now in
    let wanted = c.deref.result.now in
    let count : c.len.result ≡ column_count c.args.columnar.now = omega (arith, c.len.ensures, c.schema.result.now.columns.ok.0, ap (λ (s : Schema). length s.columns.items) (c.schema.ensures ∙ ap schema_of c.table.ensures)) in
    let same = ap (λ (s : Schema). length s.columns.items) c.in_ok-read_columns.ensures.header.schema in
    read_alike known new (is_wanted wanted) read (column_count new)
    (λ column lt. wanted_is read wanted c.len.result (c.deref.ensures.value ∙ c.in_ok-wanted.ensures.columns) column (omega (arith, lt, count, same))) (omega arith) c.in_ok-read_columns.ensures.read
