-- Each exit, by the contracts of its calls.
use Rattle.std.proofs.Common.{List, ℕ, Option, Ok, Err, inl, subst, sym, false, ◌≡◌}
use Rattle.bw_model.proofs.ErrLemmas.{err_passed_on}
use Rattle.bw_model.specs.declared.schema.Schema.{Schema}
use Rattle.bw_model.specs.Groups.{groups_of}
use Rattle.bw_io.specs.Source.{is_input_fault}
use Rattle.bw_report.specs.declared.served.Served.{Served}
use Rattle.bw_memory.specs.Columnar.{HasColumns, HasDamage, column_count, table_in}
use Rattle.bw_memory.specs.MemoryTable.{rows_of, schema_of}
use Rattle.bw_query.specs.NamedColumns.{is_read}
use Rattle.bw_query.specs.Scan.{IsChosen, given_file, program_of}
use Rattle.bw_query.specs.TableAnswer.{by_statement}
use Rattle.bw_query.proofs.ColumnarExits.{damage_exit, rejected_exit, text_found}
use Rattle.bw_query.proofs.MemoryExits.{scan_counts}
use Rattle.bw_query.proofs.ScanLemmas.{serves}
use Rattle.bw_query.proofs.TableExits.{refused, table_writes_nothing, went}
use Rattle.bw_query.proofs.columnar_calls.answer_by_columns.Goals as goal

pub returns-in_err-columnar-clause-answer : goal.returns-in_err-columnar-clause-answer
returns-in_err-columnar-clause-answer g c =
    let fault = c.in_err-columnar.field-0.0 in
    rw (err_passed_on _ c.from_residual.ensures.1) (Err fault, λ own. inl c.in_err-columnar.ensures.refused, refused Served _ _ (table_writes_nothing fault c.in_err-columnar.ensures.fault))

pub returns-in_err-prepared-clause-answer : goal.returns-in_err-prepared-clause-answer
returns-in_err-prepared-clause-answer g c =
    let fault = c.in_err-prepared.field-0.0 in
    let columnar = c.in_ok-columnar.columnar in
    let file = given_file c.args.program in
    let asks = by_statement file c.args.sql.now in
    let no = rw c.table.ensures at (rw c.schema.ensures at c.in_err-prepared.ensures.refused) in
    rw (err_passed_on _ c.from_residual-in_err-prepared.ensures.1) (Err fault, rejected_exit asks file _ columnar fault c.in_ok-columnar.ensures.opened no, refused Served _ _ c.in_err-prepared.ensures.fault)

pub returns-in_err-found-clause-answer : goal.returns-in_err-found-clause-answer
returns-in_err-found-clause-answer g c =
    let fault = c.in_err-found.field-0.0 in
    let old = c.in_ok-columnar.columnar in
    let new = c.text_by_columns.new.columnar in
    let prepared = c.in_ok-prepared.prepared in
    let file = given_file c.args.program in
    let asks = by_statement file c.args.sql.now in
    let asked = rw c.table.ensures at (rw c.schema.ensures at c.in_ok-prepared.ensures.asked) in
    let chosen = rw c.table.ensures at (rw c.schema.ensures at c.in_ok-prepared.ensures.chosen) in
    let damage = subst (λ (known : Option (List ℕ)). is_input_fault fault ≡ false → HasDamage known (is_read (program_of prepared.scan) prepared.query) new fault) c.in_ok-columnar.ensures.same c.in_err-found.ensures.refused in
    rw (err_passed_on _ c.from_residual-in_err-found.ensures.1) (
      Err fault,
      damage_exit asks file _ old new prepared.query prepared.scan c.in_err-found.ensures.header c.in_ok-columnar.ensures.opened asked chosen fault damage,
      refused Served _ _ c.in_err-found.ensures.fault,
    )

pub returns-in_err-write_whole-clause-answer : goal.returns-in_err-write_whole-clause-answer
returns-in_err-write_whole-clause-answer g c =
    let old = c.in_ok-columnar.columnar in
    let over = c.in_ok-found.ensures.text in
    let new = over.table in
    let prepared = c.in_ok-prepared.prepared in
    let found = c.in_ok-found.found in
    let file = given_file c.args.program in
    let asks = by_statement file c.args.sql.now in
    let asked = rw c.table.ensures at (rw c.schema.ensures at c.in_ok-prepared.ensures.asked) in
    let chosen = rw c.table.ensures at (rw c.schema.ensures at c.in_ok-prepared.ensures.chosen) in
    let columns = subst (λ (known : Option (List ℕ)). HasColumns known new (is_read (program_of prepared.scan) prepared.query) (column_count new)) c.in_ok-columnar.ensures.same over.columns in
    let goes = rw c.deref.ensures.value at c.in_err-write_whole.ensures in
    rw (err_passed_on _ c.from_residual-in_err-write_whole.ensures.1) (
      Ok found.text.items,
      text_found asks file _ old new prepared.query prepared.scan over.same c.in_ok-columnar.ensures.opened asked chosen found.text.items found.scanned columns over.is,
      went Served (g.K.Sink.state c.args.sink.now) (g.K.Sink.state c.write_whole.new.sink) found.text.items (Err c.in_err-write_whole.field-0.0) goes,
    )

pub returns-clause-served : goal.returns-clause-served
returns-clause-served g c =
    let old = c.in_ok-columnar.columnar in
    let over = c.in_ok-found.ensures.text in
    let new = over.table in
    let prepared = c.in_ok-prepared.prepared in
    let found = c.in_ok-found.found in
    let file = given_file c.args.program in
    let asks = by_statement file c.args.sql.now in
    let asked = rw c.table.ensures at (rw c.schema.ensures at c.in_ok-prepared.ensures.asked) in
    let chosen = rw c.table.ensures at (rw c.schema.ensures at c.in_ok-prepared.ensures.chosen) in
    let columns = subst (λ (known : Option (List ℕ)). HasColumns known new (is_read (program_of prepared.scan) prepared.query) (column_count new)) c.in_ok-columnar.ensures.same over.columns in
    let goes = rw c.deref.ensures.value at c.in_ok-write_whole.ensures in
    let same = over.same in
    let counts = scan_counts (table_in new) prepared.query prepared.scan found.text.items found.scanned over.is in
    let chosen_new = subst (λ (schema : Schema). IsChosen file schema.columns.items prepared.query.cond prepared.scan) (sym same.schema) chosen in
    rw c.report_of.ensures (
      found.text.items,
      text_found asks file _ old new prepared.query prepared.scan same c.in_ok-columnar.ensures.opened asked chosen found.text.items found.scanned columns over.is,
      goes.0,
      serves file (schema_of (table_in new)) prepared.query (groups_of (rows_of (table_in new))) prepared.scan found.scanned chosen_new counts,
    )

pub returns-clause-answer : goal.returns-clause-answer
returns-clause-answer g c =
    let old = c.in_ok-columnar.columnar in
    let over = c.in_ok-found.ensures.text in
    let new = over.table in
    let prepared = c.in_ok-prepared.prepared in
    let found = c.in_ok-found.found in
    let file = given_file c.args.program in
    let asks = by_statement file c.args.sql.now in
    let asked = rw c.table.ensures at (rw c.schema.ensures at c.in_ok-prepared.ensures.asked) in
    let chosen = rw c.table.ensures at (rw c.schema.ensures at c.in_ok-prepared.ensures.chosen) in
    let columns = subst (λ (known : Option (List ℕ)). HasColumns known new (is_read (program_of prepared.scan) prepared.query) (column_count new)) c.in_ok-columnar.ensures.same over.columns in
    let goes = rw c.deref.ensures.value at c.in_ok-write_whole.ensures in (
      Ok found.text.items,
      text_found asks file _ old new prepared.query prepared.scan over.same c.in_ok-columnar.ensures.opened asked chosen found.text.items found.scanned columns over.is,
      went Served _ _ found.text.items (Ok c.report_of.result) goes,
    )
