-- Each exit, by the contracts of its calls.
use Rattle.std.proofs.Common.{◌≡◌, ◌∙◌, ap, inl, refl, sym, subst, Ok, Err, length}
use Rattle.bw_model.specs.Fault.{nowhere}
use Rattle.bw_model.proofs.ErrLemmas.{err_passed_on}
use Rattle.bw_io.specs.Sink.{none_aside}
use Rattle.bw_io.specs.Source.{is_input_fault}
use Rattle.bw_io.proofs.SinkLemmas.{wrote_text}
use Rattle.bw_memory.specs.declared.table.MemoryTable.{MemoryTable}
use Rattle.bw_memory.specs.Columnar.{columnar_size, table_in}
use Rattle.bw_memory.specs.MemoryTable.{layout_of, rows_of, schema_of}
use Rattle.bw_csv_calls.proofs.FactLemmas.{info_same}
use Rattle.bw_csv_calls.proofs.InfoExits.{refused_memory, refused_table}
use Rattle.bw_csv_calls.proofs.info_call.info_by_columns.Goals as goal

pub returns-in_err-columnar-clause-info : goal.returns-in_err-columnar-clause-info
returns-in_err-columnar-clause-info g c =
    let fault = c.in_err-columnar.field-0.0 in
    rw (err_passed_on _ c.from_residual.ensures.1) (Err fault, c.in_err-columnar.ensures.refused, refused_table _ fault c.in_err-columnar.ensures.fault)

pub returns-in_err-text-clause-info : goal.returns-in_err-text-clause-info
returns-in_err-text-clause-info g c =
    let fault = c.in_err-text.field-0.0 in
    let memory = c.in_err-text.ensures.only_oom in
    rw (err_passed_on _ c.from_residual-in_err-text.ensures.1) (Err fault, inl (ap is_input_fault memory), refused_memory _ fault memory)

pub returns-then-is_err-clause-info : goal.returns-then-is_err-clause-info
returns-then-is_err-clause-info g c = rw c.new.ensures (Err (nowhere 701), inl refl, refused_table _ (nowhere 701) refl)

pub returns-clause-info : goal.returns-clause-info
returns-clause-info g c =
    let columnar = c.in_ok-columnar.columnar in
    let table = c.table-table.result.now in
    let text = c.in_ok-text.text.items in
    let is = c.table-table.ensures in
    let schema = c.schema.ensures ∙ ap (λ (t : MemoryTable). schema_of t) is in
    let same = info_same 2 2 c.layout.result (layout_of (table_in columnar)) c.schema.result.now (schema_of (table_in columnar)) c.rows.result (length (rows_of (table_in columnar))) c.size.result (columnar_size columnar)
    refl (c.layout.ensures ∙ ap (λ (t : MemoryTable). layout_of t) is) schema (c.rows.ensures ∙ ap (λ (t : MemoryTable). length (rows_of t)) is) c.size.ensures in
    let goes = rw c.deref.ensures.value at c.write_whole.ensures in (
      Ok text,
      record { columnar = columnar; opened = c.in_ok-columnar.ensures.opened; is = c.in_ok-text.ensures.text ∙ same; spelled = rw schema at c.in_ok-text.ensures.spelled },
      wrote_text (Unit {0}) none_aside _ _ _ _ c.write_whole.result refl goes,
    )
