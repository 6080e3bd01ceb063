-- Each exit, by the contracts of its calls.
use Rattle.std.proofs.Common.{List, ℕ, Option, None, Ok, Err, ap, inl, subst, false, ◌≡◌}
use Rattle.bw_model.proofs.ErrLemmas.{err_passed_on}
use Rattle.bw_model.specs.Fault.{is_memory}
use Rattle.bw_io.specs.Source.{is_input_fault}
use Rattle.bw_memory.specs.Columnar.{HasColumns, HasDamage, column_count}
use Rattle.bw_query.specs.NamedColumns.{is_read}
use Rattle.bw_query.specs.TableAnswer.{by_dump}
use Rattle.bw_query.specs.declared.scan.Scan.TheVariants.{Rows}
use Rattle.bw_query.proofs.ColumnarExits.{damage_exit, memory_exit, text_found}
use Rattle.bw_query.proofs.TableExits.{memory_writes_nothing, refused, table_writes_nothing, went}
use Rattle.bw_query.proofs.columnar_calls.dump_by_columns.Goals as goal

pub returns-in_err-columnar-clause-answer : goal.returns-in_err-columnar-clause-answer
returns-in_err-columnar-clause-answer g c =
    let fault = c.in_err-columnar.field-0.0 in
    rw (err_passed_on _ c.from_residual.ensures.1) (Err fault, λ own. inl c.in_err-columnar.ensures.refused, refused (Unit {0}) _ _ (table_writes_nothing fault c.in_err-columnar.ensures.fault))

pub returns-in_err-query-clause-answer : goal.returns-in_err-query-clause-answer
returns-in_err-query-clause-answer g c =
    let fault = c.in_err-query.field-0.0 in
    let memory = c.in_err-query.ensures.only_oom in
    rw (err_passed_on _ c.from_residual-in_err-query.ensures.1) (Err fault, memory_exit by_dump None _ fault (ap is_memory memory), refused (Unit {0}) _ _ (memory_writes_nothing fault memory))

pub returns-in_err-found-clause-answer : goal.returns-in_err-found-clause-answer
returns-in_err-found-clause-answer g c =
    let fault = c.in_err-found.field-0.0 in
    let old = c.in_ok-columnar.columnar in
    let new = c.text_by_columns.new.columnar in
    let query = c.in_ok-query.query in
    let every = rw c.table.ensures at (rw c.schema.ensures at c.in_ok-query.ensures.every) in
    let damage = subst (λ (known : Option (List ℕ)). is_input_fault fault ≡ false → HasDamage known (is_read None query) new fault) c.in_ok-columnar.ensures.same c.in_err-found.ensures.refused in
    rw (err_passed_on _ c.from_residual-in_err-found.ensures.1) (
      Err fault,
      damage_exit by_dump None _ old new query Rows c.in_err-found.ensures.header c.in_ok-columnar.ensures.opened every tt fault damage,
      refused (Unit {0}) _ _ c.in_err-found.ensures.fault,
    )

pub returns-clause-answer : goal.returns-clause-answer
returns-clause-answer g c =
    let old = c.in_ok-columnar.columnar in
    let over = c.in_ok-found.ensures.text in
    let new = over.table in
    let query = c.in_ok-query.query in
    let found = c.in_ok-found.found in
    let every = rw c.table.ensures at (rw c.schema.ensures at c.in_ok-query.ensures.every) in
    let columns = subst (λ (known : Option (List ℕ)). HasColumns known new (is_read None query) (column_count new)) c.in_ok-columnar.ensures.same over.columns in
    let goes = rw c.deref.ensures.value at c.write_whole.ensures in (
      Ok found.text.items,
      text_found by_dump None _ old new query Rows over.same c.in_ok-columnar.ensures.opened every tt found.text.items found.scanned columns over.is,
      went (Unit {0}) _ _ found.text.items c.write_whole.result goes,
    )
