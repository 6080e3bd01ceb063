-- Each exit, by the contracts of its calls.
use Rattle.std.proofs.Common.{◌≡◌, ◌∙◌, ◌-◌, ℕ, List, Ok, Err, None, ap, arith, inl, inr, refl, subst}
use Rattle.bw_model.proofs.ErrLemmas.{err_passed_on}
use Rattle.bw_io.proofs.SinkLemmas.{no_write_fault}
use Rattle.bw_model.specs.Fault.{is_memory}
use Rattle.bw_memory.specs.ColumnStore.{ColumnSource}
use Rattle.bw_memory.specs.MemoryTable.{schema_of, segments_in}
use Rattle.bw_memory.specs.Settled.{HasNoVerdicts}
use Rattle.bw_sql.specs.QueryShape.{query_shape}
use Rattle.bw_query.specs.ProgramChoice.{IsServedAmong}
use Rattle.bw_query.specs.Segments.{groups_left}
use Rattle.bw_query.specs.Served.{finder_of, report_of}
use Rattle.bw_query.specs.Settled.{only_counts}
use Rattle.bw_query.specs.TableAnswer.{by_statement}
use Rattle.bw_query.specs.declared.served.StoreServed.{StoreServed}
use Rattle.bw_query.proofs.CacheLemmas.{serves_among}
use Rattle.bw_query.proofs.StoreLemmas.{open_settled, store_memory, store_served, store_text, text_here}
use Rattle.bw_query.proofs.TableExits.{memory_output, memory_writes_nothing, refused, table_writes_nothing}
use Rattle.bw_query.proofs.TableExits.{statement_writes_nothing, went}
use Rattle.bw_query.proofs.memory_calls.answer_with_programs.Goals as goal

pub returns-in_err-query-clause-answer : goal.returns-in_err-query-clause-answer
returns-in_err-query-clause-answer g c =
    let read = rw c.table.ensures.table at (rw c.schema.ensures at c.in_err-query.ensures.read) in
    rw (err_passed_on _ c.from_residual.ensures.1) (Err c.in_err-query.field-0.0, λ other. inl (inl (read other)), refused StoreServed _ _ (statement_writes_nothing c.in_err-query.field-0.0 c.in_err-query.ensures.fault))

pub returns-in_err-read_named-clause-answer : goal.returns-in_err-read_named-clause-answer
returns-in_err-read_named-clause-answer g c =
    let fault = c.in_err-read_named.field-0.0 in
    let read = rw c.table.ensures.table at (rw c.schema.ensures at c.in_ok-query.ensures.read) in
    rw (err_passed_on _ c.from_residual-in_err-read_named.ensures.1) (
      Err fault,
      λ other. inr (record { query = c.in_ok-query.query; asked = (read, tt); fails = c.in_err-read_named.ensures.refused }),
      refused StoreServed _ _ (table_writes_nothing fault c.in_err-read_named.ensures.fault),
    )

pub returns-in_err-number-clause-answer : goal.returns-in_err-number-clause-answer
returns-in_err-number-clause-answer g c =
    let fault = c.in_err-number.field-0.0 in
    let memory = ap is_memory c.in_err-number.ensures.only_oom in
    rw (err_passed_on _ c.from_residual-in_err-number.ensures.1) (Err fault, store_memory (by_statement None c.args.sql.now) _ _ fault memory, refused StoreServed _ _ (no_write_fault is_memory fault memory refl))

pub returns-in_err-found-clause-answer : goal.returns-in_err-found-clause-answer
returns-in_err-found-clause-answer g c =
    let fault = c.in_err-found.field-0.0 in
    let memory = c.in_err-found.ensures.only_oom in
    rw (err_passed_on _ c.from_residual-in_err-found.ensures.1)
    (Err fault, store_memory (by_statement None c.args.sql.now) _ _ fault (ap is_memory memory), refused StoreServed _ _ (memory_writes_nothing fault memory))

pub returns-in_err-verdicts-clause-answer : goal.returns-in_err-verdicts-clause-answer
returns-in_err-verdicts-clause-answer g c =
    let fault = c.in_err-verdicts.field-0.0 in
    let memory = c.in_err-verdicts.ensures.only_oom in
    rw (err_passed_on _ c.from_residual-in_err-verdicts.ensures.1)
    (Err fault, store_memory (by_statement None c.args.sql.now) _ _ fault (ap is_memory memory), refused StoreServed _ _ (memory_writes_nothing fault memory))

pub returns-in_err-write_whole-clause-answer : goal.returns-in_err-write_whole-clause-answer
returns-in_err-write_whole-clause-answer g c =
    let table = g.C.ColumnStore.table c.read_named.new.store in
    let verdicts = c.in_ok-verdicts.verdicts.items in
    let query = c.in_ok-query.query in
    let scan = c.scan-scan.result.now in
    let found = c.in_ok-found.found in
    let read = rw c.table.ensures.table at (rw c.schema.ensures at c.in_ok-query.ensures.read) in
    let over = text_here table verdicts query scan c.table-3.result.now c.deref.result.now found.text.items found.scanned c.table-3.ensures.table c.deref.ensures.value c.in_ok-found.ensures.text in
    let goes = rw c.deref-2.ensures.value at c.in_err-write_whole.ensures in
    rw (err_passed_on _ c.from_residual-in_err-write_whole.ensures.1) (
      _,
      store_text (by_statement None c.args.sql.now) _ _ table verdicts query c.in_ok-read_named.ensures.schema (read, tt) c.in_ok-read_named.ensures.rows scan found.text.items found.scanned over,
      went StoreServed (g.K.Sink.state c.args.sink.now) (g.K.Sink.state c.write_whole.new.sink) found.text.items (Err c.in_err-write_whole.field-0.0) goes,
    )

pub returns-clause-answer : goal.returns-clause-answer
returns-clause-answer g c =
    let table = g.C.ColumnStore.table c.read_named.new.store in
    let verdicts = c.in_ok-verdicts.verdicts.items in
    let query = c.in_ok-query.query in
    let scan = c.scan-scan.result.now in
    let found = c.in_ok-found.found in
    let read = rw c.table.ensures.table at (rw c.schema.ensures at c.in_ok-query.ensures.read) in
    let over = text_here table verdicts query scan c.table-3.result.now c.deref.result.now found.text.items found.scanned c.table-3.ensures.table c.deref.ensures.value c.in_ok-found.ensures.text in
    let goes = rw c.deref-2.ensures.value at c.in_ok-write_whole.ensures in (
      _,
      store_text (by_statement None c.args.sql.now) _ _ table verdicts query c.in_ok-read_named.ensures.schema (read, tt) c.in_ok-read_named.ensures.rows scan found.text.items found.scanned over,
      went StoreServed _ _ found.text.items (Ok _) goes,
    )

pub overflow_sub-result : goal.overflow_sub-result
overflow_sub-result g c =
    let table = g.C.ColumnStore.table c.read_named.new.store in
    let verdicts = c.in_ok-verdicts.verdicts.items in
    let query = c.in_ok-query.query in
    let scan = c.scan-scan.result.now in
    let found = c.in_ok-found.found in
    let same = c.table-4.ensures.table in
    let over = text_here table verdicts query scan c.table-3.result.now c.deref.result.now found.text.items found.scanned c.table-3.ensures.table c.deref.ensures.value c.in_ok-found.ensures.text in
    omega (arith, c.segments.ensures, ap segments_in same, (open_settled table verdicts query scan found.text.items found.scanned over c.in_ok-verdicts.ensures.verdicts).0)

pub returns-clause-served : goal.returns-clause-served
returns-clause-served g c =
    let table = g.C.ColumnStore.table c.read_named.new.store in
    let verdicts = c.in_ok-verdicts.verdicts.items in
    let query = c.in_ok-query.query in
    let scan = c.scan-scan.result.now in
    let found = c.in_ok-found.found in
    let same = c.table-4.ensures.table in
    let read = rw c.table.ensures.table at (rw c.schema.ensures at c.in_ok-query.ensures.read) in
    let over = text_here table verdicts query scan c.table-3.result.now c.deref.result.now found.text.items found.scanned c.table-3.ensures.table c.deref.ensures.value c.in_ok-found.ensures.text in
    let chosen = c.scan-scan.ensures.chosen (schema_of table).columns.items query.cond (rw c.table-2.ensures.table at c.in_ok-number.ensures.found) in
    let goes = rw c.deref-2.ensures.value at c.in_ok-write_whole.ensures in
    let those = groups_left table (only_counts query (finder_of scan)) verdicts in
    let none = subst (λ (source : ColumnSource). HasNoVerdicts source verdicts) c.in_ok-read_named.ensures.source c.in_ok-verdicts.ensures.in_memory in
    let left : c.segments.result - found.scanned.segments ≡ segments_in table - found.scanned.segments = ap (λ (count : ℕ). count - found.scanned.segments) (c.segments.ensures ∙ ap segments_in same) in
    rw c.report_of.ensures
    (store_served (by_statement None c.args.sql.now) _ _ table verdicts query c.in_ok-read_named.ensures.schema (read, tt) c.in_ok-read_named.ensures.rows c.in_ok-verdicts.ensures.verdicts
    _ _ _ scan found.text.items found.scanned _ over goes.0 none left refl
    (subst (λ (files : List (List ℕ)). IsServedAmong files (schema_of table) query those (report_of scan found.scanned)) c.in_ok-number.ensures.files
    (serves_among _ (schema_of table) query those scan found.scanned chosen over.counts)))

pub open_text-requires-clause-scan : goal.open_text-requires-clause-scan
open_text-requires-clause-scan g c =
    let found = c.in_ok-number.ensures.found in
    rw c.table-3.ensures.table
    (c.scan-scan.ensures.certified (schema_of (g.C.ColumnStore.table c.read_named.new.store)).columns.items c.in_ok-query.query.cond (rw c.table-2.ensures.table at found))

pub returns-in_err-query-clause-accepted : goal.returns-in_err-query-clause-accepted
returns-in_err-query-clause-accepted g c =
    let no = rw c.table.ensures.table at (rw c.schema.ensures at c.in_err-query.ensures.refused) in
    rw (err_passed_on _ c.from_residual.ensures.1) (λ query asks. inl (memory_output c.in_err-query.field-0.0 (ap is_memory (no (query_shape query) asks.0))))

pub returns-in_err-read_named-clause-accepted : goal.returns-in_err-read_named-clause-accepted
returns-in_err-read_named-clause-accepted g c =
    let read = rw c.table.ensures.table at (rw c.schema.ensures at c.in_ok-query.ensures.read) in
    rw (err_passed_on _ c.from_residual-in_err-read_named.ensures.1) (λ query asks. inr (record { query = c.in_ok-query.query; asked = (read, tt); fails = c.in_err-read_named.ensures.refused }))

pub returns-in_err-number-clause-accepted : goal.returns-in_err-number-clause-accepted
returns-in_err-number-clause-accepted g c =
    rw (err_passed_on _ c.from_residual-in_err-number.ensures.1) (λ query asks. inl (memory_output c.in_err-number.field-0.0 (ap is_memory c.in_err-number.ensures.only_oom)))

pub returns-in_err-verdicts-clause-accepted : goal.returns-in_err-verdicts-clause-accepted
returns-in_err-verdicts-clause-accepted g c =
    rw (err_passed_on _ c.from_residual-in_err-verdicts.ensures.1) (λ query asks. inl (memory_output c.in_err-verdicts.field-0.0 (ap is_memory c.in_err-verdicts.ensures.only_oom)))

pub returns-in_err-found-clause-accepted : goal.returns-in_err-found-clause-accepted
returns-in_err-found-clause-accepted g c =
    rw (err_passed_on _ c.from_residual-in_err-found.ensures.1) (λ query asks. inl (memory_output c.in_err-found.field-0.0 (ap is_memory c.in_err-found.ensures.only_oom)))

pub returns-in_err-read_named-clause-serves : goal.returns-in_err-read_named-clause-serves
returns-in_err-read_named-clause-serves g c = rw c.in_err-read_named.ensures.schema c.requires.serves

pub find_or_add-requires-clause-serves : goal.find_or_add-requires-clause-serves
find_or_add-requires-clause-serves g c = rw (c.table-2.ensures.table, c.in_ok-read_named.ensures.schema) c.requires.serves

pub returns-in_err-number-clause-serves : goal.returns-in_err-number-clause-serves
returns-in_err-number-clause-serves g c = rw c.table-2.ensures.table at c.in_err-number.ensures.serves

pub returns-in_err-verdicts-clause-serves : goal.returns-in_err-verdicts-clause-serves
returns-in_err-verdicts-clause-serves g c = rw c.table-2.ensures.table at c.in_ok-number.ensures.serves

pub returns-in_err-found-clause-serves : goal.returns-in_err-found-clause-serves
returns-in_err-found-clause-serves g c = rw c.table-2.ensures.table at c.in_ok-number.ensures.serves

pub returns-in_err-write_whole-clause-serves : goal.returns-in_err-write_whole-clause-serves
returns-in_err-write_whole-clause-serves g c = rw c.table-2.ensures.table at c.in_ok-number.ensures.serves

pub returns-clause-serves : goal.returns-clause-serves
returns-clause-serves g c = rw c.table-2.ensures.table at c.in_ok-number.ensures.serves

pub open_text-requires-clause-verdicts : goal.open_text-requires-clause-verdicts
open_text-requires-clause-verdicts g c = rw (c.table-3.ensures.table, c.deref.ensures.value) c.in_ok-verdicts.ensures.verdicts
