-- Each exit, by the contracts of its calls.
use Rattle.std.proofs.Common.{ℕ, List, Ok, Err, ap, refl, subst}
use Rattle.std.specs.Io.KnownBytes.{Appends}
use Rattle.bw_model.proofs.ErrLemmas.{err_passed_on}
use Rattle.bw_model.specs.Fault.{is_memory}
use Rattle.bw_model.specs.Groups.{groups_of}
use Rattle.bw_memory.specs.MemoryTable.{rows_of, schema_of}
use Rattle.bw_report.specs.declared.served.Served.{Served}
use Rattle.bw_query.specs.Scan.{given_file}
use Rattle.bw_query.specs.TableAnswer.{by_statement}
use Rattle.bw_query.proofs.MemoryExits.{any_memory, rows_text, scan_counts, text_is}
use Rattle.bw_query.proofs.ScanLemmas.{serves}
use Rattle.bw_query.proofs.TableExits.{memory_output, memory_writes_nothing, refused, went}
use Rattle.bw_query.proofs.memory_calls.answer_in_memory.Goals as goal

pub returns-in_err-prepared-clause-answer : goal.returns-in_err-prepared-clause-answer
returns-in_err-prepared-clause-answer g c =
    rw (err_passed_on _ c.from_residual.ensures.1) (_, rw c.schema.ensures at c.in_err-prepared.ensures.refused, refused Served _ _ c.in_err-prepared.ensures.fault)

pub returns-in_err-found-clause-answer : goal.returns-in_err-found-clause-answer
returns-in_err-found-clause-answer g c =
    let fault = c.in_err-found.field-0.0 in
    let memory = c.in_err-found.ensures.only_oom in
    let asks = by_statement (given_file c.args.program) c.args.sql.now in
    rw (err_passed_on _ c.from_residual-in_err-found.ensures.1) (Err fault, any_memory c.args.table.now asks fault (ap is_memory memory), refused Served _ _ (memory_writes_nothing fault memory))

pub returns-in_err-write_whole-clause-answer : goal.returns-in_err-write_whole-clause-answer
returns-in_err-write_whole-clause-answer g c =
    let prepared = c.in_ok-prepared.prepared in
    let found = c.in_ok-found.found in
    let asked = rw c.schema.ensures at c.in_ok-prepared.ensures.asked in
    let goes = rw c.deref.ensures.value at c.in_err-write_whole.ensures in
    rw (err_passed_on _ c.from_residual-in_err-write_whole.ensures.1) (
      _,
      rows_text c.args.table.now (by_statement (given_file c.args.program) c.args.sql.now) prepared.query prepared.scan found.text.items found.scanned asked c.in_ok-found.ensures.text,
      went Served (g.K.Sink.state c.args.sink.now) (g.K.Sink.state c.write_whole.new.sink) found.text.items (Err c.in_err-write_whole.field-0.0) goes,
    )

pub returns-clause-answer : goal.returns-clause-answer
returns-clause-answer g c =
    let prepared = c.in_ok-prepared.prepared in
    let found = c.in_ok-found.found in
    let asked = rw c.schema.ensures at c.in_ok-prepared.ensures.asked in
    let goes = rw c.deref.ensures.value at c.in_ok-write_whole.ensures in (
      _,
      rows_text c.args.table.now (by_statement (given_file c.args.program) c.args.sql.now) prepared.query prepared.scan found.text.items found.scanned asked c.in_ok-found.ensures.text,
      went Served _ _ found.text.items (Ok c.report_of.result) goes,
    )

pub returns-clause-served : goal.returns-clause-served
returns-clause-served g c =
    let table = c.args.table.now in
    let prepared = c.in_ok-prepared.prepared in
    let found = c.in_ok-found.found in
    let file = given_file c.args.program in
    let asked = rw c.schema.ensures at c.in_ok-prepared.ensures.asked in
    let chosen = rw c.schema.ensures at c.in_ok-prepared.ensures.chosen in
    let goes = rw c.deref.ensures.value at c.in_ok-write_whole.ensures in
    let is = text_is table prepared.query prepared.scan found.text.items found.scanned c.in_ok-found.ensures.text in
    let counts = scan_counts table prepared.query prepared.scan found.text.items found.scanned c.in_ok-found.ensures.text in
    rw c.report_of.ensures (
      record {
        query = prepared.query;
        asked = asked;
        text = subst (λ (text : List ℕ). Appends (g.K.Sink.state c.args.sink.now).taken (g.K.Sink.state c.write_whole.new.sink).taken text) is goes.0;
      },
      serves file (schema_of table) prepared.query (groups_of (rows_of table)) prepared.scan found.scanned chosen counts,
    )

pub returns-in_err-prepared-clause-accepted : goal.returns-in_err-prepared-clause-accepted
returns-in_err-prepared-clause-accepted g c =
    let accepted = rw c.schema.ensures at c.in_err-prepared.ensures.accepted in
    rw (err_passed_on _ c.from_residual.ensures.1) (λ query asks. memory_output c.in_err-prepared.field-0.0 (ap is_memory (accepted (schema_of c.args.table.now) query refl asks)))

pub returns-in_err-found-clause-accepted : goal.returns-in_err-found-clause-accepted
returns-in_err-found-clause-accepted g c =
    rw (err_passed_on _ c.from_residual-in_err-found.ensures.1) (λ query asks. memory_output c.in_err-found.field-0.0 (ap is_memory c.in_err-found.ensures.only_oom))
