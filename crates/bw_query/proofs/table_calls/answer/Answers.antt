-- Each exit, by the contracts of its calls.
use Rattle.std.proofs.Common.{[], Ok, Err, ap}
use Rattle.bw_model.proofs.ErrLemmas.{err_passed_on}
use Rattle.bw_model.specs.Fault.{is_memory}
use Rattle.bw_model.specs.Groups.{groups_of}
use Rattle.bw_report.specs.declared.served.Served.{Served}
use Rattle.bw_file.specs.TableReader.{bytes_taken, schema_in}
use Rattle.bw_query.specs.Scan.{given_file}
use Rattle.bw_query.specs.Served.{IsServed}
use Rattle.bw_query.specs.TableAnswer.{by_statement}
use Rattle.bw_query.proofs.ScanLemmas.{served, serves}
use Rattle.bw_query.proofs.TableExits.{asked_refused, ends, header_exit, input_verdict}
use Rattle.bw_query.proofs.TableExits.{memory_verdict, no_read, none_given, refused}
use Rattle.bw_query.proofs.TableExits.{segment_refused, table_answered, table_writes_nothing, tells}
use Rattle.bw_query.proofs.TableExits.{text_gave, text_over, went}
use Rattle.bw_query.proofs.table_calls.answer.Goals as goal

pub table_text-requires-clause-fresh : goal.table_text-requires-clause-fresh
table_text-requires-clause-fresh g c =
    let reader = c.in_ok-reader.ensures in
    none_given _ _ c.in_ok-reader.reader reader.began reader.fresh.1 c.requires.table

pub returns-in_err-reader-clause-answer : goal.returns-in_err-reader-clause-answer
returns-in_err-reader-clause-answer g c =
    let fault = c.in_err-reader.field-0.0 in
    let asks = by_statement (given_file c.args.program) c.args.sql.now in
    rw (err_passed_on _ c.from_residual.ensures.1) (ends asks _ _ _ _ (header_exit asks _ _ fault c.in_err-reader.ensures.head) (refused Served _ _ (table_writes_nothing fault c.in_err-reader.ensures.fault)))

pub returns-in_err-prepared-clause-answer : goal.returns-in_err-prepared-clause-answer
returns-in_err-prepared-clause-answer g c =
    let fault = c.in_err-prepared.field-0.0 in
    let reader = c.in_ok-reader.reader in
    let asks = by_statement (given_file c.args.program) c.args.sql.now in
    let no = rw c.schema.ensures at c.in_err-prepared.ensures.refused in
    rw (err_passed_on _ c.from_residual-in_err-prepared.ensures.1) (ends asks _ _ _ _
    (bytes_taken reader, asked_refused asks _ _ reader fault c.in_ok-reader.ensures.stated (no_read fault c.in_err-prepared.ensures.unread) no)
    (refused Served _ _ c.in_err-prepared.ensures.fault))

pub returns-in_err-found-clause-answer : goal.returns-in_err-found-clause-answer
returns-in_err-found-clause-answer g c =
    let fault = c.in_err-found.field-0.0 in
    let reader = c.in_ok-reader.reader in
    let asks = by_statement (given_file c.args.program) c.args.sql.now in
    let asked = rw c.schema.ensures at c.in_ok-prepared.ensures.asked in
    rw (err_passed_on _ c.from_residual-in_err-found.ensures.1) (ends asks _ _ _ _ (
      bytes_taken c.table_text.new.segments,
      segment_refused asks _ _ _ reader c.in_ok-prepared.prepared.query fault c.in_ok-reader.ensures.stated asked (c.in_err-found.ensures.refused _ c.in_ok-reader.ensures.began),
    )
    (refused Served _ _ c.in_err-found.ensures.fault))

pub returns-in_err-write_whole-clause-answer : goal.returns-in_err-write_whole-clause-answer
returns-in_err-write_whole-clause-answer g c =
    let reader = c.in_ok-reader.reader in
    let prepared = c.in_ok-prepared.prepared in
    let found = c.in_ok-found.found in
    let asks = by_statement (given_file c.args.program) c.args.sql.now in
    let asked = rw c.schema.ensures at c.in_ok-prepared.ensures.asked in
    let goes = rw c.deref.ensures.value at c.in_err-write_whole.ensures in
    rw (err_passed_on _ c.from_residual-in_err-write_whole.ensures.1) (ends asks _ _ _ _
    (bytes_taken c.table_text.new.segments, text_gave asks _ _ _ reader prepared.query prepared.scan found.text.items found.scanned asked c.in_ok-reader.ensures.began c.in_ok-found.ensures.text)
    (went Served (g.K.Sink.state c.args.sink.now) (g.K.Sink.state c.write_whole.new.sink) found.text.items (Err c.in_err-write_whole.field-0.0) goes))

pub returns-clause-answer : goal.returns-clause-answer
returns-clause-answer g c =
    let reader = c.in_ok-reader.reader in
    let prepared = c.in_ok-prepared.prepared in
    let found = c.in_ok-found.found in
    let asks = by_statement (given_file c.args.program) c.args.sql.now in
    let asked = rw c.schema.ensures at c.in_ok-prepared.ensures.asked in
    let goes = rw c.deref.ensures.value at c.in_ok-write_whole.ensures in
    ends asks _ _ _ _
    (bytes_taken c.table_text.new.segments, text_gave asks _ _ _ reader prepared.query prepared.scan found.text.items found.scanned asked c.in_ok-reader.ensures.began c.in_ok-found.ensures.text)
    (went Served _ _ found.text.items (Ok c.report_of.result) goes)

-- a failed read is told as the clause above says
pub returns-in_err-reader-clause-table : goal.returns-in_err-reader-clause-table
returns-in_err-reader-clause-table g c = tells Served _ _ _ _ _ _ (returns-in_err-reader-clause-answer g c)

pub returns-in_err-prepared-clause-table : goal.returns-in_err-prepared-clause-table
returns-in_err-prepared-clause-table g c = tells Served _ _ _ _ _ _ (returns-in_err-prepared-clause-answer g c)

pub returns-in_err-found-clause-table : goal.returns-in_err-found-clause-table
returns-in_err-found-clause-table g c = tells Served _ _ _ _ _ _ (returns-in_err-found-clause-answer g c)

pub returns-in_err-write_whole-clause-table : goal.returns-in_err-write_whole-clause-table
returns-in_err-write_whole-clause-table g c = tells Served _ _ _ _ _ _ (returns-in_err-write_whole-clause-answer g c)

pub returns-clause-table : goal.returns-clause-table
returns-clause-table g c = tells Served _ _ _ _ _ _ (returns-clause-answer g c)

pub returns-clause-served : goal.returns-clause-served
returns-clause-served g c =
    let reader = c.in_ok-reader.reader in
    let prepared = c.in_ok-prepared.prepared in
    let found = c.in_ok-found.found in
    let file = given_file c.args.program in
    let asked = rw c.schema.ensures at c.in_ok-prepared.ensures.asked in
    let chosen = rw c.schema.ensures at c.in_ok-prepared.ensures.chosen in
    let goes = rw c.deref.ensures.value at c.in_ok-write_whole.ensures in
    let over = text_over (by_statement file c.args.sql.now) _ _ _ reader prepared.query prepared.scan found.text.items found.scanned (served file prepared.scan found.scanned)
    (λ rows. serves file (schema_in reader) prepared.query (groups_of rows) prepared.scan found.scanned chosen) asked c.in_ok-reader.ensures.began c.in_ok-found.ensures.text in
    rw c.report_of.ensures (bytes_taken c.table_text.new.segments, found.text.items, over.0, goes.0, over.1)

pub returns-clause-file : goal.returns-clause-file
returns-clause-file g c = λ bytes known.
    let told = returns-clause-served g c in
    let file = given_file c.args.program in
    table_answered (by_statement file c.args.sql.now) _ _ told.1 told.2
    (λ schema query rows. IsServed file schema query (groups_of rows) c.report_of.result) told.4 bytes known _ _ told.3

pub returns-in_err-reader-clause-accepted : goal.returns-in_err-reader-clause-accepted
returns-in_err-reader-clause-accepted g c =
    rw (err_passed_on _ c.from_residual.ensures.1) (λ bytes layout schema rows query known file asks.
    input_verdict c.in_err-reader.field-0.0 (c.a_file_is_read_whole.ensures.faults bytes layout schema rows file _ _ _ _ known c.in_err-reader.ensures.refused.1))

pub returns-in_err-prepared-clause-accepted : goal.returns-in_err-prepared-clause-accepted
returns-in_err-prepared-clause-accepted g c =
    let accepted = rw c.schema.ensures at c.in_err-prepared.ensures.accepted in
    rw (err_passed_on _ c.from_residual-in_err-prepared.ensures.1) (λ bytes layout schema rows query known file asks.
    let gave = c.a_file_is_read_whole.ensures.groups bytes layout schema rows file _ _ c.in_ok-reader.reader [] known c.in_ok-reader.ensures.began in
    memory_verdict c.in_err-prepared.field-0.0 (ap is_memory (accepted schema query gave.schema asks)))

pub returns-in_err-found-clause-accepted : goal.returns-in_err-found-clause-accepted
returns-in_err-found-clause-accepted g c =
    rw (err_passed_on _ c.from_residual-in_err-found.ensures.1) (λ bytes layout schema rows query known file asks.
    input_verdict c.in_err-found.field-0.0 (c.a_file_is_read_whole.ensures.faults bytes layout schema rows file _ _ _ _ known (c.in_err-found.ensures.refused _ c.in_ok-reader.ensures.began)))
