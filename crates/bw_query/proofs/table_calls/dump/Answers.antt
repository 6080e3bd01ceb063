-- Each exit, by the contracts of its calls.
use Rattle.std.proofs.Common.{◌≡◌, ◌∙◌, true, false, sym, ap}
use Rattle.bw_model.proofs.ErrLemmas.{err_passed_on}
use Rattle.bw_model.specs.Fault.{is_memory}
use Rattle.bw_io.specs.Source.{failed_reads}
use Rattle.bw_file.specs.TableReader.{bytes_taken}
use Rattle.bw_query.specs.TableAnswer.{by_dump}
use Rattle.bw_query.specs.declared.scan.Scan.TheVariants.{Rows}
use Rattle.bw_query.proofs.TableExits.{answered_or_not, asked_refused, ends, header_exit}
use Rattle.bw_query.proofs.TableExits.{input_verdict, memory_verdict, memory_writes_nothing}
use Rattle.bw_query.proofs.TableExits.{none_given, refused, segment_refused, table_writes_nothing}
use Rattle.bw_query.proofs.TableExits.{tells, text_gave, text_over, went}
use Rattle.bw_query.proofs.table_calls.dump.Goals as goal

pub table_text-requires-clause-fresh : goal.table_text-requires-clause-fresh
table_text-requires-clause-fresh g c =
    let reader = c.in_ok-reader.ensures in
    none_given _ _ c.in_ok-reader.reader reader.began reader.fresh.1 c.requires.table

pub returns-in_err-reader-clause-answer : goal.returns-in_err-reader-clause-answer
returns-in_err-reader-clause-answer g c =
    let fault = c.in_err-reader.field-0.0 in
    rw (err_passed_on _ c.from_residual.ensures.1) (ends by_dump _ _ _ _ (header_exit by_dump _ _ fault c.in_err-reader.ensures.head) (refused (Unit {0}) _ _ (table_writes_nothing fault c.in_err-reader.ensures.fault)))

pub returns-in_err-query-clause-answer : goal.returns-in_err-query-clause-answer
returns-in_err-query-clause-answer g c =
    let fault = c.in_err-query.field-0.0 in
    let reader = c.in_ok-reader.reader in
    let memory = c.in_err-query.ensures.only_oom in
    rw (err_passed_on _ c.from_residual-in_err-query.ensures.1) (ends by_dump _ _ _ _
    (bytes_taken reader, asked_refused by_dump _ _ reader fault c.in_ok-reader.ensures.stated (ap failed_reads memory) (λ other. let e : true ≡ false = sym (ap is_memory memory) ∙ other in absurd (cc e)))
    (refused (Unit {0}) _ _ (memory_writes_nothing fault memory)))

pub returns-in_err-found-clause-answer : goal.returns-in_err-found-clause-answer
returns-in_err-found-clause-answer g c =
    let fault = c.in_err-found.field-0.0 in
    let reader = c.in_ok-reader.reader in
    let asked = rw c.schema.ensures at c.in_ok-query.ensures.every in
    rw (err_passed_on _ c.from_residual-in_err-found.ensures.1) (ends by_dump _ _ _ _ (
      bytes_taken c.table_text.new.segments,
      segment_refused by_dump _ _ _ reader c.in_ok-query.query fault c.in_ok-reader.ensures.stated asked (c.in_err-found.ensures.refused _ c.in_ok-reader.ensures.began),
    )
    (refused (Unit {0}) _ _ c.in_err-found.ensures.fault))

pub returns-clause-answer : goal.returns-clause-answer
returns-clause-answer g c =
    let found = c.in_ok-found.found in
    let asked = rw c.schema.ensures at c.in_ok-query.ensures.every in
    let goes = rw c.deref.ensures.value at c.write_whole.ensures in
    ends by_dump _ _ _ _ (
      bytes_taken c.table_text.new.segments,
      text_gave by_dump _ _ _ c.in_ok-reader.reader c.in_ok-query.query Rows found.text.items found.scanned asked c.in_ok-reader.ensures.began c.in_ok-found.ensures.text,
    )
    (went (Unit {0}) _ _ found.text.items c.write_whole.result goes)

-- a failed read is told as the clause above says
pub returns-in_err-reader-clause-table : goal.returns-in_err-reader-clause-table
returns-in_err-reader-clause-table g c = tells (Unit {0}) _ _ _ _ _ _ (returns-in_err-reader-clause-answer g c)

pub returns-in_err-query-clause-table : goal.returns-in_err-query-clause-table
returns-in_err-query-clause-table g c = tells (Unit {0}) _ _ _ _ _ _ (returns-in_err-query-clause-answer g c)

pub returns-in_err-found-clause-table : goal.returns-in_err-found-clause-table
returns-in_err-found-clause-table g c = tells (Unit {0}) _ _ _ _ _ _ (returns-in_err-found-clause-answer g c)

pub returns-clause-table : goal.returns-clause-table
returns-clause-table g c = tells (Unit {0}) _ _ _ _ _ _ (returns-clause-answer g c)

pub returns-clause-file : goal.returns-clause-file
returns-clause-file g c = λ bytes known.
    let found = c.in_ok-found.found in
    let asked = rw c.schema.ensures at c.in_ok-query.ensures.every in
    let goes = rw c.deref.ensures.value at c.write_whole.ensures in
    let over = text_over by_dump _ _ _ c.in_ok-reader.reader c.in_ok-query.query Rows found.text.items found.scanned (λ s q r. Unit {0}) (λ rows counts. tt)
    asked c.in_ok-reader.ensures.began c.in_ok-found.ensures.text in
    answered_or_not by_dump _ _ found.text.items over.0 bytes known _ _ c.write_whole.result goes

pub returns-in_err-reader-clause-accepted : goal.returns-in_err-reader-clause-accepted
returns-in_err-reader-clause-accepted g c =
    rw (err_passed_on _ c.from_residual.ensures.1) (λ bytes layout schema rows known file.
    input_verdict c.in_err-reader.field-0.0 (c.a_file_is_read_whole.ensures.faults bytes layout schema rows file _ _ _ _ known c.in_err-reader.ensures.refused.1))

pub returns-in_err-query-clause-accepted : goal.returns-in_err-query-clause-accepted
returns-in_err-query-clause-accepted g c =
    rw (err_passed_on _ c.from_residual-in_err-query.ensures.1) (λ bytes layout schema rows known file. memory_verdict c.in_err-query.field-0.0 (ap is_memory c.in_err-query.ensures.only_oom))

pub returns-in_err-found-clause-accepted : goal.returns-in_err-found-clause-accepted
returns-in_err-found-clause-accepted g c =
    rw (err_passed_on _ c.from_residual-in_err-found.ensures.1) (λ bytes layout schema rows known file.
    input_verdict c.in_err-found.field-0.0 (c.a_file_is_read_whole.ensures.faults bytes layout schema rows file _ _ _ _ known (c.in_err-found.ensures.refused _ c.in_ok-reader.ensures.began)))
