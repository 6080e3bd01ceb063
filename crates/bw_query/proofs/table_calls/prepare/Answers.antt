-- Each exit, by the contracts of its calls.
use Rattle.std.proofs.Common.{List, ap, inl, inr, refl, subst, sym}
use Rattle.bw_model.proofs.ErrLemmas.{err_passed_on}
use Rattle.bw_cert.specs.FileVerdict.{is_file_fault}
use Rattle.bw_model.specs.declared.column.Column.{Column}
use Rattle.bw_sql.specs.QueryShape.{QueryShape, query_shape}
use Rattle.bw_sql.specs.Refusal.{is_statement_fault}
use Rattle.bw_query.specs.Scan.{IsUsable, given_file}
use Rattle.bw_query.proofs.ScanLemmas.{usable}
use Rattle.bw_query.proofs.TableExits.{file_writes_nothing, no_failed_read}
use Rattle.bw_query.proofs.TableExits.{statement_writes_nothing}
use Rattle.bw_query.proofs.table_calls.prepare.Goals as goal

pub returns-clause-asked : goal.returns-clause-asked
returns-clause-asked c = (c.in_ok-query.ensures.read, usable _ _ _ c.in_ok-scan.scan c.in_ok-scan.ensures.chosen)

pub returns-in_err-query-clause-refused : goal.returns-in_err-query-clause-refused
returns-in_err-query-clause-refused c =
    rw (err_passed_on _ c.from_residual.ensures.1) (λ other. inl (c.in_err-query.ensures.read other))

pub returns-in_err-scan-clause-refused : goal.returns-in_err-scan-clause-refused
returns-in_err-scan-clause-refused c =
    rw (err_passed_on _ c.from_residual-in_err-scan.ensures.1) (λ other. inr (record { query = c.in_ok-query.query; asked = c.in_ok-query.ensures.read; refused = c.in_err-scan.ensures.fault other }))

pub returns-in_err-query-clause-accepted : goal.returns-in_err-query-clause-accepted
returns-in_err-query-clause-accepted c =
    rw (err_passed_on _ c.from_residual.ensures.1) (λ other query same asks.
    let spelled = c.schemas_of_one_shape.ensures.spelled other c.args.schema.now c.args.sql.now (query_shape query) (sym same) asks.0 in
    c.in_err-query.ensures.refused (query_shape query) spelled)

pub returns-in_err-scan-clause-accepted : goal.returns-in_err-scan-clause-accepted
returns-in_err-scan-clause-accepted c =
    rw (err_passed_on _ c.from_residual-in_err-scan.ensures.1) (λ other query same asks.
    let spelled = c.schemas_of_one_shape.ensures.spelled other c.args.schema.now c.args.sql.now (query_shape query) (sym same) asks.0 in
    let columns = c.schemas_of_one_shape.ensures.columns other c.args.schema.now (sym same) in
    let conds = ap (λ (one : QueryShape). one.cond) (c.one_query_of_a_text.ensures c.args.schema.now c.args.sql.now (query_shape query) (query_shape c.in_ok-query.query) spelled c.in_ok-query.ensures.read) in
    let U : List Column → Type 0 = λ those. IsUsable (given_file c.args.program) those query.cond in
    c.in_err-scan.ensures.accepted query.cond conds (subst U columns asks.1))

pub returns-in_err-query-clause-unread : goal.returns-in_err-query-clause-unread
returns-in_err-query-clause-unread c =
    rw (err_passed_on _ c.from_residual.ensures.1) (no_failed_read is_statement_fault c.in_err-query.field-0.0 c.in_err-query.ensures.fault refl)

pub returns-in_err-scan-clause-unread : goal.returns-in_err-scan-clause-unread
returns-in_err-scan-clause-unread c =
    rw (err_passed_on _ c.from_residual-in_err-scan.ensures.1) (no_failed_read is_file_fault c.in_err-scan.field-0.0 c.in_err-scan.ensures.code refl)

pub returns-in_err-query-clause-fault : goal.returns-in_err-query-clause-fault
returns-in_err-query-clause-fault c =
    rw (err_passed_on _ c.from_residual.ensures.1) (statement_writes_nothing c.in_err-query.field-0.0 c.in_err-query.ensures.fault)

pub returns-in_err-scan-clause-fault : goal.returns-in_err-scan-clause-fault
returns-in_err-scan-clause-fault c =
    rw (err_passed_on _ c.from_residual-in_err-scan.ensures.1) (file_writes_nothing c.in_err-scan.field-0.0 c.in_err-scan.ensures.code)
