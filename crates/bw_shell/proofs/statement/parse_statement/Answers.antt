-- Each exit, by the contracts of its calls.
use Rattle.bw_model.specs.SchemaText.{schema_shape}
use Rattle.bw_model.proofs.ErrLemmas.{err_passed_on}
use Rattle.bw_sql.specs.QueryShape.{query_shape}
use Rattle.bw_query.proofs.TableExits.{schema_writes_nothing, statement_writes_nothing}
use Rattle.bw_shell.proofs.TextLemmas.{none_refused, same_shapes}
use Rattle.bw_shell.proofs.statement.parse_statement.Goals as goal

pub returns-in_err-schema-clause-code : goal.returns-in_err-schema-clause-code
returns-in_err-schema-clause-code c =
    rw (err_passed_on _ c.from_residual.ensures.1) (schema_writes_nothing _ c.in_err-schema.ensures.code)

pub returns-in_err-query-clause-accepts : goal.returns-in_err-query-clause-accepts
returns-in_err-query-clause-accepts c = λ other query is.
    rw (err_passed_on _ c.from_residual-in_err-query.ensures.1)
    (none_refused c.args.sql.now c.in_ok-schema.schema other query _ (c.in_ok-schema.ensures.accepted (schema_shape other) is.spelled) is.asked c.in_err-query.ensures.refused)

pub returns-in_err-query-clause-code : goal.returns-in_err-query-clause-code
returns-in_err-query-clause-code c =
    rw (err_passed_on _ c.from_residual-in_err-query.ensures.1) (statement_writes_nothing _ c.in_err-query.ensures.fault)

pub returns-clause-accepts : goal.returns-clause-accepts
returns-clause-accepts c = λ other query is.
    same_shapes c.args.sql.now c.in_ok-schema.schema other c.in_ok-query.query query (c.in_ok-schema.ensures.accepted (schema_shape other) is.spelled) is.asked c.in_ok-query.ensures.read
