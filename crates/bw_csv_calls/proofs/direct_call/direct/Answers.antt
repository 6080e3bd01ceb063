-- Each exit, by the contracts of its calls.
use Rattle.std.proofs.Common.{◌≡◌, Ok, Err, refl}
use Rattle.bw_model.specs.Limits.{longest_schema, longest_csv}
use Rattle.bw_model.proofs.ErrLemmas.{err_passed_on}
use Rattle.bw_io.specs.Source.{NotReached, Whole}
use Rattle.bw_io.proofs.SinkLemmas.{no_write_fault}
use Rattle.bw_sql.specs.Refusal.{is_statement_fault}
use Rattle.bw_csv.specs.Rows.{is_rows_fault}
use Rattle.bw_csv.proofs.InputLemmas.{made_of_none}
use Rattle.bw_csv_calls.specs.Direct.{answer_of}
use Rattle.bw_csv_calls.proofs.Exits.{Given, IsFaultOf, came_of, stopped_of, refused_exit, text_exit}
use Rattle.bw_csv_calls.proofs.Exits.{none_understood, not_reached, went_nowhere, went_on}
use Rattle.bw_csv_calls.proofs.DirectExits.{AnswerTo, refused_schema, read_statement}
use Rattle.bw_csv_calls.proofs.DirectExits.{statement_exit}
use Rattle.bw_csv_calls.proofs.direct_call.direct.Goals as goal

pub returns-in_err-schema-clause-answer : goal.returns-in_err-schema-clause-answer
returns-in_err-schema-clause-answer g c =
    let told = c.in_err-schema.ensures.answered in
    let fault = c.in_err-schema.field-0.0 in
    let sql = c.args.sql.now in
    rw (err_passed_on _ c.from_residual.ensures.1) (went_nowhere _ _ (AnswerTo sql) _ fault c.in_err-schema.ensures.fault
    (refused_exit _ _ (AnswerTo sql) told.0 NotReached fault (refused_schema sql told.0 fault told.2) told.1 (not_reached longest_csv (g.C.Source.state c.args.csv_source.now))))

pub returns-in_err-query-clause-answer : goal.returns-in_err-query-clause-answer
returns-in_err-query-clause-answer g c =
    let told = c.in_ok-schema.ensures.answered in
    let fault = c.in_err-query.field-0.0 in
    rw (err_passed_on _ c.from_residual-in_err-query.ensures.1) (went_nowhere _ _ (AnswerTo c.args.sql.now) _ fault (no_write_fault is_statement_fault fault c.in_err-query.ensures.fault refl)
    (statement_exit _ _ c.args.sql.now told.0 c.in_ok-schema.schema fault told.1
    (none_understood longest_schema _ _ told.0 c.in_ok-schema.schema told.1 told.2) (not_reached longest_csv (g.C.Source.state c.args.csv_source.now)) told.2
    c.in_err-query.ensures.read))

pub returns-in_err-csv-clause-answer : goal.returns-in_err-csv-clause-answer
returns-in_err-csv-clause-answer g c =
    let told = c.in_ok-schema.ensures.answered in
    let csv = c.in_err-csv.ensures.answered in
    let fault = c.in_err-csv.field-0.0 in
    let schema = c.in_ok-schema.schema in
    let query = c.in_ok-query.query in
    let sql = c.args.sql.now in
    rw (err_passed_on _ c.from_residual-in_err-csv.ensures.1) (went_nowhere _ _ (AnswerTo sql) _ fault c.in_err-csv.ensures.fault (refused_exit _ _ (AnswerTo sql) told.0 csv.0 fault
    (read_statement sql told.0 csv.0 schema query (Err fault) told.2 c.in_ok-query.ensures.read (made_of_none (answer_of schema.columns.items query) csv.0 fault csv.2)) told.1 csv.1))

pub returns-in_err-text-clause-answer : goal.returns-in_err-text-clause-answer
returns-in_err-text-clause-answer g c =
    let told = c.in_ok-schema.ensures.answered in
    let csv = c.in_ok-csv.ensures.answered in
    let fault = c.in_err-text.field-0.0 in
    let schema = c.in_ok-schema.schema in
    let query = c.in_ok-query.query in
    let sql = c.args.sql.now in
    let bytes = c.deref.result.now in
    rw (err_passed_on _ c.from_residual-in_err-text.ensures.1) (went_nowhere _ _ (AnswerTo sql) _ fault (no_write_fault is_rows_fault fault c.in_err-text.ensures.fault refl)
    (text_exit _ _ (AnswerTo sql) (IsFaultOf fault) told.0 csv.0 (answer_of schema.columns.items query) bytes
    (read_statement sql told.0 (Whole bytes) schema query (answer_of schema.columns.items query bytes) told.2 c.in_ok-query.ensures.read refl) told.1 csv.1 (rw c.deref.ensures.value csv.2)
    c.in_err-text.ensures.text))

pub returns-in_err-text-clause-reader : goal.returns-in_err-text-clause-reader
returns-in_err-text-clause-reader g c =
    let schema = c.in_ok-schema.schema in
    rw (err_passed_on _ c.from_residual-in_err-text.ensures.1) (λ own. (
      schema,
      c.in_ok-query.query,
      came_of _ schema c.in_ok-schema.ensures.answered,
      c.in_ok-query.ensures.read,
      stopped_of _ schema c.in_ok-csv.csv.items _ _ c.in_ok-csv.ensures.answered c.deref.ensures.value (c.in_err-text.ensures.reader own),
    ))

pub returns-clause-answer : goal.returns-clause-answer
returns-clause-answer g c =
    let told = c.in_ok-schema.ensures.answered in
    let csv = c.in_ok-csv.ensures.answered in
    let schema = c.in_ok-schema.schema in
    let query = c.in_ok-query.query in
    let sql = c.args.sql.now in
    let bytes = c.deref.result.now in
    let text = c.in_ok-text.text.items in
    went_on _ _ (AnswerTo sql) _ _ text c.write_whole.result
    (text_exit _ _ (AnswerTo sql) (λ (given : Given). given ≡ Ok text) told.0 csv.0 (answer_of schema.columns.items query) bytes
    (read_statement sql told.0 (Whole bytes) schema query (answer_of schema.columns.items query bytes) told.2 c.in_ok-query.ensures.read refl) told.1 csv.1 (rw c.deref.ensures.value csv.2)
    c.in_ok-text.ensures.text) (rw c.deref-2.ensures.value at c.write_whole.ensures)
