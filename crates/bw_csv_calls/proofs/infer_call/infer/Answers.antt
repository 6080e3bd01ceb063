-- Each exit, by the contracts of its calls.
use Rattle.std.proofs.Common.{◌∙◌, Err, refl, sym, ap}
use Rattle.bw_csv.specs.Rows.{is_exempt}
use Rattle.bw_io.specs.Sink.{is_write_fault}
use Rattle.bw_io.proofs.SinkLemmas.{no_write_fault, wrote_nothing, wrote_text}
use Rattle.bw_csv_calls.specs.Infer.{is_inferring_fault}
use Rattle.bw_csv_calls.proofs.InferExits.{csv_exit, name_exit, text_exit}
use Rattle.bw_csv_calls.proofs.infer_call.infer.Goals as goal
use Rattle.bw_model.proofs.ErrLemmas.{err_passed_on}

pub returns-then-not-is_name-clause-schema : goal.returns-then-not-is_name-clause-schema
returns-then-not-is_name-clause-schema g c =
    name_exit c.args.table.now _ _ (sym c.is_name.ensures ∙ c.if-not-is_name.true) (refl, refl)
    (wrote_nothing (Unit {0}) is_exempt _ c.new.result _ (ap is_write_fault c.new.ensures) (λ other. ap Err (sym c.new.ensures)))

pub returns-in_err-csv-clause-schema : goal.returns-in_err-csv-clause-schema
returns-in_err-csv-clause-schema g c =
    let fault = c.in_err-csv.field-0.0 in
    let csv = c.in_err-csv.ensures.answered in
    rw (err_passed_on _ c.from_residual.ensures.1) (csv_exit c.args.table.now _ _ csv.0 fault (sym c.is_name.ensures ∙ c.if-not-is_name.false) csv.1 csv.2
    (wrote_nothing (Unit {0}) is_exempt _ fault _ c.in_err-csv.ensures.fault (λ other. refl)))

pub returns-in_err-text-clause-schema : goal.returns-in_err-text-clause-schema
returns-in_err-text-clause-schema g c =
    let fault = c.in_err-text.field-0.0 in
    let csv = c.in_ok-csv.ensures.answered in
    rw (err_passed_on _ c.from_residual-in_err-text.ensures.1) (text_exit c.args.table.now _ _ csv.0 c.deref.result.now (sym c.is_name.ensures ∙ c.if-not-is_name.false) csv.1 (rw c.deref.ensures.value csv.2)
    (wrote_nothing (Unit {0}) is_exempt _ fault _ (no_write_fault is_inferring_fault fault c.in_err-text.ensures.fault refl) c.in_err-text.ensures.text))

pub returns-clause-schema : goal.returns-clause-schema
returns-clause-schema g c =
    let csv = c.in_ok-csv.ensures.answered in
    let goes = rw c.deref-2.ensures.value at c.write_whole.ensures in
    text_exit c.args.table.now _ _ csv.0 c.deref.result.now (sym c.is_name.ensures ∙ c.if-not-is_name.false) csv.1 (rw c.deref.ensures.value csv.2)
    (wrote_text (Unit {0}) is_exempt _ _ c.in_ok-text.text.items _ c.write_whole.result c.in_ok-text.ensures.text goes)
