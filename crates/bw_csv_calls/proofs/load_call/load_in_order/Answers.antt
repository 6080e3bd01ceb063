-- Each exit, by the contracts of its calls.
use Rattle.std.proofs.Common.{◌≡◌, Ok, Err, Result, refl}
use Rattle.bw_model.specs.declared.fault.Fault.{Fault}
use Rattle.bw_model.specs.declared.schema.Schema.{Schema}
use Rattle.bw_model.specs.Limits.{longest_csv}
use Rattle.bw_model.proofs.ErrLemmas.{err_passed_on}
use Rattle.bw_io.specs.Source.{Arrival, NotReached, Whole}
use Rattle.bw_io.proofs.SinkLemmas.{no_write_fault}
use Rattle.bw_file.specs.declared.layout.Layout.{Layout}
use Rattle.bw_file.specs.declared.order.FileOrder.{FileOrder}
use Rattle.bw_csv.specs.Input.{IsMadeOf}
use Rattle.bw_csv.specs.Rows.{is_rows_fault}
use Rattle.bw_csv.proofs.InputLemmas.{made_of_none}
use Rattle.bw_csv_calls.specs.ReadInputs.{IsSchemaFrom}
use Rattle.bw_csv_calls.specs.Load.{IsFileIn, file_in}
use Rattle.bw_csv_calls.proofs.Exits.{Given, IsFaultOf, came_of, stopped_of, refused_exit, text_exit}
use Rattle.bw_csv_calls.proofs.Exits.{not_reached, went_nowhere, went_on}
use Rattle.bw_csv_calls.proofs.load_call.load_in_order.Goals as goal

-- the schema was rejected, or read
refused_schema : (order : FileOrder) (layout : Layout) (came : Arrival) (fault : Fault) → IsSchemaFrom came (Err fault) → IsFileIn order layout came NotReached (Err fault)
refused_schema order layout came fault from =
    let outcome : Result Schema Fault = Err fault in
    let given : Given = Err fault in
    let is : given ≡ Err fault = refl in
    let csv : NotReached ≡ NotReached = refl in
    (outcome, from, (csv, is))

read_schema : (order : FileOrder) (layout : Layout) (came csv : Arrival) (schema : Schema) (given : Given) → IsSchemaFrom came (Ok schema) → IsMadeOf (file_in order layout schema) csv given → IsFileIn order layout came csv given
read_schema order layout came csv schema given from made =
    let outcome : Result Schema Fault = Ok schema in
    (outcome, from, made)

pub returns-in_err-schema-clause-file : goal.returns-in_err-schema-clause-file
returns-in_err-schema-clause-file g c =
    let told = c.in_err-schema.ensures.answered in
    let fault = c.in_err-schema.field-0.0 in
    let order = c.args.order in
    let layout = c.args.layout in
    rw (err_passed_on _ c.from_residual.ensures.1) (went_nowhere _ _ (IsFileIn order layout) _ fault c.in_err-schema.ensures.fault
    (refused_exit _ _ (IsFileIn order layout) told.0 NotReached fault (refused_schema order layout told.0 fault told.2) told.1 (not_reached longest_csv (g.C.Source.state c.args.csv_source.now))))

pub returns-in_err-csv-clause-file : goal.returns-in_err-csv-clause-file
returns-in_err-csv-clause-file g c =
    let told = c.in_ok-schema.ensures.answered in
    let csv = c.in_err-csv.ensures.answered in
    let fault = c.in_err-csv.field-0.0 in
    let schema = c.in_ok-schema.schema in
    let order = c.args.order in
    let layout = c.args.layout in
    rw (err_passed_on _ c.from_residual-in_err-csv.ensures.1) (went_nowhere _ _ (IsFileIn order layout) _ fault c.in_err-csv.ensures.fault
    (refused_exit _ _ (IsFileIn order layout) told.0 csv.0 fault (read_schema order layout told.0 csv.0 schema (Err fault) told.2 (made_of_none (file_in order layout schema) csv.0 fault csv.2)) told.1 csv.1))

pub returns-in_err-file-clause-file : goal.returns-in_err-file-clause-file
returns-in_err-file-clause-file g c =
    let told = c.in_ok-schema.ensures.answered in
    let csv = c.in_ok-csv.ensures.answered in
    let fault = c.in_err-file.field-0.0 in
    let schema = c.in_ok-schema.schema in
    let order = c.args.order in
    let layout = c.args.layout in
    let bytes = c.deref.result.now in
    rw (err_passed_on _ c.from_residual-in_err-file.ensures.1) (went_nowhere _ _ (IsFileIn order layout) _ fault (no_write_fault is_rows_fault fault c.in_err-file.ensures.fault refl)
    (text_exit _ _ (IsFileIn order layout) (IsFaultOf fault) told.0 csv.0 (file_in order layout schema) bytes (read_schema order layout told.0 (Whole bytes) schema (file_in order layout schema bytes) told.2 refl)
    told.1 csv.1 (rw c.deref.ensures.value csv.2) c.in_err-file.ensures.bytes))

pub returns-in_err-file-clause-reader : goal.returns-in_err-file-clause-reader
returns-in_err-file-clause-reader g c =
    let schema = c.in_ok-schema.schema in
    rw (err_passed_on _ c.from_residual-in_err-file.ensures.1) (λ own. (
      schema,
      came_of _ schema c.in_ok-schema.ensures.answered,
      stopped_of _ schema c.in_ok-csv.csv.items _ _ c.in_ok-csv.ensures.answered c.deref.ensures.value (c.in_err-file.ensures.reader own),
    ))

pub returns-clause-file : goal.returns-clause-file
returns-clause-file g c =
    let told = c.in_ok-schema.ensures.answered in
    let csv = c.in_ok-csv.ensures.answered in
    let schema = c.in_ok-schema.schema in
    let order = c.args.order in
    let layout = c.args.layout in
    let bytes = c.deref.result.now in
    let text = c.in_ok-file.file.items in
    went_on _ _ (IsFileIn order layout) _ _ text c.write_whole.result
    (text_exit _ _ (IsFileIn order layout) (λ (given : Given). given ≡ Ok text) told.0 csv.0 (file_in order layout schema) bytes (read_schema order layout told.0 (Whole bytes) schema (file_in order layout schema bytes) told.2 refl)
    told.1 csv.1 (rw c.deref.ensures.value csv.2) c.in_ok-file.ensures.bytes) (rw c.deref-2.ensures.value at c.write_whole.ensures)
