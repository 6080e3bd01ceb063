-- The encoder was given all rows, so its file is that of the table.
use Rattle.std.proofs.Common.{◌∙◌, [], ap}
use Rattle.std.proofs.lemmas.Result.{IfOk-weaker}
use Rattle.bw_model.specs.declared.schema.Schema.{Schema}
use Rattle.bw_file.specs.Encoder.{encoder_schema}
use Rattle.bw_encode.specs.CodedTable.{encodings_in, rows_in}
use Rattle.bw_encode.specs.Table.{rows_upto}
use Rattle.bw_file.proofs.OrderLemmas.{same_in_order}
use Rattle.bw_shell.proofs.encode_call.FileFormTableMaker.make.Goals as goal

pub returns-clause-bytes : goal.returns-clause-bytes
returns-clause-bytes c =
    let led = c.in_ok-deliver.ensures.led in
    let schema = c.in_ok-schema.schema in
    IfOk-weaker c.finish_in_order.result _ _ (λ bytes text. record {
      schema = schema;
      narrow = c.in_ok-schema.ensures.schema;
      made = text (rows_upto (encodings_in c.args.table.now) (rows_in c.args.table.now)) (led.holds [] c.in_ok-encoder.ensures.holds)
          ∙ same_in_order c.args.self.now.order _ _ (encoder_schema c.deliver.new.consumer) schema _ (led.layout ∙ c.in_ok-encoder.ensures.layout)
          (ap (λ (schema : Schema). schema.name) led.schema ∙ c.in_ok-encoder.ensures.name)
          (ap (λ (schema : Schema). schema.columns.items) led.schema ∙ c.in_ok-encoder.ensures.columns);
    }) c.finish_in_order.ensures.bytes
