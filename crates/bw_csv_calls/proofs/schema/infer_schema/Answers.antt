-- What is inferred of the text with a shorter heading is what is inferred of the text.
use Rattle.bw_csv_calls.proofs.CutHeading.{same_inferred, still_stops}
use Rattle.bw_csv_calls.proofs.schema.infer_schema.Goals as goal

pub returns-clause-schema : goal.returns-clause-schema
returns-clause-schema c = rw (← same_inferred c.args.table.now c.args.text.now c.without_more_fields.result.now c.without_more_fields.ensures) c.schema_of.ensures.schema

pub returns-clause-reader : goal.returns-clause-reader
returns-clause-reader c = still_stops c.schema_of.result c.args.text.now c.without_more_fields.result.now c.without_more_fields.ensures c.schema_of.ensures.reader
