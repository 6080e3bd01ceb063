-- The text spells the schema, which is exact.
use Rattle.std.proofs.lemmas.Result.{IfOk-weaker}
use Rattle.bw_csv_calls.proofs.infer_call.inferred_text.Goals as goal

pub returns-clause-exact : goal.returns-clause-exact
returns-clause-exact c =
    let schema = c.in_ok-schema.schema in
    IfOk-weaker c.print_schema.result _ _
    (λ text spelled. record { schema = schema; spelled = spelled; exact = c.inferred_schemas_are_exact.ensures c.args.table.now c.args.csv.now schema c.in_ok-schema.ensures.schema })
    c.print_schema.ensures.spelled
