-- What holds under the schema that was read.
use Rattle.std.proofs.Common.{inr}
use Rattle.std.proofs.lemmas.Result.{IfOk-weaker, IfErr-weaker}
use Rattle.bw_recode.proofs.columnar_call.recode_by_columns.Goals as goal

pub returns-clause-recoded : goal.returns-clause-recoded
returns-clause-recoded c =
    IfOk-weaker c.recode_under.result _ _ (λ file recoded. (c.in_ok-schema.schema, c.in_ok-schema.ensures.spelled, recoded)) c.recode_under.ensures.recoded

pub returns-clause-refused : goal.returns-clause-refused
returns-clause-refused c =
    IfErr-weaker c.recode_under.result _ _ (λ fault refused kept. inr (c.in_ok-schema.schema, c.in_ok-schema.ensures.spelled, refused kept)) c.recode_under.ensures.refused
