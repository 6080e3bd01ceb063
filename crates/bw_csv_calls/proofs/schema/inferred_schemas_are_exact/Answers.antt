use Rattle.bw_csv_calls.proofs.ExactLemmas.{exact_for}
use Rattle.bw_csv_calls.proofs.schema.inferred_schemas_are_exact.Goals as goal

pub returns : goal.returns
returns c = λ table text schema e. exact_for table text schema e
