use Rattle.bw_model.proofs.GroupLemmas.{groups_of-count}
use Rattle.bw_csv_calls.proofs.SizeLemmas.{table_sized}
use Rattle.bw_csv_calls.proofs.info_call.tables_have_their_size.Goals as goal

pub returns-clause-size : goal.returns-clause-size
returns-clause-size c = λ version layout schema rows are. table_sized version layout schema rows are

pub returns-clause-segments : goal.returns-clause-segments
returns-clause-segments c = λ rows. groups_of-count rows
