use Rattle.bw_encode.proofs.OneLemmas.{one_encoding}
use Rattle.bw_encode.proofs.laws.a_column_has_one_encoding.Goals as goal

pub returns : goal.returns
returns c = one_encoding
