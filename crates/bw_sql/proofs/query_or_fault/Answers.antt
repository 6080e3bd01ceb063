-- Every text is cut, and the tokens are read.
use Rattle.bw_sql.proofs.Texts.{query_or_fault_of}
use Rattle.bw_sql.proofs.query_or_fault.Goals as goal

pub returns : goal.returns
returns c = query_or_fault_of
