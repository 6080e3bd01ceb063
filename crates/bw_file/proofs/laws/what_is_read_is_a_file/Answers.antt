use Rattle.bw_file.proofs.FileSpelling.{read_is_spelled}
use Rattle.bw_file.proofs.laws.what_is_read_is_a_file.Goals as goal

pub returns : goal.returns
returns c = read_is_spelled
