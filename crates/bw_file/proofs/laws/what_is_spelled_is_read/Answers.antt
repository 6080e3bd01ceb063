use Rattle.bw_file.proofs.SpelledFile.{spelled_is_read}
use Rattle.bw_file.proofs.laws.what_is_spelled_is_read.Goals as goal

pub returns : goal.returns
returns c = spelled_is_read
