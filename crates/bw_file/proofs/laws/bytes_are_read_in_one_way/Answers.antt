use Rattle.bw_file.proofs.SpelledFile.{read_one_way}
use Rattle.bw_file.proofs.laws.bytes_are_read_in_one_way.Goals as goal

pub returns : goal.returns
returns c = read_one_way
