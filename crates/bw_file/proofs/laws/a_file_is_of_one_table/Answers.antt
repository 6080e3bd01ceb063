use Rattle.bw_file.proofs.SpelledFile.{of_one_table}
use Rattle.bw_file.proofs.laws.a_file_is_of_one_table.Goals as goal

pub returns : goal.returns
returns c = of_one_table
