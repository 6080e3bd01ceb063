use Rattle.bw_text.proofs.DecimalLemmas.{natural_of-decimal}
use Rattle.bw_text.proofs.laws.written_numbers_are_read.Goals as goal

pub returns : goal.returns
returns c = λ number small. natural_of-decimal number small
