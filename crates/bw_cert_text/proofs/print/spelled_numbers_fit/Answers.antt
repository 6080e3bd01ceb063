use Rattle.bw_cert_text.proofs.SpelledNumbers.{text_small}
use Rattle.bw_cert_text.proofs.print.spelled_numbers_fit.Goals as goal

pub returns : goal.returns
returns c = λ first text certificate is. text_small first text certificate is
