use Rattle.bw_text.proofs.SpacedWords.{line_said, line_skipped}
use Rattle.bw_text.proofs.laws.written_lines_are_read.Goals as goal

pub returns-clause-parsed : goal.returns-clause-parsed
returns-clause-parsed c = λ number word words rest plain says all. line_said number word words rest plain says all

pub returns-clause-skipped : goal.returns-clause-skipped
returns-clause-skipped c = λ number word words rest plain says all. line_skipped number word words rest plain says all
