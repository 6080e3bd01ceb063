use Rattle.bw_program.proofs.ProgramSpelling.{text_spelled, spelled_text}
use Rattle.bw_program.proofs.laws.programs_are_read_as_spelled.Goals as goal

pub returns-clause-read : goal.returns-clause-read
returns-clause-read c = spelled_text

pub returns-clause-spelled : goal.returns-clause-spelled
returns-clause-spelled c = text_spelled
