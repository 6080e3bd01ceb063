use Rattle.bw_text.proofs.WordSpelling.{opcode_of-spelling}
use Rattle.bw_text.proofs.opcode.Opcode.is_of_its_spelling.Goals as goal

pub returns : goal.returns
returns c = opcode_of-spelling c.args.self
