use Rattle.bw_text.proofs.WordSpelling.{kind_of-spelling}
use Rattle.bw_text.proofs.line_kind.LineKind.is_of_its_spelling.Goals as goal

pub returns : goal.returns
returns c = kind_of-spelling c.args.self
