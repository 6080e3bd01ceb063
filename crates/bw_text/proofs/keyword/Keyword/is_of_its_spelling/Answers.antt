use Rattle.bw_text.proofs.WordSpelling.{keyword_of-spelling}
use Rattle.bw_text.proofs.keyword.Keyword.is_of_its_spelling.Goals as goal

pub returns : goal.returns
returns c = keyword_of-spelling c.args.self
