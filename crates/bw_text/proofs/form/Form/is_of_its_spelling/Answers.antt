use Rattle.bw_text.proofs.WordSpelling.{form_of-spelling}
use Rattle.bw_text.proofs.form.Form.is_of_its_spelling.Goals as goal

pub returns : goal.returns
returns c = form_of-spelling c.args.self
