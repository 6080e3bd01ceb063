-- What is read under one schema is read so under another of its shape.
use Rattle.bw_laws.proofs.OneAnswerLemmas.{one_reading}
use Rattle.bw_laws.proofs.one_answer.one_reading_under_one_shape.Goals as goal

pub returns : goal.returns
returns c = one_reading
