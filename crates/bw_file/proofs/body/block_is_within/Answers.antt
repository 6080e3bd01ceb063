use Rattle.bw_file.proofs.BodyLemmas.{before_within}
use Rattle.bw_file.proofs.body.block_is_within.Goals as goal

pub returns : goal.returns
returns c = before_within _ _ _ _ c.requires
