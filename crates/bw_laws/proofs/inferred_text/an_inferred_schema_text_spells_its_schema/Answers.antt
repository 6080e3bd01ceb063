-- The names, the bounds and the number of its columns are those of a schema.
use Rattle.bw_laws.proofs.InferredTextLemmas.{inferred_spelled}
use Rattle.bw_laws.proofs.inferred_text.an_inferred_schema_text_spells_its_schema.Goals as goal

pub returns : goal.returns
returns c = inferred_spelled
