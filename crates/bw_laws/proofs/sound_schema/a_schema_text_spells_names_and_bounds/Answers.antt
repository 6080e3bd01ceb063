-- Each line was read so.
use Rattle.bw_laws.proofs.SoundSchemaLemmas.{sound_shape}
use Rattle.bw_laws.proofs.sound_schema.a_schema_text_spells_names_and_bounds.Goals as goal

pub returns : goal.returns
returns c = sound_shape
