use Rattle.bw_model.proofs.BitsLemmas.{row_of-bits_of}
use Rattle.bw_model.proofs.schema.Schema.bits_spell_row.Goals as goal

pub returns : goal.returns
returns c = row_of-bits_of c.args.self.now.columns.items
