use Rattle.bw_model.proofs.StoredCodeLemmas.{stored_below, number_of_bits, byte_of_bits}
use Rattle.bw_model.proofs.schema.Schema.bits_spell_stored_codes.Goals as goal

pub returns : goal.returns
returns c =
    let columns = c.args.self.now.columns.items in
    record {
      below = λ values admitted. stored_below columns values c.args.col admitted c.requires;
      bits = λ values start count admitted. number_of_bits columns values c.args.col start count admitted c.requires;
      bytes = λ values slice admitted. byte_of_bits columns values c.args.col slice admitted c.requires;
    }
