use Rattle.bw_model.proofs.PlaceLemmas.{length-bits_of, null_bit_at_variable, code_bit_at}
use Rattle.bw_model.proofs.schema.Schema.bits_stand_at_variables.Goals as goal

pub returns : goal.returns
returns c =
    let columns = c.args.self.now.columns.items in
    record {
      count = length-bits_of columns;
      null = λ values variable admitted. null_bit_at_variable columns values c.args.col variable admitted c.requires;
      code = λ values bit admitted. code_bit_at columns values c.args.col bit admitted c.requires;
    }
