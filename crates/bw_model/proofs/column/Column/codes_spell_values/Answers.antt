use Rattle.bw_model.proofs.BitsLemmas.{code_of-value_of_code, value_of_code-code_of}
use Rattle.bw_model.proofs.column.Column.codes_spell_values.Goals as goal

pub returns : goal.returns
returns c = record {
  of_code = code_of-value_of_code c.args.self.now;
  of_value = value_of_code-code_of c.args.self.now;
}
