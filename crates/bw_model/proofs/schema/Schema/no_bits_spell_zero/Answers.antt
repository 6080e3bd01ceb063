use Rattle.std.proofs.Common.{◌-◌, ◌+◌, suc}
use Rattle.bw_model.specs.Variable.{first_variable}
use Rattle.bw_model.proofs.StoredCodeLemmas.{spelled_zero}
use Rattle.bw_model.proofs.schema.Schema.no_bits_spell_zero.Goals as goal

pub returns : goal.returns
returns c = λ col start count. spelled_zero (first_variable c.args.self.now.columns.items (suc col) - (start + count)) count
