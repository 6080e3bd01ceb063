use Rattle.bw_model.proofs.PlaceLemmas.{value_in-row_of}
use Rattle.bw_model.proofs.schema.Schema.row_of_assignment.Goals as goal

pub returns : goal.returns
returns c = λ bits. value_in-row_of c.args.self.now.columns.items bits c.args.col c.requires
