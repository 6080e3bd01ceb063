-- What can be cited is worth what its row or its chain says.
use Rattle.bw_diagram.proofs.ReferenceLemmas.{have_values}
use Rattle.bw_diagram.proofs.references.cited_nodes_have_stated_values.Goals as goal

pub returns : goal.returns
returns c = have_values
