-- Later nodes leave the values of those before them.
use Rattle.bw_diagram.proofs.NodeLemmas.{node_value-append}
use Rattle.bw_diagram.proofs.diagram.laws.later_nodes_change_no_value.Goals as goal

pub returns : goal.returns
returns c = node_value-append
