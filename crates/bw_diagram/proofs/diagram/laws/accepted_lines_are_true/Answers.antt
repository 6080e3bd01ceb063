-- Lines that are accepted leave all true.
use Rattle.bw_diagram.proofs.FactsLemmas.{with_node-true, with_chain-true, with_product-true}
use Rattle.bw_diagram.proofs.diagram.laws.accepted_lines_are_true.Goals as goal

pub returns-clause-node : goal.returns-clause-node
returns-clause-node c = with_node-true

pub returns-clause-chain : goal.returns-clause-chain
returns-clause-chain c = with_chain-true

pub returns-clause-row : goal.returns-clause-row
returns-clause-row c = with_product-true
