-- What nodes are worth, since their children come before them.
use Rattle.std.proofs.Common.{subst}
use Rattle.bw_diagram.specs.Node.{AreOrdered}
use Rattle.bw_diagram.specs.Facts.{Facts}
use Rattle.bw_diagram.proofs.NodeLemmas.{node_value-zero, node_value-one, node_value-node_at}
use Rattle.bw_diagram.proofs.diagram.Diagram.nodes_choose.Goals as goal

pub returns-clause-zero : goal.returns-clause-zero
returns-clause-zero c = node_value-zero c.args.self.now.nodes

pub returns-clause-one : goal.returns-clause-one
returns-clause-one c = node_value-one c.args.self.now.nodes

pub returns-clause-node : goal.returns-clause-node
returns-clause-node c n node assignment is =
    let P : Facts → Type 0 = λ facts. AreOrdered facts.nodes in
    node_value-node_at c.args.self.now.nodes n node assignment (subst P c.self.view_is c.self.invariant.are_true.ordered) is
