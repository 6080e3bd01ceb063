-- A node that is accepted leaves all true.
use Rattle.std.proofs.Common.{◌∙◌, sym, ap, subst, List, [], ◌∷◌, length, length-append, arith}
use Rattle.bw_diagram.specs.declared.node.Node.{Node}
use Rattle.bw_diagram.specs.Facts.{AreTrue, accept_node}
use Rattle.bw_diagram.specs.Diagram.{facts_of}
use Rattle.bw_diagram.proofs.FactsLemmas.{accept_node-true, accept_node-room}
use Rattle.bw_diagram.proofs.diagram.Diagram.add_node.Goals as goal

pub invariant_of-self-2 : goal.invariant_of-self-2
invariant_of-self-2 c =
    let P : List Node → Type 0 = λ nodes. AreTrue (record (facts_of c.self.inside) { nodes = nodes }) in
    let checked = ap (λ facts. accept_node facts c.args.n (record { v = c.args.v; low = c.args.low; high = c.args.high })) c.self.view_is ∙ sym c.in_ok-node.ensures.checked in
    record {
      variable_count = c.self.invariant.variable_count;
      few_nodes =
          omega (arith, ap length c.in_ok-push.ensures.items, length-append c.self.inside.nodes.items (c.in_ok-node.node ∷ []), accept_node-room (facts_of c.self.inside) c.args.n _ c.in_ok-node.node checked);
      few_chains = c.self.invariant.few_chains;
      are_true = subst P (sym c.in_ok-push.ensures.items) (accept_node-true (facts_of c.self.inside) c.args.n _ c.in_ok-node.node checked c.self.invariant.are_true);
    }
