-- A chain that is accepted leaves all true.
use Rattle.std.proofs.Common.{◌∙◌, sym, ap, subst, List, [], ◌∷◌, length, length-append, arith}
use Rattle.bw_diagram.specs.declared.chain.Chain.{Chain}
use Rattle.bw_diagram.specs.Chain.{chain_named}
use Rattle.bw_diagram.specs.Facts.{AreTrue, accept_chain}
use Rattle.bw_diagram.specs.Diagram.{facts_of}
use Rattle.bw_diagram.proofs.FactsLemmas.{accept_chain-true, accept_chain-room}
use Rattle.bw_diagram.proofs.diagram.Diagram.add_chain.Goals as goal

pub invariant_of-self-2 : goal.invariant_of-self-2
invariant_of-self-2 c =
    let P : List Chain → Type 0 = λ chains. AreTrue (record (facts_of c.self.inside) { chains = chains }) in
    let checked = ap (λ facts. accept_chain facts c.args.n (chain_named facts.columns c.args.columns.now)) c.self.view_is ∙ sym c.in_ok-chain.ensures.checked in
    record {
      variable_count = c.self.invariant.variable_count;
      few_chains =
          omega (arith, ap length c.in_ok-push.ensures.items, length-append c.self.inside.chains.items (c.in_ok-chain.chain ∷ []), accept_chain-room (facts_of c.self.inside) c.args.n _ c.in_ok-chain.chain checked);
      few_nodes = c.self.invariant.few_nodes;
      are_true = subst P (sym c.in_ok-push.ensures.items) (accept_chain-true (facts_of c.self.inside) c.args.n _ c.in_ok-chain.chain checked c.self.invariant.are_true);
    }
