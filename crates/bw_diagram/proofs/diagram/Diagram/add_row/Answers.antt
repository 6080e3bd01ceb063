-- A product row that is accepted leaves all true.
use Rattle.std.proofs.Common.{◌∙◌, sym, ap, subst, List}
use Rattle.bw_diagram.specs.declared.product.Product.{Product}
use Rattle.bw_diagram.specs.Facts.{AreTrue, accept_product}
use Rattle.bw_diagram.specs.Diagram.{facts_of}
use Rattle.bw_diagram.proofs.FactsLemmas.{accept_product-true}
use Rattle.bw_diagram.proofs.diagram.Diagram.add_row.Goals as goal

pub invariant_of-self-2 : goal.invariant_of-self-2
invariant_of-self-2 c =
    let P : List Product → Type 0 = λ rows. AreTrue (record (facts_of c.self.inside) { products = rows }) in
    let checked = ap (λ facts. accept_product facts c.args.n (record { op = c.args.op; a = c.args.a; b = c.args.b; c = c.args.c }) c.args.reason) c.self.view_is ∙ sym c.in_ok-row.ensures.checked in
    record {
      variable_count = c.self.invariant.variable_count;
      few_nodes = c.self.invariant.few_nodes;
      few_chains = c.self.invariant.few_chains;
      are_true = subst P (sym c.in_ok-push.ensures.items) (accept_product-true (facts_of c.self.inside) c.args.n _ c.in_ok-row.row c.args.reason checked c.self.invariant.are_true);
    }
