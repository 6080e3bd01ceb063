-- The facts that a diagram's fields are, and what is always true of them.
use Rattle.std.specs.Prelude.{◌≡◌, ◌≤◌, length}
use Rattle.bw_model.specs.Variable.{variables_of}
use Rattle.bw_diagram.specs.declared.diagram.Diagram.TheInside.{Inside}
use Rattle.bw_diagram.specs.Facts.{Facts, AreTrue, most_nodes, most_chains}

abbrev pub facts_of : Inside → Facts
facts_of diagram = record {
  columns = diagram.schema.now.columns.items;
  nodes = diagram.nodes.items;
  chains = diagram.chains.items;
  products = diagram.products.items;
}

-- the number of variables is the schema's, the limits are respected, and the facts are true
pub record IsKept (diagram : Inside) : Type 0 where
  pub variable_count : diagram.variables ≡ variables_of diagram.schema.now.columns.items
  pub few_nodes : length diagram.nodes.items ≤ most_nodes
  pub few_chains : length diagram.chains.items ≤ most_chains
  pub are_true : AreTrue (facts_of diagram)
