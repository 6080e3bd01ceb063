-- What a truth pair states of a condition.
use Rattle.std.specs.Prelude.{◌≡◌, List}
use Rattle.bw_model.specs.declared.cond.Truth.{Truth}
use Rattle.bw_model.specs.declared.cond.Truth.TheVariants.{No, Yes}
use Rattle.bw_model.specs.Truth.{is_truth}
use Rattle.bw_model.specs.Variable.{Assignment}
use Rattle.bw_diagram.specs.declared.node.Node.{Node}
use Rattle.bw_diagram.specs.Node.{IsNode, node_value}
use Rattle.bw_cert_rules.specs.Rows.{TruthPair}

-- The pair is two of these nodes, and under every assignment the first is 1 exactly if the truth is
-- TRUE, and the second exactly if it is FALSE.
pub record Tells (nodes : List Node) (truth : Assignment → Truth) (pair : TruthPair) : Type 0 where
  pub yes_node : IsNode nodes pair.yes
  pub no_node : IsNode nodes pair.no
  pub yes : (assignment : Assignment) → node_value nodes assignment pair.yes
      ≡ is_truth (truth assignment) Yes
  pub no : (assignment : Assignment) → node_value nodes assignment pair.no
      ≡ is_truth (truth assignment) No
