-- Decision diagrams, after Bryant: nodes, and their values under an assignment.
use Rattle.std.specs.Prelude.{◌≡◌, ◌<◌, ℕ, ◌+◌, ◌-◌, Bool, true, false, List, [], ◌∷◌, ◌++◌, length}
use Rattle.std.specs.Prelude.{Option, Some, None, slice_get, slice_index_or, if◌then◌else◌, ◌&&◌}
use Rattle.std.specs.Prelude.{◌==◌, nat_lt}
use Rattle.bw_model.specs.Variable.{Assignment}
use Rattle.bw_diagram.specs.declared.node.Node.{Node}

-- Nodes are numbered: 0 and 1 are the terminals, and the nodes of a list follow from 2 on.
abbrev pub is_node : List Node → ℕ → Bool
is_node nodes number = nat_lt number (2 + length nodes)

abbrev pub IsNode : List Node → ℕ → Type 0
IsNode nodes number = number < 2 + length nodes

-- the node of a number; a terminal has none, as it tests nothing
abbrev pub node_at : List Node → ℕ → Option Node
node_at nodes number = if nat_lt number 2 then None else slice_get nodes (number - 2)

-- the child for a bit
abbrev pub child : Bool → Node → ℕ
child true node = node.high
child false node = node.low

-- the value of a node, from the values of all nodes before it: that of its high child if its
-- variable is 1, else that of its low child
abbrev pub child_value : Assignment → List Bool → Node → Bool
child_value assignment before node = slice_index_or before (child (assignment node.v) node) false

-- these values, followed by those of the next nodes
abbrev pub values_from : Assignment → List Bool → List Node → List Bool
values_from assignment before [] = before
values_from assignment before (node ∷ nodes) = values_from assignment
    (before ++ child_value assignment before node
    ∷ []) nodes

-- The value of a node under an assignment. The terminals have the values 0 and 1.
unfoldable pub node_value : List Node → Assignment → ℕ → Bool
node_value nodes assignment number = slice_index_or
    (values_from assignment (false ∷ true ∷ []) nodes) number false

-- the child of a node for a variable's bit, if the node tests that variable, else the node itself
abbrev pub child_if_tested : ℕ → Bool → ℕ → Option Node → ℕ
child_if_tested v bit number None = number
child_if_tested v bit number (Some node) = if node.v == v then child bit node else number

unfoldable pub cofactor : List Node → ℕ → Bool → ℕ → ℕ
cofactor nodes v bit number = child_if_tested v bit number (node_at nodes number)

-- A node of this number is valid as the next one: it tests one of the variables, and its children
-- have smaller numbers.
unfoldable pub is_valid_node : ℕ → List Node → ℕ → Node → Bool
is_valid_node variables nodes number node =
    (number == 2 + length nodes) && nat_lt node.v variables && nat_lt node.low number
    && nat_lt node.high number

-- each node's children have smaller numbers than the node
abbrev pub AreOrdered : List Node → Type 0
AreOrdered nodes = (k : ℕ) (node : Node) (bit : Bool) → slice_get nodes k ≡ Some node
    → child bit node < 2 + k
