-- When known nodes are true in a state of the segment machine.
use Rattle.std.specs.Prelude.{◌≡◌, ℕ, Bool, List, map, Some}
use Rattle.bw_model.specs.Variable.{Assignment}
use Rattle.bw_diagram.specs.Facts.{Facts}
use Rattle.bw_diagram.specs.Node.{node_value}
use Rattle.bw_cert_rules.specs.Known.{KnownNodes, node_of}

-- each register whose node is known has, in the lane of each assignment, the value of the node
abbrev pub Hold : Facts → List Assignment → KnownNodes → (ℕ → List Bool) → Type 0
Hold facts lanes known registers =
    (register node : ℕ) → node_of known register ≡ Some node → registers register
    ≡ map (λ assignment. node_value facts.nodes assignment node) lanes
