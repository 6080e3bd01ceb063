-- Edges by their targets.
use Rattle.std.specs.Prelude.{◌≡◌, ◌<◌, ℕ, List, [], length, slice_index_or}
use Rattle.bw_cert_rules.specs.declared.edge.Edge.{Edge}
use Rattle.bw_cert_rules.specs.Join.{edges_into}

-- for each place, the edges into it
abbrev pub Holds : List (List Edge) → List Edge → Type 0
Holds by_target edges = (place : ℕ) → place < length by_target → slice_index_or by_target place []
    ≡ edges_into place edges
