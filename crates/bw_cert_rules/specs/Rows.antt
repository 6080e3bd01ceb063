-- Truth pairs, and the nodes that a condition's line takes from the product rows that it
-- references.
use Rattle.std.specs.Prelude.{ℕ, Option, Some, None, slice_get}
use Rattle.std.specs.Option.{option_and_then, option_map}
use Rattle.bw_diagram.specs.declared.product.Connective.TheVariants.{Diff}
use Rattle.bw_diagram.specs.References.{product_node, variable_node}
use Rattle.bw_diagram.specs.Facts.{Facts}
use Rattle.bw_diagram.specs.declared.truth_pair.TruthPair as pairs

-- the truth pair of a condition, which is of nodes
abbrev pub TruthPair : Type 0
TruthPair = pairs.TruthPair ℕ

-- the truth pair of two nodes: one is 1 if a condition is TRUE, the other if it is FALSE
abbrev pub pair_of_nodes : ℕ → ℕ → TruthPair
pair_of_nodes t f = record { yes = t; no = f }

-- the truth pair of two nodes, if there are both
abbrev pub if_both : Option ℕ → Option ℕ → Option TruthPair
if_both (Some t) (Some f) = Some (pair_of_nodes t f)
if_both _ _ = None

-- NOT exchanges the nodes
abbrev pub exchange_nodes : TruthPair → TruthPair
exchange_nodes pair = pair_of_nodes pair.no pair.yes

-- The null test of a column: the product row of this number is "1 and not z", and z's value is that
-- of the column's null variable. Its truth pair is z, which is 1 if the column is null, and the
-- row's third node, which is 1 if it isn't.
abbrev pub null_pair : Facts → ℕ → ℕ → Option TruthPair
null_pair facts variable number = option_and_then
    (λ row. if_both (variable_node facts variable row.b) (product_node facts Diff 1 row.b number))
    (slice_get facts.products number)

-- The node that is 1 if a column has a value: 1 if it has no null variable and the line has `-`;
-- else that of the null test that the line references.
abbrev pub value_node : Facts → Option ℕ → Option ℕ → Option ℕ
value_node facts None None = Some 1
value_node facts (Some variable) (Some number) = option_map (λ pair. pair.no)
    (null_pair facts variable number)
value_node facts _ _ = None
