-- The rules of joins: what is known where skips and fall-through meet.
use Rattle.std.specs.Prelude.{ℕ, Bool, true, false, ◌&&◌, ◌==◌, if◌then◌else◌, List, [], ◌∷◌, ◌++◌}
use Rattle.std.specs.Prelude.{Option, Some, None, nat_le}
use Rattle.std.specs.Option.{option_and_then}
use Rattle.bw_diagram.specs.declared.product.Connective.TheVariants as connective
use Rattle.bw_diagram.specs.Facts.{Facts}
use Rattle.bw_diagram.specs.References.{product_node}
use Rattle.bw_cert_text.specs.declared.lines.EdgeProducts.{EdgeProducts}
use Rattle.bw_cert_text.specs.declared.lines.Keep.{Keep}
use Rattle.bw_program.specs.declared.instr.Instr.{Instr}
use Rattle.bw_program.specs.declared.instr.Instr.TheVariants.{Skip}
use Rattle.bw_text.specs.Register.{is_register}
use Rattle.bw_cert_rules.specs.declared.edge.Edge.{Edge}
use Rattle.bw_cert_rules.specs.Known.{KnownNodes, node_of}

-- the edge of an instruction that is a skip: its target, its register, and what is known there
abbrev pub edge_of : KnownNodes → Instr → Option Edge
edge_of known (Skip x target) = Some (record { target = target; register = x; known = known })
edge_of known _ = None

abbrev pub with_edge : List Edge → Option Edge → List Edge
with_edge edges None = edges
with_edge edges (Some edge) = edges ++ edge ∷ []

-- the edges into a place, in the order of their skips
unfoldable pub edges_into : ℕ → List Edge → List Edge
edges_into place [] = []
edges_into place (edge ∷ edges) = if edge.target == place then edge ∷ edges_into place edges
    else edges_into place edges

-- the node is the terminal 0
abbrev pub is_zero : Option ℕ → Bool
is_zero None = false
is_zero (Some node) = node == 0

-- On fall-through, the register's node equals the kept one: their XOR is 0 by the product row.
abbrev pub keeps_through : Facts → KnownNodes → Keep → Bool
keeps_through facts through keep = is_zero
    (option_and_then (λ f. product_node facts connective.Xor f keep.node keep.through)
    (node_of through keep.register))

-- By a skip, the register's node there differs from the kept one only if the skip's register is 1:
-- one product row states how they differ, and the other that the difference "and not" the skip's
-- register is 0.
abbrev pub keeps_by_skip : Facts → Keep → Edge → EdgeProducts → Bool
keeps_by_skip facts keep edge rows =
    is_zero (option_and_then (λ differs. option_and_then (λ skipped.
    product_node facts connective.Diff differs skipped rows.within)
    (node_of edge.known edge.register))
    (option_and_then (λ g. product_node facts connective.Xor g keep.node rows.differs)
    (node_of edge.known keep.register)))

-- so it is by each skip, with one pair of product rows each
unfoldable pub keeps_by_skips : Facts → Keep → List Edge → List EdgeProducts → Bool
keeps_by_skips facts keep [] [] = true
keeps_by_skips facts keep [] (rows ∷ more) = false
keeps_by_skips facts keep (edge ∷ edges) [] = false
keeps_by_skips facts keep (edge ∷ edges) (rows ∷ more) = keeps_by_skip facts keep edge rows
    && keeps_by_skips facts keep edges more

-- The register isn't below the least, and has the node that its line names on every way to the
-- join.
unfoldable pub is_valid_keep : Facts → KnownNodes → List Edge → ℕ → Keep → Bool
is_valid_keep facts through edges least keep =
    nat_le least keep.register && is_register keep.register && keeps_through facts through keep
    && keeps_by_skips facts keep edges keep.edges
