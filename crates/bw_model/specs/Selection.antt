-- The rows that a condition selects, and the items of a list whose bit is 1.
use Rattle.std.specs.Prelude.{ℕ, suc, Bool, true, false, List, [], ◌∷◌, map, filter}
use Rattle.bw_model.specs.declared.cond.Cond.{Cond}
use Rattle.bw_model.specs.Row.{Value}
use Rattle.bw_model.specs.Cond.{is_match}

-- the positions of the bits that are 1, ascending, if the first bit is at position `start`
abbrev pub positions_from : ℕ → List Bool → List ℕ
positions_from position [] = []
positions_from position (true ∷ bits) = position ∷ positions_from (suc position) bits
positions_from position (false ∷ bits) = positions_from (suc position) bits

abbrev pub positions_of : List Bool → List ℕ
positions_of bits = positions_from 0 bits

-- the items whose bit is 1
abbrev pub selected_items : {A : Type 0} → List Bool → List A → List A
selected_items [] items = []
selected_items (bit ∷ bits) [] = []
selected_items (true ∷ bits) (item ∷ items) = item ∷ selected_items bits items
selected_items (false ∷ bits) (item ∷ items) = selected_items bits items

-- for each row, whether the condition is TRUE on it
abbrev pub selection : Cond → List (List Value) → List Bool
selection cond rows = map (is_match cond) rows

-- the positions of the rows on which the condition is TRUE, ascending
abbrev pub matching_positions : Cond → List (List Value) → List ℕ
matching_positions cond rows = positions_of (selection cond rows)

-- the rows on which the condition is TRUE, in their order
abbrev pub matching_rows : Cond → List (List Value) → List (List Value)
matching_rows cond rows = filter (is_match cond) rows
