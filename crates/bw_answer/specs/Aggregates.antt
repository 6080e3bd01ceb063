-- The aggregates of a query, each once, and their results.
use Rattle.std.specs.Prelude.{ℤ, Bool, not, List, [], ◌∷◌, filter, Option, None, if◌then◌else◌}
use Rattle.bw_model.specs.contracts.query.ItemPartialEq.TheImpl as item_eq
use Rattle.bw_model.specs.declared.query.Item.{Item}
use Rattle.bw_model.specs.Total.{is_aggregate}
use Rattle.bw_rowwise.specs.Accumulator.{Tally}

-- two items are equal, as the derived `==` says
abbrev pub is_same : Item → Item → Bool
is_same = (item_eq.ghosts).eq

-- the items, each once, in the order in which they first appear
unfoldable pub each_once : List Item → List Item
each_once [] = []
each_once (item ∷ items) = item ∷ filter (λ other. not (is_same other item)) (each_once items)

abbrev pub aggregates_of : List Item → List Item
aggregates_of items = each_once (filter is_aggregate items)

-- the result of the first tally of an item; null if there is none
unfoldable pub answer_for : List Tally → Item → Option ℤ
answer_for [] item = None
answer_for (tally ∷ tallies) item = if is_same tally.item item then tally.answer
    else answer_for tallies item
