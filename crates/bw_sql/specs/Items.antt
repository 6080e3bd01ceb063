-- Kinds of items.
use Rattle.std.specs.Prelude.{Bool, true, false, List, IsTrue, not}
use Rattle.std.specs.List.{list_all}
use Rattle.bw_model.specs.declared.query.Item.{Item}
use Rattle.bw_model.specs.Total.{is_aggregate}

-- a column, or an aggregate
abbrev pub is_of_kind : Bool → Item → Bool
is_of_kind true item = not (is_aggregate item)
is_of_kind false item = is_aggregate item

abbrev pub are_of_kind : Bool → List Item → Bool
are_of_kind are_columns items = list_all (is_of_kind are_columns) items

-- all are columns, or all are aggregates
abbrev pub AreOfOneKind : List Item → Type 0
AreOfOneKind items = (are_columns : Bool) × IsTrue (are_of_kind are_columns items)
