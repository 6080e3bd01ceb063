-- Aggregates of rows, after SQL-92: nulls are dropped first. Over nothing, COUNT is 0 and the
-- others are null.
use Rattle.std.specs.Prelude.{ℕ, ℤ, pos, ◌+ℤ◌, List, length, Option, Some, None, Bool, true, false}
use Rattle.std.specs.Prelude.{nat_lt}
use Rattle.std.specs.List.{filter_map, reduce}
use Rattle.std.specs.Int.{int_min, int_max}
use Rattle.bw_model.specs.declared.query.Item.{Item}
use Rattle.bw_model.specs.declared.query.Item.TheVariants.{Plain, CountAll, Count, Sum, Min, Max}
use Rattle.bw_model.specs.Row.{Value, value_in}

-- a column's values in the rows, without the nulls
abbrev pub present : ℕ → List (List Value) → List ℤ
present column rows = filter_map (λ row. value_in row column) rows

-- the aggregate of the rows; a plain column has none
abbrev pub total : Item → List (List Value) → Option ℤ
total (Plain column) rows = None
total CountAll rows = Some (pos (length rows))
total (Count column) rows = Some (pos (length (present column rows)))
total (Sum column) rows = reduce (λ a b. a +ℤ b) (present column rows)
total (Min column) rows = reduce int_min (present column rows)
total (Max column) rows = reduce int_max (present column rows)

-- the aggregate of two lists of rows, from the aggregates of both, neither of them null
abbrev pub of_both : Item → ℤ → ℤ → ℤ
of_both (Plain column) a b = a +ℤ b
of_both CountAll a b = a +ℤ b
of_both (Count column) a b = a +ℤ b
of_both (Sum column) a b = a +ℤ b
of_both (Min column) a b = int_min a b
of_both (Max column) a b = int_max a b

-- the aggregate of two lists of rows, from the aggregates of both; null, the aggregate of no
-- values, adds nothing
abbrev pub combine_totals : Item → Option ℤ → Option ℤ → Option ℤ
combine_totals item None others = others
combine_totals item (Some a) None = Some a
combine_totals item (Some a) (Some b) = Some (of_both item a b)

-- the item is an aggregate
abbrev pub is_aggregate : Item → Bool
is_aggregate (Plain column) = false
is_aggregate CountAll = true
is_aggregate (Count column) = true
is_aggregate (Sum column) = true
is_aggregate (Min column) = true
is_aggregate (Max column) = true

-- the item names no column, or one of the first `columns`
abbrev pub item_within : ℕ → Item → Bool
item_within columns (Plain column) = nat_lt column columns
item_within columns CountAll = true
item_within columns (Count column) = nat_lt column columns
item_within columns (Sum column) = nat_lt column columns
item_within columns (Min column) = nat_lt column columns
item_within columns (Max column) = nat_lt column columns
