-- The place of an aggregate's column among columns.
use Rattle.std.specs.Prelude.{◌≡◌, ℕ, List, Option, Some, None}
use Rattle.bw_model.specs.declared.query.Item.{Item}
use Rattle.bw_model.specs.declared.query.Item.TheVariants.{Plain, CountAll, Count, Sum, Min, Max}
use Rattle.bw_rowwise.specs.Columns.{IsAt}

-- the column of an item; a count of rows has none
abbrev pub column_read : Item → Option ℕ
column_read (Plain column) = Some column
column_read CountAll = None
column_read (Count column) = Some column
column_read (Sum column) = Some column
column_read (Min column) = Some column
column_read (Max column) = Some column

-- the aggregate's column is at this place
abbrev pub Reads : List ℕ → Item → ℕ → Type 0
Reads numbers item place = (column : ℕ) → column_read item ≡ Some column
    → IsAt numbers column place
