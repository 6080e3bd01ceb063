-- The columns that a query lists.
use Rattle.std.specs.Prelude.{ℕ, List, Option, None, Some, map}
use Rattle.std.specs.List.{filter_map}
use Rattle.bw_model.specs.declared.query.Item.{Item}
use Rattle.bw_model.specs.declared.query.Item.TheVariants.{Plain, CountAll, Count, Sum, Min, Max}
use Rattle.bw_model.specs.Row.{Value, value_in}
use Rattle.bw_answer.specs.Answer.{value_text}

-- the column of an item that is one
abbrev pub column_of : Item → Option ℕ
column_of (Plain column) = Some column
column_of CountAll = None
column_of (Count column) = None
column_of (Sum column) = None
column_of (Min column) = None
column_of (Max column) = None

abbrev pub columns_of : List Item → List ℕ
columns_of items = filter_map column_of items

-- a row's values in these columns, as fields
abbrev pub fields_of : List ℕ → List Value → List (List ℕ)
fields_of columns row = map (λ column. value_text (value_in row column)) columns
