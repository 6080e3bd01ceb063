-- What a query means over a table's rows, after SQL-92, and its CSV text.
use Rattle.std.specs.Prelude.{ℕ, Bool, true, false, List, [], ◌∷◌, ◌++◌, map, Option, Some, None}
use Rattle.std.specs.Prelude.{codes, slice_index_or, if◌then◌else◌}
use Rattle.std.specs.List.{filter_map, flat_map, join_with_byte}
use Rattle.std.specs.Fmt.{signed_decimal}
use Rattle.bw_model.specs.declared.query.Item.{Item}
use Rattle.bw_model.specs.declared.query.Item.TheVariants.{Plain, CountAll, Count, Sum, Min, Max}
use Rattle.bw_model.specs.declared.query.Query.{Query}
use Rattle.bw_model.specs.Row.{Value, value_in}
use Rattle.bw_model.specs.Selection.{matching_rows}
use Rattle.bw_model.specs.Total.{total}

-- a number in decimal, and null as NULL
abbrev pub value_text : Value → List ℕ
value_text None = codes "NULL"
value_text (Some n) = signed_decimal n

-- the heading of an item: a column's name in its own spelling, or the aggregate
abbrev pub call_of : List ℕ → List ℕ → List ℕ
call_of function name = function ++ codes "(" ++ name ++ codes ")"

abbrev pub heading_of : List (List ℕ) → Item → List ℕ
heading_of names (Plain column) = slice_index_or names column []
heading_of names CountAll = codes "COUNT(*)"
heading_of names (Count column) = call_of (codes "COUNT") (slice_index_or names column [])
heading_of names (Sum column) = call_of (codes "SUM") (slice_index_or names column [])
heading_of names (Min column) = call_of (codes "MIN") (slice_index_or names column [])
heading_of names (Max column) = call_of (codes "MAX") (slice_index_or names column [])

-- a query lists rows if its first item is a column, and aggregates them if it is an aggregate
abbrev pub lists_rows : List Item → Bool
lists_rows [] = false
lists_rows (Plain column ∷ items) = true
lists_rows (CountAll ∷ items) = false
lists_rows (Count column ∷ items) = false
lists_rows (Sum column ∷ items) = false
lists_rows (Min column ∷ items) = false
lists_rows (Max column ∷ items) = false

-- the field of a row for an item, which only a column has
abbrev pub field_of : List Value → Item → Option (List ℕ)
field_of row (Plain column) = Some (value_text (value_in row column))
field_of row CountAll = None
field_of row (Count column) = None
field_of row (Sum column) = None
field_of row (Min column) = None
field_of row (Max column) = None

-- a record for each matching row, and the one record of totals over them
abbrev pub row_records : Query → List (List Value) → List (List (List ℕ))
row_records query rows = map (λ row. filter_map (field_of row) query.items.items)
    (matching_rows query.cond rows)

abbrev pub totals_record : Query → List (List Value) → List (List ℕ)
totals_record query rows = map (λ item. value_text (total item (matching_rows query.cond rows)))
    query.items.items

abbrev pub records_of : Query → List (List Value) → List (List (List ℕ))
records_of query rows = if lists_rows query.items.items then row_records query rows
    else totals_record query rows ∷ []

-- the meaning of a query over rows of columns of these names: a heading record, and then a record
-- for each matching row, or one record of totals over them
unfoldable pub meaning : List (List ℕ) → Query → List (List Value) → List (List (List ℕ))
meaning names query rows = map (heading_of names) query.items.items ∷ records_of query rows

-- records as text: fields joined by commas, byte 44, and a line feed, byte 10, after each record
abbrev pub record_text : List (List ℕ) → List ℕ
record_text fields = join_with_byte 44 fields ++ 10 ∷ []

unfoldable pub csv_text : List (List (List ℕ)) → List ℕ
csv_text records = flat_map record_text records

-- the item is the number of rows
abbrev pub is_count_all : Item → Bool
is_count_all (Plain column) = false
is_count_all CountAll = true
is_count_all (Count column) = false
is_count_all (Sum column) = false
is_count_all (Min column) = false
is_count_all (Max column) = false
