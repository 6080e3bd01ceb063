-- Demands on a statement beyond the productions of the grammar.
use Rattle.std.specs.Prelude.{ℕ, ℤ, pos, ◌-ℤ◌, Bool, true, false, not, List, map, length, Option}
use Rattle.std.specs.Prelude.{Some, None, is_some, nat_le}
use Rattle.std.specs.List.{range_with_len}
use Rattle.bw_model.specs.declared.column.Column.{Column}
use Rattle.bw_model.specs.declared.query.Item.{Item}
use Rattle.bw_model.specs.declared.query.Item.TheVariants.{Plain}
use Rattle.bw_model.specs.declared.schema.Schema.{Schema}
use Rattle.bw_model.specs.Column.{column_named}
use Rattle.bw_text.specs.Number.{digits_value, number_of}
use Rattle.bw_text.specs.Text.{same_text}
use Rattle.bw_sql.specs.declared.reader.Refusal.{Refusal}
use Rattle.bw_sql.specs.declared.reader.Refusal.TheVariants.{UnknownTable, UnknownColumn, Literal}
use Rattle.bw_sql.specs.declared.reader.Refusal.TheVariants.{MixedItems, Nesting}
use Rattle.bw_sql.specs.Limits.{deepest_nesting}

-- A table's name is the schema's; a column's name is that of one of its columns; 64 bits hold the
-- number of a sign and digits; an item is of the first item's kind (each kind given as whether it
-- is a plain column); brackets and NOTs nest at most this deep.
pub data Demand : Type 0 where
  NamesTable : List ℕ → Demand
  NamesColumn : List ℕ → Demand
  Fits : Bool → List ℕ → Demand
  OfOneKind : Bool → Bool → Demand
  Depth : ℕ → Demand

-- every column, in the order of the schema
abbrev pub every_column : List Column → List Item
every_column columns = map Plain (range_with_len 0 (length columns))

abbrev pub same_kind : Bool → Bool → Bool
same_kind true other = other
same_kind false other = not other

-- whether a demand is met under a schema, by the table's name and its columns
unfoldable pub meets : List ℕ → List Column → Demand → Bool
meets name columns (NamesTable text) = same_text name text
meets name columns (NamesColumn text) = is_some (column_named columns text)
meets name columns (Fits is_negative digits) = is_some (number_of is_negative digits)
meets name columns (OfOneKind first other) = same_kind first other
meets name columns (Depth depth) = nat_le depth deepest_nesting

abbrev pub is_met : Schema → Demand → Bool
is_met schema demand = meets schema.name schema.columns.items demand

-- why a statement that doesn't meet a demand is rejected
abbrev pub refusal : Demand → Refusal
refusal (NamesTable text) = UnknownTable
refusal (NamesColumn text) = UnknownColumn
refusal (Fits is_negative digits) = Literal
refusal (OfOneKind first other) = MixedItems
refusal (Depth depth) = Nesting

-- the column of a name, or the first column if there is none of this name
abbrev pub column_or_first : Option ℕ → ℕ
column_or_first (Some column) = column
column_or_first None = 0

abbrev pub column_number : List Column → List ℕ → ℕ
column_number columns text = column_or_first (column_named columns text)

-- the number that a sign and digits spell
abbrev pub number_with_sign : Bool → List ℕ → ℤ
number_with_sign true digits = pos 0 -ℤ pos (digits_value digits)
number_with_sign false digits = pos (digits_value digits)
