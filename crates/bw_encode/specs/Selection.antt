-- Which rows and which fields of a text are encoded.
use Rattle.std.specs.Prelude.{ℕ, ◌==◌, ◌-◌, ◌++◌, Bool, true, false, List, [], length, map}
use Rattle.std.specs.Prelude.{take, replicate, nat_le, nat_lt, slice_index_or, Option, Some, None}
use Rattle.std.specs.Prelude.{if◌then◌else◌}
use Rattle.std.specs.Borrow.{Bor}
use Rattle.std.specs.List.{list_all}
use Rattle.bw_encode.specs.declared.selection.Selection.{Selection}

-- the fields that are columns, by their places, if they aren't all
abbrev pub Places : Type 0
Places = Option (Bor (List ℕ))

-- how many columns there are, if the heading has this many fields
abbrev pub count_in : Places → ℕ → ℕ
count_in None width = width
count_in (Some places) width = length places.now

-- each place is that of one of this many fields
abbrev pub are_there : Places → ℕ → Bool
are_there None width = true
are_there (Some places) width = list_all (λ place. nat_lt place width) places.now

-- the place of the field that a column has
abbrev pub place_at : Places → ℕ → ℕ
place_at None column = column
place_at (Some places) column = slice_index_or places.now column 0

-- the fields at places of a record
abbrev pub fields_at : Places → List (List ℕ) → List (List ℕ)
fields_at None fields = fields
fields_at (Some places) fields = map (λ place. slice_index_or fields place []) places.now

-- a record, with empty fields at its end if it has fewer than the heading
abbrev pub filled : ℕ → List (List ℕ) → List (List ℕ)
filled width fields = fields ++ replicate (width - length fields) []

-- the row of a record: its selected fields
abbrev pub row_of : Selection → ℕ → List (List ℕ) → List (List ℕ)
row_of selection width fields = fields_at selection.columns (filled width fields)

-- a record may have this many fields: as many as the heading, or fewer if it is filled
abbrev pub has_length : Bool → ℕ → ℕ → Bool
has_length is_filled count width = if is_filled then nat_le count width else count == width

-- the row of this number, from 1, is past the limit, if there is one
abbrev pub is_past : Option ℕ → ℕ → Bool
is_past None number = false
is_past (Some rows) number = nat_lt rows number

-- the first of some records, up to a limit
abbrev pub up_to : Option ℕ → List (List (List ℕ)) → List (List (List ℕ))
up_to None records = records
up_to (Some count) records = take count records
