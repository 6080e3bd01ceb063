-- The column names of a heading.
use Rattle.std.specs.Prelude.{ℕ, List, [], ◌∷◌, ◌++◌, map, not, length, nat_le, Result, Ok}
use Rattle.std.specs.List.{list_any}
use Rattle.bw_model.specs.FaultTable.{SCHEMA_NAME, NAME_TWICE, COLUMN_COUNT}
use Rattle.bw_model.specs.declared.fault.Fault.{Fault}
use Rattle.bw_model.specs.Fault.{at_record, ◌>>=◌, refused_if}
use Rattle.bw_model.specs.Limits.{most_columns}
use Rattle.bw_text.specs.Lines.{is_empty}
use Rattle.bw_model.specs.Name.{is_name}
use Rattle.bw_text.specs.Text.{same_text}
use Rattle.bw_csv.specs.Rows.{without_blanks}

-- The names that follow these, or the first error from the left, which is at the heading, record 0:
-- the 65th column, an invalid name, or the name of an earlier column, ignoring case.
unfoldable pub names_from : List (List ℕ) → List (List ℕ) → Result (List (List ℕ)) Fault
names_from before [] = Ok before
names_from before (name ∷ names) =
    refused_if (nat_le most_columns (length before)) (at_record COLUMN_COUNT 0)
    (refused_if (not (is_name name)) (at_record SCHEMA_NAME 0)
    (refused_if (list_any (λ other. same_text other name) before) (at_record NAME_TWICE 0)
    (names_from (before ++ name ∷ []) names)))

-- a heading has at least one name
abbrev pub some_names : List (List ℕ) → Result (List (List ℕ)) Fault
some_names names = refused_if (is_empty names) (at_record COLUMN_COUNT 0) (Ok names)

-- the names in the fields of a heading, without the blanks at their ends
unfoldable pub heading_names : List (List ℕ) → Result (List (List ℕ)) Fault
heading_names fields = names_from [] (map without_blanks fields) >>= some_names
