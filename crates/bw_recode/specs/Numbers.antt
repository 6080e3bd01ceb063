-- What the codes of a table's columns become, and the text that says so.
use Rattle.std.specs.Prelude.{ℕ, zero, suc, ◌+◌, Bool, not, ◌&&◌, ◌||◌, int_le, if◌then◌else◌}
use Rattle.std.specs.Prelude.{List, [], ◌∷◌, length, drop, codes, Option, Some, None}
use Rattle.std.specs.Prelude.{Result, Ok, Err}
use Rattle.bw_text.specs.Text.{same_text}
use Rattle.bw_model.specs.FaultTable.{RECORD_LENGTH, OUT_OF_RANGE, NULL_NOT_ALLOWED}
use Rattle.bw_model.specs.declared.column.Column.{Column}
use Rattle.bw_model.specs.declared.fault.Fault.{Fault}
use Rattle.bw_model.specs.Code.{span_of}
use Rattle.bw_model.specs.Fault.{at_line, ◌>>=◌, refused_if}
use Rattle.bw_model.specs.Row.{Value}
use Rattle.bw_csv.specs.declared.rule.FieldRule.{FieldRule}
use Rattle.bw_csv.specs.Rows.{value_of_field}
use Rattle.bw_csv.specs.Rule.{rule_of}

-- what the values of a column become: the same values, or for each code in order a number or null
abbrev pub Replacement : Type 0
Replacement = Option (List Value)

-- a result whose error is at the line of this number
abbrev pub on_line : ℕ → Result Value Fault → Result Value Fault
on_line number (Ok value) = Ok value
on_line number (Err fault) = Err (at_line fault.code number)

-- the value that a line spells as a field, or its error at the line of this number
abbrev pub value_of_line : FieldRule → ℕ → List ℕ → Result Value Fault
value_of_line rule number line = on_line number (value_of_field 0 rule line)

-- the values of the next `count` lines, the first of which has this number: each line is a field
unfoldable pub values_of_lines : FieldRule → ℕ → ℕ → List (List ℕ) → Result (List Value) Fault
values_of_lines rule zero number lines = Ok []
values_of_lines rule (suc count) number [] = Err (at_line RECORD_LENGTH number)
values_of_lines rule (suc count) number (line ∷ lines) =
    value_of_line rule number line
    >>= λ value. values_of_lines rule count (number + 1) lines
    >>= λ values. Ok (value ∷ values)

-- every number of the old column is one of the new column
abbrev pub is_narrower : Column → Column → Bool
is_narrower old new = int_le new.lo old.lo && int_le old.hi new.hi

-- the old column's nulls, if it may have some, are allowed in the new column
abbrev pub keeps_nulls : Column → Column → Bool
keeps_nulls old new = not old.nullable || new.nullable

-- What the lines from this one on say of a column: KEEP, if the new column has its numbers; or
-- CODES, and then a line for each code, which is a field of the new column.
unfoldable pub replacement_at : Column → Column → ℕ → List (List ℕ) → Result Replacement Fault
replacement_at old new number [] = Err (at_line RECORD_LENGTH number)
replacement_at old new number (line ∷ lines) =
    refused_if (not (keeps_nulls old new)) (at_line NULL_NOT_ALLOWED number)
    (if same_text line (codes "KEEP")
    then refused_if (not (is_narrower old new)) (at_line OUT_OF_RANGE number) (Ok None)
    else if same_text line (codes "CODES")
    then (values_of_lines (rule_of new) (span_of old + 1) (number + 1) lines
    >>= λ values. Ok (Some values))
    else Err (at_line RECORD_LENGTH number))

-- how many lines it takes to say so
abbrev pub lines_of : Replacement → ℕ
lines_of None = 1
lines_of (Some values) = length values + 1

-- What the lines, the first of which has this number, say of each column, in order. Old and new
-- columns must be equally many, and no line may follow.
unfoldable pub replacements_from : List Column → List Column → ℕ → List (List ℕ)
    → Result (List Replacement) Fault
replacements_from [] [] number [] = Ok []
replacements_from [] [] number (line ∷ lines) = Err (at_line RECORD_LENGTH number)
replacements_from [] (new ∷ news) number lines = Err (at_line RECORD_LENGTH number)
replacements_from (old ∷ olds) [] number lines = Err (at_line RECORD_LENGTH number)
replacements_from (old ∷ olds) (new ∷ news) number lines =
    replacement_at old new number lines
    >>= λ first. replacements_from olds news (number + lines_of first) (drop (lines_of first) lines)
    >>= λ others. Ok (first ∷ others)
