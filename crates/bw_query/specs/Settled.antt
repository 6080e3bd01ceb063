-- The segments that a scan leaves out, since a verdict settles how many of their rows match.
use Rattle.std.specs.Prelude.{◌/◌, ℕ, Bool, true, false, List, map, slice_index_or, if◌then◌else◌}
use Rattle.std.specs.List.{list_all}
use Rattle.bw_model.specs.declared.query.Query.{Query}
use Rattle.bw_answer.specs.Answer.{is_count_all}
use Rattle.bw_ranges.specs.declared.verdict.Verdict.{Verdict}
use Rattle.bw_ranges.specs.declared.verdict.Verdict.TheVariants.{NoRow, EveryRow, Open}
use Rattle.bw_report.specs.declared.served.By.{By}

-- whether a query only counts the matching rows, and a program selects them: then no value is read
-- but by the program
abbrev pub only_counts : Query → By → Bool
only_counts query By.Program = list_all is_count_all query.items.items
only_counts query By.Rows = false

-- A segment is left out if none of its rows matches; a count leaves it out if each does, too.
abbrev pub is_left_out : Bool → Verdict → Bool
is_left_out counts NoRow = true
is_left_out counts EveryRow = counts
is_left_out counts Open = false

-- of so many rows of a segment that a count leaves out, how many are counted, and how many of these
-- match
abbrev pub rows_left_out : Verdict → ℕ → ℕ
rows_left_out verdict rows = if is_left_out true verdict then rows else 0

abbrev pub matches_left_out : Verdict → ℕ → ℕ
matches_left_out NoRow rows = 0
matches_left_out EveryRow rows = rows
matches_left_out Open rows = 0

-- whether the segments of each group are left out
abbrev pub settled_by : Bool → List Verdict → List Bool
settled_by counts verdicts = map (is_left_out counts) verdicts

-- The segments are settled by groups of four. One past the last group isn't.
abbrev pub is_settled : List Bool → ℕ → Bool
is_settled settled number = slice_index_or settled (number / 4) false
