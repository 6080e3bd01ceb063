-- What the ranges of values tell of a condition on the segments of a table.
use Rattle.std.specs.Prelude.{◌≡◌, ◌<◌, ◌/◌, ℕ, List, [], slice_index_or}
use Rattle.bw_model.specs.declared.cond.Cond.{Cond}
use Rattle.bw_model.specs.Row.{Value}
use Rattle.bw_model.specs.Selection.{matching_rows}
use Rattle.bw_ranges.specs.declared.verdict.Verdict.{Verdict}
use Rattle.bw_ranges.specs.declared.verdict.Verdict.TheVariants.{NoRow, EveryRow, Open}
use Rattle.bw_memory.specs.ColumnStore.{ColumnSource, in_memory, in_file}
use Rattle.bw_memory.specs.MemoryTable.{meaning_numbered, segments_in}
use Rattle.bw_memory.specs.declared.table.MemoryTable.{MemoryTable}

-- What is told of segments, by groups of four. Of one past the last group of a list nothing is told.
abbrev pub verdict_on : List Verdict → ℕ → Verdict
verdict_on verdicts number = slice_index_or verdicts (number / 4) Open

-- a verdict on a condition holds of rows: it is TRUE on none of them, or on each
abbrev pub HoldsOn : Cond → List (List Value) → Verdict → Type 0
HoldsOn cond rows NoRow = matching_rows cond rows ≡ []
HoldsOn cond rows EveryRow = matching_rows cond rows ≡ rows
HoldsOn cond rows Open = Unit {0}

-- it holds of the rows of each segment of a group of so many
abbrev pub HoldsOnGroup : Cond → ℕ → MemoryTable → ℕ → Verdict → Type 0
HoldsOnGroup cond size table group verdict = (number : ℕ) → number < segments_in table
    → number / size ≡ group → HoldsOn cond (meaning_numbered table number).rows verdict

-- what is told of each segment of a table holds of its rows
abbrev pub HaveVerdicts : Cond → MemoryTable → List Verdict → Type 0
HaveVerdicts cond table verdicts = (number : ℕ) → number < segments_in table
    → HoldsOn cond (meaning_numbered table number).rows (verdict_on verdicts number)

-- of a table in memory nothing is told: no ranges are kept of it
abbrev pub HasNoVerdicts : ColumnSource → List Verdict → Type 0
HasNoVerdicts (in_memory whole) verdicts = verdicts ≡ []
HasNoVerdicts (in_file known header) verdicts = Unit {0}
