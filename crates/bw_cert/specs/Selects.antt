-- What it means that a program selects the rows on which a condition is TRUE.
use Rattle.std.specs.Prelude.{◌≡◌, Bool, List, map, take, length}
use Rattle.std.specs.List.{flat_map}
use Rattle.bw_model.specs.declared.column.Column.{Column}
use Rattle.bw_model.specs.declared.cond.Cond.{Cond}
use Rattle.bw_model.specs.declared.cond.Truth.TheVariants.{Yes}
use Rattle.bw_model.specs.Cond.{truth_of}
use Rattle.bw_model.specs.Groups.{groups_of, lanes_of}
use Rattle.bw_model.specs.Row.{Value}
use Rattle.bw_model.specs.Truth.{is_truth}
use Rattle.bw_model.specs.Variable.{Assignment, row_of}
use Rattle.bw_program.specs.Machine.{end_state}
use Rattle.bw_program.specs.Program.{ProgramShape}

-- In every run, over any lanes, the result register at the end is 1 in the lane of an assignment
-- exactly if the condition is TRUE on the assignment's row.
abbrev pub Selects : List Column → Cond → ProgramShape → Type 0
Selects columns cond program =
    (lanes : List Assignment) → (end_state columns lanes program).registers program.result
    ≡ map (λ assignment. is_truth (truth_of (row_of columns assignment) cond) Yes) lanes

-- for each row of a group, whether the program selects it: the first lanes of its result register,
-- by the segment machine on the group's lanes
abbrev pub selection_in : List Column → ProgramShape → List (List Value) → List Bool
selection_in columns program group =
    take (length group) ((end_state columns (lanes_of columns group) program).registers
    program.result)

-- for each row of a table, in groups of 512, whether the program selects it
abbrev pub selection_by : List Column → ProgramShape → List (List Value) → List Bool
selection_by columns program rows = flat_map (selection_in columns program) (groups_of rows)
