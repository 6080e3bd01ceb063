-- A table in groups of 512 rows, of which the last may have fewer, and the assignments of a group's
-- rows.
use Rattle.std.specs.Prelude.{ℕ, zero, suc, ◌-◌, List, [], ◌∷◌, ◌++◌, map, length, take, drop}
use Rattle.std.specs.Prelude.{replicate}
use Rattle.bw_model.specs.declared.column.Column.{Column}
use Rattle.bw_model.specs.Row.{Value}
use Rattle.bw_model.specs.StoredCodes.{no_bits}
use Rattle.bw_model.specs.Variable.{Assignment, assignment_of, bits_of}

-- the most rows of a group
unfoldable pub group_size : ℕ
group_size = 512

-- the groups of a list, at most `count` many: 512 rows are cut off as long as there are any
abbrev pub groups_within : {A : Type 0} → ℕ → List A → List (List A)
groups_within zero rows = []
groups_within (suc count) [] = []
groups_within (suc count) (row ∷ rows) = take group_size (row ∷ rows) ∷ groups_within
    count (drop group_size (row ∷ rows))

-- the groups of a table's rows, of which there are never more than rows
unfoldable pub groups_of : {A : Type 0} → List A → List (List A)
groups_of rows = groups_within (length rows) rows

-- the rows of groups, one group after the other
abbrev pub together : {A : Type 0} → List (List A) → List A
together [] = []
together (group ∷ groups) = group ++ together groups

-- the lanes of a group: the assignments of its rows, then assignments of zeros, 512 together
unfoldable pub lanes_of : List Column → List (List Value) → List Assignment
lanes_of columns rows = map (λ row. assignment_of (bits_of columns row)) rows
    ++ replicate (group_size - length rows) no_bits
