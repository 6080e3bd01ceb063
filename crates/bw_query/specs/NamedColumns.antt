-- The columns that a query names, and those that it reads: these, and those that its program names.
use Rattle.std.specs.Prelude.{ℕ, Bool, false, ◌||◌, ◌==◌, Option, Some, None}
use Rattle.std.specs.List.{list_any}
use Rattle.bw_model.specs.declared.cond.Cond.{Cond, Cond-F, fold-Cond}
use Rattle.bw_model.specs.declared.cond.Cond.TheOpen.{Always, Cmp, Between, Among, IsNull, And, Or}
use Rattle.bw_model.specs.declared.cond.Cond.TheOpen.{Not, Test}
use Rattle.bw_model.specs.declared.cond.Operand.{Operand}
use Rattle.bw_model.specs.declared.cond.Operand.TheVariants.{Col, Lit, Null}
use Rattle.bw_model.specs.declared.query.Item.{Item}
use Rattle.bw_model.specs.declared.query.Item.TheVariants.{Plain, CountAll, Count, Sum, Min, Max}
use Rattle.bw_model.specs.declared.query.Query.{Query}
use Rattle.bw_program.specs.declared.instr.Instr.{Instr}
use Rattle.bw_program.specs.declared.instr.Instr.TheVariants.{Load, Nulls, Fill, And as AndLanes}
use Rattle.bw_program.specs.declared.instr.Instr.TheVariants.{Or as OrLanes, Xor, Not as NotLanes}
use Rattle.bw_program.specs.declared.instr.Instr.TheVariants.{ByteLt, ByteEq, Skip}
use Rattle.bw_program.specs.Program.{ProgramShape}

-- the operand is this column
abbrev pub operand_names : ℕ → Operand → Bool
operand_names column (Col other) = other == column
operand_names column (Lit n) = false
operand_names column Null = false

-- a condition names this column, given whether each of its parts does
abbrev pub names_step : ℕ → Cond-F Bool → Bool
names_step column Always = false
names_step column (Cmp op x y) = operand_names column x || operand_names column y
names_step column (Between x y z) = operand_names column x || operand_names column y
    || operand_names column z
names_step column (Among x items) = operand_names column x
    || list_any (operand_names column) items.items
names_step column (IsNull x) = operand_names column x
names_step column (And parts) = list_any (λ part. part) parts.items
names_step column (Or parts) = list_any (λ part. part) parts.items
names_step column (Not part) = part.value
names_step column (Test part t) = part.value

unfoldable pub cond_names : ℕ → Cond → Bool
cond_names column cond = fold-Cond Bool (names_step column) cond

-- the item is this column, or a total of it
abbrev pub item_names : ℕ → Item → Bool
item_names column (Plain other) = other == column
item_names column CountAll = false
item_names column (Count other) = other == column
item_names column (Sum other) = other == column
item_names column (Min other) = other == column
item_names column (Max other) = other == column

-- an item or the condition of the query names this column
abbrev pub query_names : ℕ → Query → Bool
query_names column query = list_any (item_names column) query.items.items
    || cond_names column query.cond

-- the columns that a query names
abbrev pub is_named_by : Query → ℕ → Bool
is_named_by query column = query_names column query

-- the instruction loads a plane or a slice of this column
abbrev pub instr_names : ℕ → Instr → Bool
instr_names column (Load r other bit) = other == column
instr_names column (Nulls r other) = other == column
instr_names column (Fill r bit) = false
instr_names column (AndLanes r x y) = false
instr_names column (OrLanes r x y) = false
instr_names column (Xor r x y) = false
instr_names column (NotLanes r x) = false
instr_names column (ByteLt r other slice k) = other == column
instr_names column (ByteEq r other slice k) = other == column
instr_names column (Skip x target) = false

-- the program, if there is one, has an instruction that names this column
abbrev pub program_names : ℕ → Option ProgramShape → Bool
program_names column (Some program) = list_any (instr_names column) program.instrs
program_names column None = false

-- the columns that are read for a query that a program scans, or none
abbrev pub is_read : Option ProgramShape → Query → ℕ → Bool
is_read program query column = query_names column query || program_names column program
