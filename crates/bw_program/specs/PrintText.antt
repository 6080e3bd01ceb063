-- The canonical text of a program: capital keywords, single blanks, names in the schema's spelling,
-- numbers without leading zeros, and one line feed after each line.
use Rattle.std.specs.Prelude.{ℕ, Bool, List, [], ◌∷◌, ◌++◌, if◌then◌else◌, slice_index_or}
use Rattle.std.specs.Fmt.{decimal}
use Rattle.bw_model.specs.declared.column.Column.{Column}
use Rattle.bw_model.specs.Column.{names_of}
use Rattle.bw_program.specs.declared.instr.Instr.{Instr}
use Rattle.bw_program.specs.declared.instr.Instr.TheVariants.{Load, Nulls, Fill, And, Or, Xor, Not}
use Rattle.bw_program.specs.declared.instr.Instr.TheVariants.{ByteLt, ByteEq, Skip}
use Rattle.bw_text.specs.declared.opcode.Opcode.TheVariants as op
use Rattle.bw_text.specs.Opcode.{opcode_spelling}
use Rattle.bw_program.specs.Program.{ProgramShape}
use Rattle.bw_text.specs.Printing.{line_text}
use Rattle.bw_text.specs.Register.{register_text}

-- the name of the column of a number
abbrev pub column_text : List Column → ℕ → List ℕ
column_text columns column = slice_index_or (names_of columns) column []

abbrev pub bit_text : Bool → List ℕ
bit_text bit = decimal (if bit then 1 else 0)

-- the words of an instruction's line
abbrev pub instr_words : List Column → Instr → List (List ℕ)
instr_words columns (Load r column bit) = opcode_spelling op.Load ∷ register_text r
    ∷ column_text columns column
    ∷ decimal bit ∷ []
instr_words columns (Nulls r column) = opcode_spelling op.Nulls ∷ register_text r
    ∷ column_text columns column ∷ []
instr_words columns (Fill r bit) = opcode_spelling op.Fill ∷ register_text r ∷ bit_text bit ∷ []
instr_words columns (And r x y) = opcode_spelling op.And ∷ register_text r ∷ register_text x
    ∷ register_text y ∷ []
instr_words columns (Or r x y) = opcode_spelling op.Or ∷ register_text r ∷ register_text x
    ∷ register_text y ∷ []
instr_words columns (Xor r x y) = opcode_spelling op.Xor ∷ register_text r ∷ register_text x
    ∷ register_text y ∷ []
instr_words columns (Not r x) = opcode_spelling op.Not ∷ register_text r ∷ register_text x ∷ []
instr_words columns (ByteLt r column slice k) =
    opcode_spelling op.ByteLt ∷ register_text r ∷ column_text columns column ∷ decimal slice
    ∷ decimal k ∷ []
instr_words columns (ByteEq r column slice k) =
    opcode_spelling op.ByteEq ∷ register_text r ∷ column_text columns column ∷ decimal slice
    ∷ decimal k ∷ []
instr_words columns (Skip x target) = opcode_spelling op.Skip ∷ register_text x ∷ decimal target
    ∷ []

-- the words of the result's line
abbrev pub result_words : ℕ → List (List ℕ)
result_words result = opcode_spelling op.Result ∷ register_text result ∷ []

-- the lines of instructions, then that of the result
unfoldable pub lines_text : List Column → List Instr → ℕ → List ℕ
lines_text columns [] result = line_text (result_words result)
lines_text columns (instr ∷ instrs) result = line_text (instr_words columns instr)
    ++ lines_text columns instrs result

abbrev pub print_text : List Column → ProgramShape → List ℕ
print_text columns program = lines_text columns program.instrs program.result
