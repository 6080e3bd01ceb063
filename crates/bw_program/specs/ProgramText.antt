-- Program texts: the program that a text spells under a schema's columns, or its first error.
use Rattle.std.specs.Prelude.{◌≡◌, ◌<◌, ◌≤◌, ℕ, suc, ◌||◌, ◌&&◌, ◌==◌, Bool, true, false, not}
use Rattle.std.specs.Prelude.{IsTrue, List, [], ◌∷◌, ◌++◌, drop, length, map, Option, Some, None}
use Rattle.std.specs.Prelude.{Result, Ok, Err, if◌then◌else◌, nat_le, nat_lt}
use Rattle.bw_model.specs.FaultTable.{PROGRAM_FORM, REGISTER, COLUMN_OR_BIT, SKIP_TARGET}
use Rattle.bw_model.specs.FaultTable.{PROGRAM_TOO_LONG, NO_RESULT, NO_NULLS}
use Rattle.bw_model.specs.declared.column.Column.{Column}
use Rattle.bw_model.specs.declared.fault.Fault.{Fault}
use Rattle.bw_model.specs.Code.{width_at, slices_at}
use Rattle.bw_model.specs.Column.{column_named}
use Rattle.bw_model.specs.Fault.{at_line, is_memory, ◌>>=◌, refused_if}
use Rattle.bw_text.specs.Lines.{NumberedWords, lines_in, end_in, whole}
use Rattle.bw_text.specs.Number.{natural_of}
use Rattle.bw_model.specs.Variable.{is_nullable}
use Rattle.bw_program.specs.declared.instr.Instr.{Instr}
use Rattle.bw_program.specs.declared.instr.Instr.TheVariants.{Load, Nulls, Fill, And, Or, Xor, Not}
use Rattle.bw_program.specs.declared.instr.Instr.TheVariants.{ByteLt, ByteEq, Skip}
use Rattle.bw_text.specs.declared.opcode.Opcode.{Opcode}
use Rattle.bw_text.specs.declared.opcode.Opcode.TheVariants as op
use Rattle.bw_program.specs.declared.parse.Placed.{Placed}
use Rattle.bw_text.specs.Opcode.{opcode_of}
use Rattle.bw_text.specs.Register.{register_of}
use Rattle.bw_program.specs.Program.{ProgramShape, most_instructions}

-- what was found, or an error on the line of this number
abbrev pub found_on : {A : Type 0} → ℕ → ℕ → Option A → Result A Fault
found_on code line None = Err (at_line code line)
found_on code line (Some x) = Ok x

-- a number (501), a register (502) and a column (503)
abbrev pub natural_on : ℕ → List ℕ → Result ℕ Fault
natural_on line word = found_on PROGRAM_FORM line (natural_of word)

abbrev pub register_on : ℕ → List ℕ → Result ℕ Fault
register_on line word = found_on REGISTER line (register_of word)

abbrev pub column_on : List Column → ℕ → List ℕ → Result ℕ Fault
column_on columns line word = found_on COLUMN_OR_BIT line (column_named columns word)

-- the instruction that the words after an opcode spell, or the line's first error: the number of
-- words and the numbers among them, the registers, the column with its bit, slice or null plane,
-- and a skip's target, which must follow the instruction
abbrev pub load_on : List Column → ℕ → List (List ℕ) → Result Instr Fault
load_on columns line (r ∷ c ∷ b ∷ []) =
    natural_on line b >>= λ bit. register_on line r >>= λ register. column_on columns line c
    >>= λ column.
    refused_if (not (nat_lt bit (width_at columns column))) (at_line COLUMN_OR_BIT line)
    (Ok (Load register column bit))
load_on columns line words = Err (at_line PROGRAM_FORM line)

abbrev pub nulls_on : List Column → ℕ → List (List ℕ) → Result Instr Fault
nulls_on columns line (r ∷ c ∷ []) =
    register_on line r >>= λ register. column_on columns line c >>= λ column.
    refused_if (not (is_nullable columns column)) (at_line NO_NULLS line)
    (Ok (Nulls register column))
nulls_on columns line words = Err (at_line PROGRAM_FORM line)

abbrev pub fill_on : ℕ → List (List ℕ) → Result Instr Fault
fill_on line (r ∷ b ∷ []) =
    natural_on line b >>= λ bit. refused_if (nat_lt 1 bit) (at_line PROGRAM_FORM line)
    (register_on line r >>= λ register. Ok (Fill register (bit == 1)))
fill_on line words = Err (at_line PROGRAM_FORM line)

abbrev pub three_on : ℕ → List (List ℕ) → Result (ℕ × ℕ × ℕ) Fault
three_on line (r ∷ a ∷ b ∷ []) =
    register_on line r >>= λ register. register_on line a >>= λ x. register_on line b
    >>= λ y. Ok (register, x, y)
three_on line words = Err (at_line PROGRAM_FORM line)

abbrev pub not_on : ℕ → List (List ℕ) → Result Instr Fault
not_on line (r ∷ a ∷ []) = register_on line r >>= λ register. register_on line a
    >>= λ x. Ok (Not register x)
not_on line words = Err (at_line PROGRAM_FORM line)

abbrev pub byte_on : List Column → ℕ → List (List ℕ) → Result (ℕ × ℕ × ℕ × ℕ) Fault
byte_on columns line (r ∷ c ∷ s ∷ b ∷ []) =
    natural_on line s >>= λ slice. natural_on line b
    >>= λ byte. refused_if (nat_lt 255 byte) (at_line PROGRAM_FORM line)
    (register_on line r >>= λ register. column_on columns line c
    >>= λ column. refused_if (not (nat_lt slice (slices_at columns column)))
    (at_line COLUMN_OR_BIT line)
    (Ok (register, column, slice, byte)))
byte_on columns line words = Err (at_line PROGRAM_FORM line)

abbrev pub skip_on : ℕ → ℕ → List (List ℕ) → Result Instr Fault
skip_on number line (a ∷ l ∷ []) =
    natural_on line l >>= λ target. register_on line a >>= λ x.
    refused_if (nat_le target number) (at_line SKIP_TARGET line) (Ok (Skip x target))
skip_on number line words = Err (at_line PROGRAM_FORM line)

abbrev pub instr_after : List Column → ℕ → ℕ → Option Opcode → List (List ℕ) → Result Instr Fault
instr_after columns number line None words = Err (at_line PROGRAM_FORM line)
instr_after columns number line (Some op.Load) words = load_on columns line words
instr_after columns number line (Some op.Nulls) words = nulls_on columns line words
instr_after columns number line (Some op.Fill) words = fill_on line words
instr_after columns number line (Some op.And) words = three_on line words
    >>= λ three. Ok (And three.0 three.1 three.2)
instr_after columns number line (Some op.Or) words = three_on line words
    >>= λ three. Ok (Or three.0 three.1 three.2)
instr_after columns number line (Some op.Xor) words = three_on line words
    >>= λ three. Ok (Xor three.0 three.1 three.2)
instr_after columns number line (Some op.Not) words = not_on line words
instr_after columns number line (Some op.ByteLt) words = byte_on columns line words
    >>= λ four. Ok (ByteLt four.0 four.1 four.2 four.3)
instr_after columns number line (Some op.ByteEq) words = byte_on columns line words
    >>= λ four. Ok (ByteEq four.0 four.1 four.2 four.3)
instr_after columns number line (Some op.Skip) words = skip_on number line words
instr_after columns number line (Some op.Result) words = Err (at_line PROGRAM_FORM line)

-- the opcode of a line
abbrev pub opcode_in : List (List ℕ) → Option Opcode
opcode_in [] = None
opcode_in (word ∷ words) = opcode_of word

-- the instruction of this number that a line spells, or the line's first error
unfoldable pub instr_on : List Column → ℕ → NumberedWords → Result Instr Fault
instr_on columns number line = instr_after columns number line.number (opcode_in line.words)
    (drop 1 line.words)

-- the line is that of the result
abbrev pub names_result : Option Opcode → Bool
names_result (Some op.Result) = true
names_result (Some other) = false
names_result None = false

abbrev pub is_result_line : NumberedWords → Bool
is_result_line line = names_result (opcode_in line.words)

-- the register that the line of the result names
abbrev pub result_after : ℕ → List (List ℕ) → Result ℕ Fault
result_after line (r ∷ []) = register_on line r
result_after line words = Err (at_line PROGRAM_FORM line)

abbrev pub instrs_of : List Placed → List Instr
instrs_of placed = map (λ p. p.instr) placed

-- no line may follow that of the result
abbrev pub last_line : {A : Type 0} → List NumberedWords → A → Result A Fault
last_line [] x = Ok x
last_line (line ∷ lines) x = Err (at_line PROGRAM_FORM line.number)

-- no skip goes past the end, which is the number of instructions; else the first one that does is
-- the error
abbrev pub goes_past : ℕ → Instr → Bool
goes_past end (Skip x target) = nat_lt end target
goes_past end _ = false

unfoldable pub within_end : {A : Type 0} → ℕ → List Placed → A → Result A Fault
within_end end [] x = Ok x
within_end end (p ∷ placed) x =
    refused_if (goes_past end p.instr) (at_line SKIP_TARGET p.line) (within_end end placed x)

abbrev pub program_within : List Placed → ℕ → Result ProgramShape Fault
program_within placed result = within_end (length placed) placed
    (record { instrs = instrs_of placed; result = result })

-- the program of these instructions and a result register, whose line these lines follow
abbrev pub program_with_result : List Placed → List NumberedWords → ℕ → Result ProgramShape Fault
program_with_result placed lines result =
    last_line lines result >>= λ register. program_within placed register

-- the program on these lines, after instructions that came before; `end` is the number of the
-- text's end
unfoldable pub program_on : List Column → List Placed → List NumberedWords → ℕ
    → Result ProgramShape Fault
program_on columns before [] end = Err (at_line NO_RESULT end)
program_on columns before (line ∷ lines) end =
    if is_result_line line then
    (result_after line.number (drop 1 line.words) >>= λ result.
    program_with_result before lines result)
    else
    (refused_if (nat_le most_instructions (length before)) (at_line PROGRAM_TOO_LONG line.number)
    (instr_on columns (length before) line >>= λ instr.
    program_on columns (before ++ record { line = line.number; instr = instr } ∷ []) lines end))

-- the program that a text spells, or its first error
abbrev pub program_of : List Column → List ℕ → Result ProgramShape Fault
program_of columns text = program_on columns [] (lines_in (whole text)) (end_in (whole text))

-- The words of a line spell the instruction of this number in a program of `end` instructions: an
-- opcode, then its registers, columns and numbers in order. A skip goes forward, no further than
-- the end.
pub data SpellsInstr (columns : List Column) (end number : ℕ) : List (List ℕ) → Instr → Type 0 where
  load : {word r c b : List ℕ} {register column bit : ℕ} → opcode_of word ≡ Some op.Load
      → register_of r
      ≡ Some register →
      column_named columns c ≡ Some column → natural_of b ≡ Some bit →
      bit < width_at columns column →
      SpellsInstr columns end number (word ∷ r ∷ c ∷ b ∷ []) (Load register column bit)
  nulls : {word r c : List ℕ} {register column : ℕ} → opcode_of word ≡ Some op.Nulls →
      register_of r ≡ Some register →
      column_named columns c ≡ Some column → IsTrue (is_nullable columns column) →
      SpellsInstr columns end number (word ∷ r ∷ c ∷ []) (Nulls register column)
  fill : {word r b : List ℕ} {register bit : ℕ} → opcode_of word ≡ Some op.Fill →
      register_of r ≡ Some register →
      natural_of b ≡ Some bit → bit ≤ 1
      → SpellsInstr columns end number (word ∷ r ∷ b ∷ []) (Fill register (bit == 1))
  conjunction : {word r a b : List ℕ} {register x y : ℕ} → opcode_of word ≡ Some op.And
      → register_of r
      ≡ Some register →
      register_of a ≡ Some x → register_of b ≡ Some y
      → SpellsInstr columns end number (word ∷ r ∷ a ∷ b ∷ [])
      (And register x y)
  disjunction : {word r a b : List ℕ} {register x y : ℕ} → opcode_of word ≡ Some op.Or →
      register_of r ≡ Some register →
      register_of a ≡ Some x → register_of b ≡ Some y
      → SpellsInstr columns end number (word ∷ r ∷ a ∷ b ∷ [])
      (Or register x y)
  difference : {word r a b : List ℕ} {register x y : ℕ} → opcode_of word ≡ Some op.Xor →
      register_of r ≡ Some register →
      register_of a ≡ Some x → register_of b ≡ Some y
      → SpellsInstr columns end number (word ∷ r ∷ a ∷ b ∷ [])
      (Xor register x y)
  negation : {word r a : List ℕ} {register x : ℕ} → opcode_of word ≡ Some op.Not →
      register_of r ≡ Some register →
      register_of a ≡ Some x → SpellsInstr columns end number (word ∷ r ∷ a ∷ []) (Not register x)
  below : {word r c s b : List ℕ} {register column slice byte : ℕ} → opcode_of word ≡ Some op.ByteLt
      → register_of r
      ≡ Some register →
      column_named columns c ≡ Some column → natural_of s ≡ Some slice
      → slice < slices_at columns column → natural_of b
      ≡ Some byte → byte ≤ 255 →
      SpellsInstr columns end number (word ∷ r ∷ c ∷ s ∷ b ∷ []) (ByteLt register column slice byte)
  same : {word r c s b : List ℕ} {register column slice byte : ℕ} → opcode_of word ≡ Some op.ByteEq
      → register_of r
      ≡ Some register →
      column_named columns c ≡ Some column → natural_of s ≡ Some slice
      → slice < slices_at columns column → natural_of b
      ≡ Some byte → byte ≤ 255 →
      SpellsInstr columns end number (word ∷ r ∷ c ∷ s ∷ b ∷ []) (ByteEq register column slice byte)
  skip : {word a l : List ℕ} {x target : ℕ} → opcode_of word ≡ Some op.Skip → register_of a ≡ Some x
      → natural_of l
      ≡ Some target →
      number < target → target ≤ end
      → SpellsInstr columns end number (word ∷ a ∷ l ∷ []) (Skip x target)

-- Lines spell the instructions from this number on and the result register: each line its
-- instruction, the last one the result.
pub data SpellsLines (columns : List Column) (end : ℕ) : ℕ → List NumberedWords → List Instr → ℕ
    → Type 0 where
  result_line : {number line result : ℕ} {word r : List ℕ} → opcode_of word ≡ Some op.Result
      → register_of r
      ≡ Some result →
      SpellsLines columns end number (record { number = line; words = word ∷ r ∷ [] } ∷ []) []
      result
  instr_line : {number result : ℕ} {line : NumberedWords} {lines : List NumberedWords}
      {instr : Instr}
      {instrs : List Instr} →
      SpellsInstr columns end number line.words instr →
      SpellsLines columns end (suc number) lines instrs result →
      SpellsLines columns end number (line ∷ lines) (instr ∷ instrs) result

-- a text whose lines spell a program of at most 4,096 instructions
abbrev pub IsProgramText : List Column → List ℕ → ProgramShape → Type 0
IsProgramText columns text program =
    (length program.instrs ≤ most_instructions)
    × SpellsLines columns (length program.instrs) 0 (lines_in (whole text)) program.instrs
    program.result

-- the error is one of 501 to 507, or out of memory
abbrev pub is_program_fault : Fault → Bool
is_program_fault fault = (nat_le PROGRAM_FORM fault.code && nat_le fault.code NO_NULLS)
    || is_memory fault

abbrev pub IsProgramFault : Fault → Type 0
IsProgramFault fault = IsTrue (is_program_fault fault)
