-- The words that begin the lines of a program text.
use Rattle.std.specs.Prelude.{ℕ, List, [], ◌∷◌, Option, codes, find}
use Rattle.bw_text.specs.Text.{same_text}
use Rattle.bw_text.specs.declared.opcode.Opcode.{Opcode}
use Rattle.bw_text.specs.declared.opcode.Opcode.TheVariants as op

abbrev pub opcode_spelling : Opcode → List ℕ
opcode_spelling op.Load = codes "LOAD"
opcode_spelling op.Nulls = codes "NULLS"
opcode_spelling op.Fill = codes "FILL"
opcode_spelling op.And = codes "AND"
opcode_spelling op.Or = codes "OR"
opcode_spelling op.Xor = codes "XOR"
opcode_spelling op.Not = codes "NOT"
opcode_spelling op.ByteLt = codes "BYTELT"
opcode_spelling op.ByteEq = codes "BYTEEQ"
opcode_spelling op.Skip = codes "SKIP"
opcode_spelling op.Result = codes "RESULT"

abbrev pub opcodes : List Opcode
opcodes =
    op.Load ∷ op.Nulls ∷ op.Fill ∷ op.And ∷ op.Or ∷ op.Xor ∷ op.Not ∷ op.ByteLt ∷ op.ByteEq
    ∷ op.Skip ∷ op.Result ∷ []

-- the opcode that a word spells, ignoring case
unfoldable pub opcode_of : List ℕ → Option Opcode
opcode_of word = find (λ opcode. same_text (opcode_spelling opcode) word) opcodes
