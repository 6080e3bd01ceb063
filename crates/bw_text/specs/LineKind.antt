-- The words that begin the lines of a certificate text.
use Rattle.std.specs.Prelude.{ℕ, List, [], ◌∷◌, Option, codes, find}
use Rattle.bw_text.specs.declared.line_kind.LineKind.{LineKind}
use Rattle.bw_text.specs.declared.line_kind.LineKind.TheVariants as kind
use Rattle.bw_text.specs.declared.line_kind.ConditionKind.TheVariants as condition
use Rattle.bw_text.specs.declared.line_kind.InstructionKind.TheVariants as instruction
use Rattle.bw_text.specs.Text.{same_text}

-- the word that begins a line of each kind
abbrev pub kind_spelling : LineKind → List ℕ
kind_spelling kind.Node = codes "NODE"
kind_spelling kind.Chain = codes "CHAIN"
kind_spelling kind.Row = codes "ROW"
kind_spelling (kind.Condition condition.Compare) = codes "CMP"
kind_spelling (kind.Condition condition.CompareColumns) = codes "CMP2"
kind_spelling (kind.Condition condition.Fixed) = codes "FIXED"
kind_spelling (kind.Condition condition.NullTest) = codes "NULLTEST"
kind_spelling (kind.Condition condition.And) = codes "AND"
kind_spelling (kind.Condition condition.Or) = codes "OR"
kind_spelling (kind.Condition condition.Not) = codes "NOT"
kind_spelling (kind.Condition condition.Is) = codes "IS"
kind_spelling (kind.Instruction instruction.Load) = codes "LOAD"
kind_spelling (kind.Instruction instruction.Fill) = codes "FILL"
kind_spelling (kind.Instruction instruction.Op) = codes "OP"
kind_spelling (kind.Instruction instruction.Byte) = codes "BYTE"
kind_spelling (kind.Instruction instruction.Skip) = codes "SKIP"
kind_spelling kind.Join = codes "JOIN"
kind_spelling kind.Keep = codes "KEEP"
kind_spelling kind.End = codes "END"

abbrev pub kinds : List LineKind
kinds =
    kind.Node ∷ kind.Chain ∷ kind.Row
    ∷ kind.Condition condition.Compare ∷ kind.Condition condition.CompareColumns
    ∷ kind.Condition condition.Fixed
    ∷ kind.Condition condition.NullTest ∷ kind.Condition condition.And ∷ kind.Condition condition.Or
    ∷ kind.Condition condition.Not ∷ kind.Condition condition.Is
    ∷ kind.Instruction instruction.Load ∷ kind.Instruction instruction.Fill
    ∷ kind.Instruction instruction.Op
    ∷ kind.Instruction instruction.Byte ∷ kind.Instruction instruction.Skip
    ∷ kind.Join ∷ kind.Keep ∷ kind.End ∷ []

-- the kind of line that a word begins, ignoring case
unfoldable pub kind_of : List ℕ → Option LineKind
kind_of word = find (λ kind. same_text (kind_spelling kind) word) kinds
