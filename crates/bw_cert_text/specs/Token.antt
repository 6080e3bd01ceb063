-- The lines of a certificate text as they are written.
use Rattle.std.specs.Prelude.{◌≡◌, ℕ, List, [], ◌∷◌, Option, Some, None, IsTrue, codes}
use Rattle.bw_diagram.specs.declared.chain.ChainKind.{ChainKind}
use Rattle.bw_diagram.specs.declared.chain.ChainKind.TheVariants as compared
use Rattle.bw_diagram.specs.declared.product.Reason.{Reason}
use Rattle.bw_diagram.specs.declared.product.Reason.TheVariants.{Shortcut, Cofactors}
use Rattle.bw_text.specs.Lines.{NumberedWords}
use Rattle.bw_text.specs.Number.{natural_of}
use Rattle.bw_text.specs.Text.{same_text}
use Rattle.bw_cert_text.specs.declared.lines.NodeLine.{NodeLine}
use Rattle.bw_cert_text.specs.declared.lines.ProductLine.{ProductLine}
use Rattle.bw_cert_text.specs.declared.lines.ConditionEntry.{ConditionEntry}
use Rattle.bw_cert_text.specs.declared.lines.ConditionEntry.TheVariants.{Compare, CompareColumns}
use Rattle.bw_cert_text.specs.declared.lines.ConditionEntry.TheVariants.{Fixed, NullTest, And, Or}
use Rattle.bw_cert_text.specs.declared.lines.ConditionEntry.TheVariants.{Not, Is, IsUnknown}
use Rattle.bw_cert_text.specs.declared.lines.InstructionEntry.{InstructionEntry}
use Rattle.bw_cert_text.specs.declared.lines.InstructionEntry.TheVariants.{Load, Fill, Op, Byte}
use Rattle.bw_cert_text.specs.declared.lines.InstructionEntry.TheVariants.{Skip}
use Rattle.bw_cert_text.specs.declared.lines.EdgeProducts.{EdgeProducts}
use Rattle.bw_cert_text.specs.declared.lines.EndLine.{EndLine}
use Rattle.bw_cert_text.specs.CertificateFields.{ColumnFields, One, Two, ChainFields, KeepFields}
use Rattle.bw_cert_text.specs.CertificateFields.{EntryFields, Condition, Instruction, Join, Kept}
use Rattle.bw_cert_text.specs.LineText.{LineBeforeEnd, Node, Chain, Row, Body}
use Rattle.bw_text.specs.Register.{register_of}
use Rattle.bw_cert_text.specs.Connective.{connective_spelling}

-- one item of a line: a keyword, a number, a number or a hyphen, a column's name, or a register
pub data Token : Type 0 where
  Key : List ℕ → Token
  Number : ℕ → Token
  Perhaps : Option ℕ → Token
  Column : List ℕ → Token
  Register : ℕ → Token

-- A word spells an item: keywords and registers ignore case, numbers may have leading zeros, and a
-- column's name is any word.
abbrev pub IsSpelled : Token → List ℕ → Type 0
IsSpelled (Key key) word = IsTrue (same_text key word)
IsSpelled (Number n) word = natural_of word ≡ Some n
IsSpelled (Perhaps (Some n)) word = natural_of word ≡ Some n
IsSpelled (Perhaps None) word = word ≡ codes "-"
IsSpelled (Column column) word = word ≡ column
IsSpelled (Register r) word = register_of word ≡ Some r

-- words spell these items one by one
pub data AreSpelled : List Token → List (List ℕ) → Type 0 where
  none : AreSpelled [] []
  next : {token : Token} {word : List ℕ} {tokens : List Token} {words : List (List ℕ)} →
      IsSpelled token word → AreSpelled tokens words → AreSpelled (token ∷ tokens) (word ∷ words)

-- a line has this number, and its words spell these items
abbrev pub Says : NumberedWords → ℕ → List Token → Type 0
Says line number tokens = (line.number ≡ number) × AreSpelled tokens line.words

-- NODE n v low high
abbrev pub node_tokens : NodeLine → List Token
node_tokens node = Key (codes "NODE") ∷ Number node.n ∷ Number node.v ∷ Number node.low
    ∷ Number node.high ∷ []

-- CHAIN n LT|EQ column start len const node prev, and CHAIN n LT2|EQ2 left right len node prev
abbrev pub one_key : ChainKind → Token
one_key compared.Less = Key (codes "LT")
one_key compared.Equal = Key (codes "EQ")

abbrev pub two_key : ChainKind → Token
two_key compared.Less = Key (codes "LT2")
two_key compared.Equal = Key (codes "EQ2")

abbrev pub column_tokens : ColumnFields → List Token
column_tokens (One kind column start len bound node prev) =
    one_key kind ∷ Column column ∷ Number start ∷ Number len ∷ Number bound ∷ Number node
    ∷ Perhaps prev ∷ []
column_tokens (Two kind left right len node prev) =
    two_key kind ∷ Column left ∷ Column right ∷ Number len ∷ Number node ∷ Perhaps prev ∷ []

abbrev pub chain_tokens : ChainFields → List Token
chain_tokens chain = Key (codes "CHAIN") ∷ Number chain.n ∷ column_tokens chain.columns

-- ROW n AND|OR|XOR|DIFF a b c S, or V v i j in place of S
abbrev pub reason_tokens : Reason → List Token
reason_tokens Shortcut = Key (codes "S") ∷ []
reason_tokens (Cofactors v i j) = Key (codes "V") ∷ Number v ∷ Number i ∷ Number j ∷ []

abbrev pub row_tokens : ProductLine → List Token
row_tokens row =
    Key (codes "ROW") ∷ Number row.n ∷ Key (connective_spelling row.op) ∷ Number row.a
    ∷ Number row.b ∷ Number row.c
    ∷ reason_tokens row.reason

-- a step of the condition
abbrev pub condition_tokens : ConditionEntry → List Token
condition_tokens (Compare chain value p q) =
    Key (codes "CMP") ∷ Perhaps chain ∷ Perhaps value ∷ Number p ∷ Number q ∷ []
condition_tokens (CompareColumns chain left right both p q) =
    Key (codes "CMP2") ∷ Perhaps chain ∷ Perhaps left ∷ Perhaps right ∷ Number both ∷ Number p
    ∷ Number q ∷ []
condition_tokens Fixed = Key (codes "FIXED") ∷ []
condition_tokens (NullTest i) = Key (codes "NULLTEST") ∷ Number i ∷ []
condition_tokens (And i j) = Key (codes "AND") ∷ Number i ∷ Number j ∷ []
condition_tokens (Or i j) = Key (codes "OR") ∷ Number i ∷ Number j ∷ []
condition_tokens Not = Key (codes "NOT") ∷ []
condition_tokens (Is i) = Key (codes "IS") ∷ Number i ∷ []
condition_tokens (IsUnknown i j) = Key (codes "IS") ∷ Number i ∷ Number j ∷ []

-- an instruction
abbrev pub instruction_tokens : InstructionEntry → List Token
instruction_tokens (Load node) = Key (codes "LOAD") ∷ Number node ∷ []
instruction_tokens Fill = Key (codes "FILL") ∷ []
instruction_tokens (Op i) = Key (codes "OP") ∷ Number i ∷ []
instruction_tokens (Byte chain) = Key (codes "BYTE") ∷ Perhaps chain ∷ []
instruction_tokens Skip = Key (codes "SKIP") ∷ []

-- KEEP r h x, and a pair of rows for each skip
unfoldable pub edge_tokens : List EdgeProducts → List Token
edge_tokens [] = []
edge_tokens (edge ∷ edges) = Number edge.differs ∷ Number edge.within ∷ edge_tokens edges

abbrev pub keep_tokens : KeepFields → List Token
keep_tokens keep =
    Key (codes "KEEP") ∷ Register keep.register ∷ Number keep.node ∷ Number keep.through
    ∷ edge_tokens keep.edges

abbrev pub entry_tokens : EntryFields → List Token
entry_tokens (Condition condition) = condition_tokens condition
entry_tokens (Instruction instruction) = instruction_tokens instruction
entry_tokens (Join target) = Key (codes "JOIN") ∷ Number target ∷ []
entry_tokens (Kept keep) = keep_tokens keep

-- END i
abbrev pub end_tokens : EndLine → List Token
end_tokens end = Key (codes "END") ∷ Number end.row ∷ []

-- any line before the end: its items, and its number
abbrev pub tokens_before_end : LineBeforeEnd → List Token
tokens_before_end (Node node) = node_tokens node
tokens_before_end (Chain chain) = chain_tokens chain
tokens_before_end (Row row) = row_tokens row
tokens_before_end (Body body) = entry_tokens body.entry

abbrev pub number_before_end : LineBeforeEnd → ℕ
number_before_end (Node node) = node.line
number_before_end (Chain chain) = chain.line
number_before_end (Row row) = row.line
number_before_end (Body body) = body.line
