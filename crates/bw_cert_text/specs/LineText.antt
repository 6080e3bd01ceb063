-- The fields that the words of a line spell.
use Rattle.std.specs.Prelude.{ℕ, List, [], ◌∷◌, Option, Some, None, codes, if◌then◌else◌}
use Rattle.bw_diagram.specs.declared.chain.ChainKind.{ChainKind}
use Rattle.bw_diagram.specs.declared.chain.ChainKind.TheVariants as compared
use Rattle.bw_diagram.specs.declared.product.Reason.{Reason}
use Rattle.bw_diagram.specs.declared.product.Reason.TheVariants.{Shortcut, Cofactors}
use Rattle.bw_text.specs.Lines.{NumberedWords}
use Rattle.bw_text.specs.Number.{natural_of}
use Rattle.bw_text.specs.Text.{same_text}
use Rattle.bw_text.specs.declared.line_kind.LineKind.{LineKind}
use Rattle.bw_text.specs.declared.line_kind.LineKind.TheVariants as kind
use Rattle.bw_text.specs.declared.line_kind.ConditionKind.{ConditionKind}
use Rattle.bw_text.specs.declared.line_kind.ConditionKind.TheVariants as condition
use Rattle.bw_text.specs.declared.line_kind.InstructionKind.{InstructionKind}
use Rattle.bw_text.specs.declared.line_kind.InstructionKind.TheVariants as instruction
use Rattle.bw_text.specs.declared.form.Form.{Form}
use Rattle.bw_text.specs.declared.form.Form.TheVariants as form
use Rattle.bw_cert_text.specs.declared.lines.NodeLine.{NodeLine}
use Rattle.bw_cert_text.specs.declared.lines.ProductLine.{ProductLine}
use Rattle.bw_cert_text.specs.declared.lines.ConditionEntry.{ConditionEntry}
use Rattle.bw_cert_text.specs.declared.lines.ConditionEntry.TheVariants.{Compare, CompareColumns}
use Rattle.bw_cert_text.specs.declared.lines.ConditionEntry.TheVariants.{Fixed, NullTest, And, Or}
use Rattle.bw_cert_text.specs.declared.lines.ConditionEntry.TheVariants.{Not, Is, IsUnknown}
use Rattle.bw_cert_text.specs.declared.lines.InstructionEntry.{InstructionEntry}
use Rattle.bw_cert_text.specs.declared.lines.InstructionEntry.TheVariants.{Load, Fill, Op, Byte}
use Rattle.bw_cert_text.specs.declared.lines.InstructionEntry.TheVariants.{Skip}
use Rattle.bw_cert_text.specs.declared.lines.EdgeProducts.{EdgeProducts}
use Rattle.bw_cert_text.specs.declared.lines.EndLine.{EndLine}
use Rattle.bw_cert_text.specs.CertificateFields.{ColumnFields, One, Two, ChainFields, KeepFields}
use Rattle.bw_cert_text.specs.CertificateFields.{EntryFields, Condition, Instruction, Join, Kept}
use Rattle.bw_cert_text.specs.CertificateFields.{BodyFields}
use Rattle.bw_cert_text.specs.Operand.{◌>?◌, optional_of, nothing_in, number_in, two_in}
use Rattle.bw_text.specs.Register.{register_of}
use Rattle.bw_text.specs.LineKind.{kind_of}
use Rattle.bw_text.specs.Form.{form_of}
use Rattle.bw_cert_text.specs.Connective.{connective_of}

-- a line before the end, and any line
pub data LineBeforeEnd : Type 0 where
  Node : NodeLine → LineBeforeEnd
  Chain : ChainFields → LineBeforeEnd
  Row : ProductLine → LineBeforeEnd
  Body : BodyFields → LineBeforeEnd

pub data ParsedLine : Type 0 where
  Before : LineBeforeEnd → ParsedLine
  End : EndLine → ParsedLine

-- n v low high
abbrev pub node_in : ℕ → List (List ℕ) → Option NodeLine
node_in line (n ∷ v ∷ low ∷ high ∷ []) =
    natural_of n >? λ n. natural_of v >? λ v. natural_of low >? λ low. natural_of high >? λ high.
    Some (record { line = line; n = n; v = v; low = low; high = high })
node_in line words = None

-- column start len const node prev, and left right len node prev
abbrev pub one_column_in : ChainKind → List (List ℕ) → Option ColumnFields
one_column_in kind (column ∷ start ∷ len ∷ bound ∷ node ∷ prev ∷ []) =
    natural_of start >? λ start. natural_of len >? λ len. natural_of bound >? λ bound. natural_of
    node >? λ node.
    optional_of prev >? λ prev. Some (One kind column start len bound node prev)
one_column_in kind words = None

abbrev pub two_columns_in : ChainKind → List (List ℕ) → Option ColumnFields
two_columns_in kind (left ∷ right ∷ len ∷ node ∷ prev ∷ []) =
    natural_of len >? λ len. natural_of node >? λ node. optional_of prev
    >? λ prev. Some (Two kind left right len node prev)
two_columns_in kind words = None

abbrev pub columns_after : Form → List (List ℕ) → Option ColumnFields
columns_after form.Less words = one_column_in compared.Less words
columns_after form.Equal words = one_column_in compared.Equal words
columns_after form.LessTwo words = two_columns_in compared.Less words
columns_after form.EqualTwo words = two_columns_in compared.Equal words

-- n, a form, and the columns that it compares
abbrev pub chain_in : ℕ → List (List ℕ) → Option ChainFields
chain_in line (n ∷ word ∷ words) =
    natural_of n >? λ n. form_of word >? λ form. columns_after form words >? λ columns.
    Some (record { line = line; n = n; columns = columns })
chain_in line words = None

-- S, or V v i j
abbrev pub reason_in : List (List ℕ) → Option Reason
reason_in (word ∷ []) = if same_text (codes "S") word then Some Shortcut else None
reason_in (word ∷ v ∷ i ∷ j ∷ []) =
    if same_text (codes "V") word then
    (natural_of v >? λ v. natural_of i >? λ i. natural_of j >? λ j. Some (Cofactors v i j))
    else None
reason_in words = None

-- n, a connective, a b c, and the reason
abbrev pub row_in : ℕ → List (List ℕ) → Option ProductLine
row_in line (n ∷ word ∷ a ∷ b ∷ c ∷ words) =
    natural_of n >? λ n. connective_of word >? λ op. natural_of a >? λ a. natural_of b >?
    λ b. natural_of c >? λ c.
    reason_in words >? λ reason. Some
    (record { line = line; n = n; op = op; a = a; b = b; c = c; reason = reason })
row_in line words = None

-- chain rn rp rq, and chain rc rd rm rp rq
abbrev pub compare_in : List (List ℕ) → Option ConditionEntry
compare_in (chain ∷ value ∷ p ∷ q ∷ []) =
    optional_of chain >? λ chain. optional_of value >? λ value. natural_of p >? λ p. natural_of q >?
    λ q.
    Some (Compare chain value p q)
compare_in words = None

abbrev pub compare_columns_in : List (List ℕ) → Option ConditionEntry
compare_columns_in (chain ∷ left ∷ right ∷ both ∷ p ∷ q ∷ []) =
    optional_of chain >? λ chain. optional_of left >? λ left. optional_of right >?
    λ right. natural_of both >? λ both.
    natural_of p >? λ p. natural_of q >? λ q. Some (CompareColumns chain left right both p q)
compare_columns_in words = None

-- i, or i j
abbrev pub is_in : List (List ℕ) → Option ConditionEntry
is_in (i ∷ []) = natural_of i >? λ i. Some (Is i)
is_in words = two_in words >? λ two. Some (IsUnknown two.0 two.1)

-- the line of a condition's step
abbrev pub condition_in : ConditionKind → List (List ℕ) → Option ConditionEntry
condition_in condition.Compare words = compare_in words
condition_in condition.CompareColumns words = compare_columns_in words
condition_in condition.Fixed words = nothing_in words >? λ none. Some Fixed
condition_in condition.NullTest words = number_in words >? λ i. Some (NullTest i)
condition_in condition.And words = two_in words >? λ two. Some (And two.0 two.1)
condition_in condition.Or words = two_in words >? λ two. Some (Or two.0 two.1)
condition_in condition.Not words = nothing_in words >? λ none. Some Not
condition_in condition.Is words = is_in words

-- the chain of a byte comparison, or a hyphen
abbrev pub byte_in : List (List ℕ) → Option InstructionEntry
byte_in (chain ∷ []) = optional_of chain >? λ chain. Some (Byte chain)
byte_in words = None

-- the line of an instruction
abbrev pub instruction_in : InstructionKind → List (List ℕ) → Option InstructionEntry
instruction_in instruction.Load words = number_in words >? λ node. Some (Load node)
instruction_in instruction.Fill words = nothing_in words >? λ none. Some Fill
instruction_in instruction.Op words = number_in words >? λ i. Some (Op i)
instruction_in instruction.Byte words = byte_in words
instruction_in instruction.Skip words = nothing_in words >? λ none. Some Skip

-- complete pairs of numbers
unfoldable pub edges_in : List (List ℕ) → Option (List EdgeProducts)
edges_in [] = Some []
edges_in (i ∷ []) = None
edges_in (i ∷ j ∷ words) =
    natural_of i >? λ i. natural_of j >? λ j. edges_in words
    >? λ edges. Some (record { differs = i; within = j } ∷ edges)

-- r h x, and complete pairs
abbrev pub keep_in : List (List ℕ) → Option KeepFields
keep_in (r ∷ h ∷ x ∷ words) =
    register_of r >? λ r. natural_of h >? λ h. natural_of x >? λ x. edges_in words >? λ edges.
    Some (record { register = r; node = h; through = x; edges = edges })
keep_in words = None

-- the fields of a line of each kind, from the words after the first one
abbrev pub body_at : ℕ → EntryFields → ParsedLine
body_at line entry = Before (Body (record { line = line; entry = entry }))

abbrev pub parse_line_after : ℕ → LineKind → List (List ℕ) → Option ParsedLine
parse_line_after line kind.Node words = node_in line words >? λ node. Some (Before (Node node))
parse_line_after line kind.Chain words = chain_in line words >? λ chain. Some (Before (Chain chain))
parse_line_after line kind.Row words = row_in line words >? λ row. Some (Before (Row row))
parse_line_after line (kind.Condition kind) words = condition_in kind words >? λ entry. Some
    (body_at line (Condition entry))
parse_line_after line (kind.Instruction kind) words = instruction_in kind words
    >? λ entry. Some (body_at line (Instruction entry))
parse_line_after line kind.Join words = number_in words >? λ target. Some
    (body_at line (Join target))
parse_line_after line kind.Keep words = keep_in words >? λ keep. Some (body_at line (Kept keep))
parse_line_after line kind.End words = number_in words >? λ row. Some
    (End (record { line = line; row = row }))

-- the fields of a line, if its words have one of the forms
abbrev pub parse_line_by : ℕ → List (List ℕ) → Option ParsedLine
parse_line_by line [] = None
parse_line_by line (word ∷ words) = kind_of word >? λ kind. parse_line_after line kind words

abbrev pub parse_line_in : NumberedWords → Option ParsedLine
parse_line_in line = parse_line_by line.number line.words
