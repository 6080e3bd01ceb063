-- What the words of a line spell is read.
use Rattle.std.proofs.Common.{◌≡◌, ◌∙◌, refl, ap, ℕ, List, [], ◌∷◌, Some}
use Rattle.bw_diagram.specs.declared.chain.ChainKind.TheVariants as compared
use Rattle.bw_diagram.specs.declared.product.Reason.{Reason}
use Rattle.bw_diagram.specs.declared.product.Reason.TheVariants.{Shortcut, Cofactors}
use Rattle.bw_text.specs.declared.line_kind.LineKind.TheVariants as kind
use Rattle.bw_text.specs.declared.line_kind.ConditionKind.TheVariants as condition
use Rattle.bw_text.specs.declared.line_kind.InstructionKind.TheVariants as instruction
use Rattle.bw_text.specs.declared.form.Form.TheVariants as form
use Rattle.bw_cert_text.specs.declared.lines.NodeLine.{NodeLine}
use Rattle.bw_cert_text.specs.declared.lines.ProductLine.{ProductLine}
use Rattle.bw_cert_text.specs.declared.lines.ConditionEntry.{ConditionEntry}
use Rattle.bw_cert_text.specs.declared.lines.ConditionEntry.TheVariants.{Compare, CompareColumns}
use Rattle.bw_cert_text.specs.declared.lines.ConditionEntry.TheVariants.{Fixed, NullTest, And, Or}
use Rattle.bw_cert_text.specs.declared.lines.ConditionEntry.TheVariants.{Not, Is, IsUnknown}
use Rattle.bw_cert_text.specs.declared.lines.InstructionEntry.{InstructionEntry}
use Rattle.bw_cert_text.specs.declared.lines.InstructionEntry.TheVariants.{Load, Fill, Op, Byte}
use Rattle.bw_cert_text.specs.declared.lines.InstructionEntry.TheVariants.{Skip}
use Rattle.bw_cert_text.specs.declared.lines.EdgeProducts.{EdgeProducts}
use Rattle.bw_cert_text.specs.CertificateFields.{ColumnFields, One, Two, ChainFields, EntryFields}
use Rattle.bw_cert_text.specs.CertificateFields.{Condition, Instruction, Join, Kept}
use Rattle.bw_cert_text.specs.LineText.{Node, Chain, Row, Body, ParsedLine, Before, End}
use Rattle.bw_cert_text.specs.LineText.{reason_in, edges_in, parse_line_by}
use Rattle.bw_cert_text.specs.Token.{AreSpelled, none, next, node_tokens}
use Rattle.bw_cert_text.specs.Token.{chain_tokens, reason_tokens, row_tokens, condition_tokens}
use Rattle.bw_cert_text.specs.Token.{instruction_tokens, edge_tokens, end_tokens, entry_tokens}
use Rattle.bw_cert_text.proofs.WordSpelling.{is_connective, read_optional}
use Rattle.bw_text.proofs.WordSpelling.{is_kind, is_form}
use Rattle.bw_cert_text.proofs.LineRead.{IsSaid}

abbrev body : ℕ → EntryFields → ParsedLine
body line entry = Before (Body (record { line = line; entry = entry }))

spelled_node : (line : ℕ) (node : NodeLine) (words : List (List ℕ)) → line ≡ node.line → AreSpelled (node_tokens node) words → parse_line_by line words ≡ Some (Before (Node node))
spelled_node line node _ same (next {word = word} key (next p0 (next p1 (next p2 (next p3 none))))) = rw (same, is_kind kind.Node word key, p0, p1, p2, p3) refl

spelled_chain : (line : ℕ) (chain : ChainFields) (words : List (List ℕ)) → line ≡ chain.line → AreSpelled (chain_tokens chain) words → parse_line_by line words ≡ Some (Before (Chain chain))
spelled_chain line chain words same is = rw same (by_form chain.columns words is)
  where
    by_form : (x : ColumnFields) (words : List (List ℕ)) → AreSpelled (chain_tokens (record chain { columns = x })) words → parse_line_by chain.line words ≡ Some (Before (Chain (record chain { columns = x })))
    by_form (One compared.Less column start len bound node prev) _ (next {word = word} key (next p (next {word = w} f (next p0 (next p1 (next p2 (next p3 (next p4 (next {word = last} p5 none))))))))) =
        rw (is_kind kind.Chain word key, p, is_form form.Less w f, p0, p1, p2, p3, p4, read_optional last prev p5) refl
    by_form (One compared.Equal column start len bound node prev) _ (next {word = word} key (next p (next {word = w} f (next p0 (next p1 (next p2 (next p3 (next p4 (next {word = last} p5 none))))))))) =
        rw (is_kind kind.Chain word key, p, is_form form.Equal w f, p0, p1, p2, p3, p4, read_optional last prev p5) refl
    by_form (Two compared.Less left right len node prev) _ (next {word = word} key (next p (next {word = w} f (next p0 (next p1 (next p2 (next p3 (next {word = last} p4 none)))))))) =
        rw (is_kind kind.Chain word key, p, is_form form.LessTwo w f, p0, p1, p2, p3, read_optional last prev p4) refl
    by_form (Two compared.Equal left right len node prev) _ (next {word = word} key (next p (next {word = w} f (next p0 (next p1 (next p2 (next p3 (next {word = last} p4 none)))))))) =
        rw (is_kind kind.Chain word key, p, is_form form.EqualTwo w f, p0, p1, p2, p3, read_optional last prev p4) refl

spelled_reason : (r : Reason) (words : List (List ℕ)) → AreSpelled (reason_tokens r) words → reason_in words ≡ Some r
spelled_reason Shortcut _ (next key none) = rw key refl
spelled_reason (Cofactors v i j) _ (next key (next p1 (next p2 (next p3 none)))) = rw (key, p1, p2, p3) refl

spelled_row : (line : ℕ) (row : ProductLine) (words : List (List ℕ)) → line ≡ row.line → AreSpelled (row_tokens row) words → parse_line_by line words ≡ Some (Before (Row row))
spelled_row line row _ same (next {word = word} key (next p0 (next {word = op} q (next p2 (next p3 (next {words = words} p4 rest)))))) =
    rw (same, is_kind kind.Row word key, p0, is_connective row.op op q, p2, p3, p4, spelled_reason row.reason words rest) refl

spelled_condition : (line : ℕ) (entry : ConditionEntry) (words : List (List ℕ)) → AreSpelled (condition_tokens entry) words → parse_line_by line words ≡ Some (body line (Condition entry))
spelled_condition line (Compare a b p q) _ (next {word = word} key (next {word = w0} p0 (next {word = w1} p1 (next p2 (next p3 none))))) =
    rw (is_kind (kind.Condition condition.Compare) word key, read_optional w0 a p0, read_optional w1 b p1, p2, p3) refl
spelled_condition line (CompareColumns a b c d p q) _ (next {word = word} key (next {word = w0} p0 (next {word = w1} p1 (next {word = w2} p2 (next p3 (next p4 (next p5 none))))))) =
    rw (is_kind (kind.Condition condition.CompareColumns) word key, read_optional w0 a p0, read_optional w1 b p1, read_optional w2 c p2, p3, p4, p5) refl
spelled_condition line Fixed _ (next {word = word} key none) = rw (is_kind (kind.Condition condition.Fixed) word key) refl
spelled_condition line (NullTest i) _ (next {word = word} key (next p0 none)) = rw (is_kind (kind.Condition condition.NullTest) word key, p0) refl
spelled_condition line (And i j) _ (next {word = word} key (next p0 (next p1 none))) = rw (is_kind (kind.Condition condition.And) word key, p0, p1) refl
spelled_condition line (Or i j) _ (next {word = word} key (next p0 (next p1 none))) = rw (is_kind (kind.Condition condition.Or) word key, p0, p1) refl
spelled_condition line Not _ (next {word = word} key none) = rw (is_kind (kind.Condition condition.Not) word key) refl
spelled_condition line (Is i) _ (next {word = word} key (next p0 none)) = rw (is_kind (kind.Condition condition.Is) word key, p0) refl
spelled_condition line (IsUnknown i j) _ (next {word = word} key (next p0 (next p1 none))) = rw (is_kind (kind.Condition condition.Is) word key, p0, p1) refl

spelled_instruction : (line : ℕ) (entry : InstructionEntry) (words : List (List ℕ)) → AreSpelled (instruction_tokens entry) words → parse_line_by line words ≡ Some (body line (Instruction entry))
spelled_instruction line (Load n) _ (next {word = word} key (next p0 none)) = rw (is_kind (kind.Instruction instruction.Load) word key, p0) refl
spelled_instruction line Fill _ (next {word = word} key none) = rw (is_kind (kind.Instruction instruction.Fill) word key) refl
spelled_instruction line (Op i) _ (next {word = word} key (next p0 none)) = rw (is_kind (kind.Instruction instruction.Op) word key, p0) refl
spelled_instruction line (Byte a) _ (next {word = word} key (next {word = w0} p0 none)) =
    rw (is_kind (kind.Instruction instruction.Byte) word key, read_optional w0 a p0) refl
spelled_instruction line Skip _ (next {word = word} key none) = rw (is_kind (kind.Instruction instruction.Skip) word key) refl

spelled_edges : (edges : List EdgeProducts) (words : List (List ℕ)) → AreSpelled (edge_tokens edges) words → edges_in words ≡ Some edges
unfolding edge_tokens edges_in
spelled_edges [] _ none = refl
spelled_edges (edge ∷ edges) _ (next p0 (next {words = words} p1 rest)) = rw (p0, p1, spelled_edges edges words rest) refl

spelled_body : (line : ℕ) (entry : EntryFields) (words : List (List ℕ)) → AreSpelled (entry_tokens entry) words → parse_line_by line words ≡ Some (body line entry)
spelled_body line (Condition entry) words is = spelled_condition line entry words is
spelled_body line (Instruction entry) words is = spelled_instruction line entry words is
spelled_body line (Join target) _ (next {word = word} key (next p0 none)) = rw (is_kind kind.Join word key, p0) refl
spelled_body line (Kept keep) _ (next {word = word} key (next p0 (next p1 (next {words = words} p2 rest)))) =
    rw (is_kind kind.Keep word key, p0, p1, p2, spelled_edges keep.edges words rest) refl

pub spelled_line : (line : ℕ) (words : List (List ℕ)) (x : ParsedLine) → IsSaid x line words → parse_line_by line words ≡ Some x
spelled_line line words (Before (Node node)) is = spelled_node line node words is.0 is.1
spelled_line line words (Before (Chain chain)) is = spelled_chain line chain words is.0 is.1
spelled_line line words (Before (Row row)) is = spelled_row line row words is.0 is.1
spelled_line line words (Before (Body x)) is = spelled_body line x.entry words is.1 ∙ ap (λ (l : ℕ). Some (body l x.entry)) is.0
spelled_line line words (End end) is = ended words is.0 is.1
  where
    ended : (words : List (List ℕ)) → line ≡ end.line → AreSpelled (end_tokens end) words → parse_line_by line words ≡ Some (End end)
    ended _ same (next {word = word} key (next p0 none)) = rw (same, is_kind kind.End word key, p0) refl
