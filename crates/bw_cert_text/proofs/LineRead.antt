-- What is read of a line is spelled by its words.
use Rattle.std.proofs.Common.{◌≡◌, refl, ℕ, Bool, true, false, cond, List, [], ◌∷◌, Option, Some}
use Rattle.std.proofs.Common.{None, codes}
use Rattle.bw_diagram.specs.declared.chain.ChainKind.{ChainKind}
use Rattle.bw_diagram.specs.declared.chain.ChainKind.TheVariants as compared
use Rattle.bw_text.specs.Number.{natural_of}
use Rattle.bw_text.specs.Text.{same_text}
use Rattle.bw_text.specs.declared.line_kind.LineKind.{LineKind}
use Rattle.bw_text.specs.declared.line_kind.LineKind.TheVariants as kind
use Rattle.bw_text.specs.declared.line_kind.ConditionKind.{ConditionKind}
use Rattle.bw_text.specs.declared.line_kind.ConditionKind.TheVariants as condition
use Rattle.bw_text.specs.declared.line_kind.InstructionKind.{InstructionKind}
use Rattle.bw_text.specs.declared.line_kind.InstructionKind.TheVariants as instruction
use Rattle.bw_text.specs.declared.form.Form.{Form}
use Rattle.bw_text.specs.declared.form.Form.TheVariants as form
use Rattle.bw_cert_text.specs.LineText.{Node, Chain, Row, ParsedLine, Before, End, node_in}
use Rattle.bw_cert_text.specs.LineText.{one_column_in, two_columns_in, columns_after, chain_in}
use Rattle.bw_cert_text.specs.LineText.{reason_in, row_in, compare_in, compare_columns_in, is_in}
use Rattle.bw_cert_text.specs.LineText.{condition_in, instruction_in, edges_in, keep_in}
use Rattle.bw_cert_text.specs.LineText.{parse_line_after, parse_line_by}
use Rattle.bw_cert_text.specs.Operand.{optional_of, nothing_in, number_in, two_in}
use Rattle.bw_text.specs.Register.{register_of}
use Rattle.bw_cert_text.specs.Token.{Number, Perhaps, IsSpelled, AreSpelled, one_key, two_key, none, next}
use Rattle.bw_cert_text.specs.Token.{column_tokens, reason_tokens, condition_tokens}
use Rattle.bw_cert_text.specs.Token.{instruction_tokens, edge_tokens, keep_tokens, end_tokens}
use Rattle.bw_cert_text.specs.Token.{tokens_before_end, number_before_end}
use Rattle.bw_text.specs.LineKind.{kind_spelling, kind_of}
use Rattle.bw_text.specs.Form.{form_of}
use Rattle.bw_cert_text.specs.Connective.{connective_of}
use Rattle.bw_cert_text.proofs.WordSpelling.{IfFound, absent, present, if_found}
use Rattle.bw_cert_text.proofs.WordSpelling.{and_then, what_is_found, connective_is, optional_read}
use Rattle.bw_text.proofs.WordSpelling.{kind_is, form_is}

-- a line says what was read, with its number
abbrev pub IsSaid : ParsedLine → ℕ → List (List ℕ) → Type 0
IsSaid (Before part) line words = (line ≡ number_before_end part) × AreSpelled (tokens_before_end part) words
IsSaid (End end) line words = (line ≡ end.line) × AreSpelled (end_tokens end) words

-- the first word of a line is the word of a kind
abbrev Begins : LineKind → List ℕ → Type 0
Begins k word = same_text (kind_spelling k) word ≡ true

number : (word : List ℕ) → IfFound (λ n. natural_of word ≡ Some n) (natural_of word)
number word = if_found (natural_of word) (λ n is. is)

optional : (word : List ℕ) → IfFound (λ n. IsSpelled (Perhaps n) word) (optional_of word)
optional word = if_found (optional_of word) (optional_read word)

node_read : (line : ℕ) (word : List ℕ) (words : List (List ℕ)) → Begins kind.Node word → IfFound (λ x. IsSaid (Before (Node x)) line (word ∷ words)) (node_in line words)
node_read line word (w0 ∷ w1 ∷ w2 ∷ w3 ∷ []) key =
    and_then (number w0) λ n0 p0. and_then (number w1) λ n1 p1. and_then (number w2) λ n2 p2. and_then (number w3) λ n3 p3.
    present (refl, next key (next p0 (next p1 (next p2 (next p3 none)))))
node_read line word _ key = absent

one_read : (k : ChainKind) (word : List ℕ) (words : List (List ℕ)) → IsSpelled (one_key k) word → IfFound (λ x. AreSpelled (column_tokens x) (word ∷ words)) (one_column_in k words)
one_read k word (w0 ∷ w1 ∷ w2 ∷ w3 ∷ w4 ∷ w5 ∷ []) key =
    and_then (number w1) λ n1 p1. and_then (number w2) λ n2 p2. and_then (number w3) λ n3 p3. and_then (number w4) λ n4 p4. and_then (optional w5) λ n5 p5.
    present (next key (next refl (next p1 (next p2 (next p3 (next p4 (next p5 none)))))))
one_read k word _ key = absent

two_read : (k : ChainKind) (word : List ℕ) (words : List (List ℕ)) → IsSpelled (two_key k) word → IfFound (λ x. AreSpelled (column_tokens x) (word ∷ words)) (two_columns_in k words)
two_read k word (w0 ∷ w1 ∷ w2 ∷ w3 ∷ w4 ∷ []) key =
    and_then (number w2) λ n2 p2. and_then (number w3) λ n3 p3. and_then (optional w4) λ n4 p4.
    present (next key (next refl (next refl (next p2 (next p3 (next p4 none))))))
two_read k word _ key = absent

columns_read : (f : Form) (word : List ℕ) (words : List (List ℕ)) → form_of word ≡ Some f → IfFound (λ x. AreSpelled (column_tokens x) (word ∷ words)) (columns_after f words)
columns_read form.Less word words is = one_read compared.Less word words (form_is word form.Less is)
columns_read form.Equal word words is = one_read compared.Equal word words (form_is word form.Equal is)
columns_read form.LessTwo word words is = two_read compared.Less word words (form_is word form.LessTwo is)
columns_read form.EqualTwo word words is = two_read compared.Equal word words (form_is word form.EqualTwo is)

chain_read : (line : ℕ) (word : List ℕ) (words : List (List ℕ)) → Begins kind.Chain word → IfFound (λ x. IsSaid (Before (Chain x)) line (word ∷ words)) (chain_in line words)
chain_read line word (w0 ∷ w1 ∷ words) key =
    and_then (number w0) λ n0 p0. and_then (if_found (form_of w1) (λ f is. is)) λ f is. and_then (columns_read f w1 words is) λ columns there.
    present (refl, next key (next p0 there))
chain_read line word _ key = absent

tested : {A : Type 0} {P : A → Type 0} {o : Option A} (b : Bool) → (b ≡ true → IfFound P o) → IfFound P (cond b o None)
tested true k = k refl
tested false k = absent

reason_read : (words : List (List ℕ)) → IfFound (λ x. AreSpelled (reason_tokens x) words) (reason_in words)
reason_read (w0 ∷ []) = tested (same_text (codes "S") w0) λ key. present (next key none)
reason_read (w0 ∷ w1 ∷ w2 ∷ w3 ∷ []) =
    tested (same_text (codes "V") w0) λ key. and_then (number w1) λ n1 p1. and_then (number w2) λ n2 p2. and_then (number w3) λ n3 p3.
    present (next key (next p1 (next p2 (next p3 none))))
reason_read _ = absent

row_read : (line : ℕ) (word : List ℕ) (words : List (List ℕ)) → Begins kind.Row word → IfFound (λ x. IsSaid (Before (Row x)) line (word ∷ words)) (row_in line words)
row_read line word (w0 ∷ w1 ∷ w2 ∷ w3 ∷ w4 ∷ words) key =
    and_then (number w0) λ n0 p0. and_then (if_found (connective_of w1) (connective_is w1)) λ o q.
    and_then (number w2) λ n2 p2. and_then (number w3) λ n3 p3. and_then (number w4) λ n4 p4. and_then (reason_read words) λ reason there.
    present (refl, next key (next p0 (next q (next p2 (next p3 (next p4 there))))))
row_read line word _ key = absent

nothing_read : (words : List (List ℕ)) → IfFound (λ x. AreSpelled [] words) (nothing_in words)
nothing_read [] = present none
nothing_read (w0 ∷ words) = absent

number_read : (words : List (List ℕ)) → IfFound (λ x. AreSpelled (Number x ∷ []) words) (number_in words)
number_read (w0 ∷ []) = if_found (natural_of w0) λ n0 p0. next p0 none
number_read _ = absent

pair_read : (words : List (List ℕ)) → IfFound (λ x. AreSpelled (Number x.0 ∷ Number x.1 ∷ []) words) (two_in words)
pair_read (w0 ∷ w1 ∷ []) = and_then (number w0) λ n0 p0. and_then (number w1) λ n1 p1. present (next p0 (next p1 none))
pair_read _ = absent

compare_read : (word : List ℕ) (words : List (List ℕ)) → Begins (kind.Condition condition.Compare) word → IfFound (λ x. AreSpelled (condition_tokens x) (word ∷ words)) (compare_in words)
compare_read word (w0 ∷ w1 ∷ w2 ∷ w3 ∷ []) key =
    and_then (optional w0) λ n0 p0. and_then (optional w1) λ n1 p1. and_then (number w2) λ n2 p2. and_then (number w3) λ n3 p3.
    present (next key (next p0 (next p1 (next p2 (next p3 none)))))
compare_read word _ key = absent

compare_columns_read : (word : List ℕ) (words : List (List ℕ)) → Begins (kind.Condition condition.CompareColumns) word → IfFound (λ x. AreSpelled (condition_tokens x) (word ∷ words)) (compare_columns_in words)
compare_columns_read word (w0 ∷ w1 ∷ w2 ∷ w3 ∷ w4 ∷ w5 ∷ []) key =
    and_then (optional w0) λ n0 p0. and_then (optional w1) λ n1 p1. and_then (optional w2) λ n2 p2.
    and_then (number w3) λ n3 p3. and_then (number w4) λ n4 p4. and_then (number w5) λ n5 p5.
    present (next key (next p0 (next p1 (next p2 (next p3 (next p4 (next p5 none)))))))
compare_columns_read word _ key = absent

is_read : (word : List ℕ) (words : List (List ℕ)) → Begins (kind.Condition condition.Is) word → IfFound (λ x. AreSpelled (condition_tokens x) (word ∷ words)) (is_in words)
is_read word [] key = absent
is_read word (w0 ∷ []) key = and_then (number w0) λ n0 p0. present (next key (next p0 none))
is_read word (w0 ∷ w1 ∷ words) key = and_then (pair_read (w0 ∷ w1 ∷ words)) λ two there. present (next key there)

condition_read : (k : ConditionKind) (word : List ℕ) (words : List (List ℕ)) → Begins (kind.Condition k) word → IfFound (λ x. AreSpelled (condition_tokens x) (word ∷ words)) (condition_in k words)
condition_read condition.Compare word words key = compare_read word words key
condition_read condition.CompareColumns word words key = compare_columns_read word words key
condition_read condition.Fixed word words key = and_then (nothing_read words) λ u there. present (next key there)
condition_read condition.NullTest word words key = and_then (number_read words) λ i there. present (next key there)
condition_read condition.And word words key = and_then (pair_read words) λ two there. present (next key there)
condition_read condition.Or word words key = and_then (pair_read words) λ two there. present (next key there)
condition_read condition.Not word words key = and_then (nothing_read words) λ u there. present (next key there)
condition_read condition.Is word words key = is_read word words key

instruction_read : (k : InstructionKind) (word : List ℕ) (words : List (List ℕ)) → Begins (kind.Instruction k) word → IfFound (λ x. AreSpelled (instruction_tokens x) (word ∷ words)) (instruction_in k words)
instruction_read instruction.Load word words key = and_then (number_read words) λ i there. present (next key there)
instruction_read instruction.Fill word words key = and_then (nothing_read words) λ u there. present (next key there)
instruction_read instruction.Op word words key = and_then (number_read words) λ i there. present (next key there)
instruction_read instruction.Byte word (w0 ∷ []) key = and_then (optional w0) λ n0 p0. present (next key (next p0 none))
instruction_read instruction.Skip word words key = and_then (nothing_read words) λ u there. present (next key there)
instruction_read instruction.Byte word _ key = absent

edges_read : (words : List (List ℕ)) → IfFound (λ x. AreSpelled (edge_tokens x) words) (edges_in words)
unfolding edges_in edge_tokens
edges_read [] = present none
edges_read (w0 ∷ []) = absent
edges_read (w0 ∷ w1 ∷ words) = and_then (number w0) λ n0 p0. and_then (number w1) λ n1 p1. and_then (edges_read words) λ edges there. present (next p0 (next p1 there))

keep_read : (word : List ℕ) (words : List (List ℕ)) → Begins kind.Keep word → IfFound (λ x. AreSpelled (keep_tokens x) (word ∷ words)) (keep_in words)
keep_read word (w0 ∷ w1 ∷ w2 ∷ words) key =
    and_then (if_found (register_of w0) (λ r is. is)) λ n0 p0. and_then (number w1) λ n1 p1. and_then (number w2) λ n2 p2. and_then (edges_read words) λ edges there.
    present (next key (next p0 (next p1 (next p2 there))))
keep_read word _ key = absent

after_read : (line : ℕ) (k : LineKind) (word : List ℕ) (words : List (List ℕ)) → Begins k word → IfFound (λ x. IsSaid x line (word ∷ words)) (parse_line_after line k words)
after_read line kind.Node word words key = and_then (node_read line word words key) λ node said. present said
after_read line kind.Chain word words key = and_then (chain_read line word words key) λ chain said. present said
after_read line kind.Row word words key = and_then (row_read line word words key) λ row said. present said
after_read line (kind.Condition k) word words key = and_then (condition_read k word words key) λ entry there. present (refl, there)
after_read line (kind.Instruction k) word words key = and_then (instruction_read k word words key) λ entry there. present (refl, there)
after_read line kind.Join word words key = and_then (number_read words) λ target there. present (refl, next key there)
after_read line kind.Keep word words key = and_then (keep_read word words key) λ keep there. present (refl, there)
after_read line kind.End word words key = and_then (number_read words) λ row there. present (refl, next key there)

pub line_read : (line : ℕ) (words : List (List ℕ)) (x : ParsedLine) → parse_line_by line words ≡ Some x → IsSaid x line words
line_read line [] x e = absurd (cc e)
line_read line (word ∷ words) x e = what_is_found x (and_then (if_found (kind_of word) (kind_is word)) λ k begins. after_read line k word words begins) e
