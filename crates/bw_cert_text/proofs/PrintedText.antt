-- The canonical text of a certificate spells it, with its lines numbered one after another.
use Rattle.std.proofs.Common.{◌≡◌, ◌∙◌, refl, sym, ap, subst, ℕ, zero, suc, ◌+◌, ◌^◌, ◌<◌, ◌≤◌}
use Rattle.std.proofs.Common.{Bool, true, false, not, ◌&&◌, List, [], ◌∷◌, ◌++◌, length, map}
use Rattle.std.proofs.Common.{Option, Some, None, nat_lt, append_assoc, arith, append-nil}
use Rattle.std.specs.List.{list_all}
use Rattle.std.proofs.lemmas.Bool.{ltb-true, not-true, and_from}
use Rattle.bw_diagram.specs.declared.chain.ChainKind.TheVariants as compared
use Rattle.bw_diagram.specs.declared.product.Connective.{Connective}
use Rattle.bw_diagram.specs.declared.product.Connective.TheVariants as op
use Rattle.bw_diagram.specs.declared.product.Reason.{Reason}
use Rattle.bw_diagram.specs.declared.product.Reason.TheVariants.{Shortcut}
use Rattle.bw_model.specs.declared.column.Column as stored
use Rattle.bw_model.specs.Column.{names_of, column_named}
use Rattle.bw_text.specs.Lines.{NumberedWords, begins_comment, cut_lines, numbered_words, numbered_from}
use Rattle.bw_model.specs.Name.{is_name}
use Rattle.bw_cert_text.specs.declared.lines.NodeLine.{NodeLine}
use Rattle.bw_cert_text.specs.declared.lines.ProductLine.{ProductLine}
use Rattle.bw_cert_text.specs.declared.lines.EndLine.{EndLine}
use Rattle.bw_cert_text.specs.declared.lines.EdgeProducts.{EdgeProducts}
use Rattle.bw_cert_text.specs.declared.lines.ConditionEntry.TheVariants.{Fixed}
use Rattle.bw_cert_text.specs.declared.lines.InstructionEntry.TheVariants.{Fill}
use Rattle.bw_cert_text.specs.CertificateFields.{ColumnFields, One, Two, ChainFields, EntryFields}
use Rattle.bw_cert_text.specs.CertificateFields.{Condition, Instruction, Kept, BodyFields}
use Rattle.bw_cert_text.specs.CertificateFields.{CertificateFields}
use Rattle.bw_cert_text.specs.Columns.{is_found, are_columns, has_columns}
use Rattle.bw_cert_text.specs.CertificateText.{section_of, with_line, end_alone, SpellsFrom}
use Rattle.bw_cert_text.specs.CertificateText.{before_end, at_end, IsCertificateText}
use Rattle.bw_cert_text.specs.LineText.{LineBeforeEnd, Node, Chain, Row, Body}
use Rattle.bw_cert_text.specs.PrintText.{token_text, token_line, lines_text, body_tokens}
use Rattle.bw_cert_text.specs.PrintText.{schema_spelling, spelling_at, respelled_columns}
use Rattle.bw_cert_text.specs.PrintText.{respelled_chain, respell, certificate_text, print_text}
use Rattle.bw_cert_text.specs.Reprint.{node_at, chain_at, row_at, body_at, numbered_on, renumber}
use Rattle.bw_cert_text.specs.Reprint.{is_small, numbers_fit}
use Rattle.bw_cert_text.specs.Token.{Token, Key, Number, Perhaps, Column, Register, IsSpelled}
use Rattle.bw_cert_text.specs.Token.{AreSpelled, none, next, node_tokens, column_tokens}
use Rattle.bw_cert_text.specs.Token.{chain_tokens, reason_tokens, row_tokens, edge_tokens}
use Rattle.bw_cert_text.specs.Token.{entry_tokens, end_tokens, tokens_before_end, number_before_end}
use Rattle.bw_cert_text.specs.Connective.{connective_spelling}
use Rattle.bw_model.proofs.BitsLemmas.{both}
use Rattle.bw_text.proofs.DecimalLemmas.{natural_of-decimal, plain_number}
use Rattle.bw_text.proofs.RegisterLemmas.{plain_register, register_of-text}
use Rattle.bw_text.proofs.SpacedWords.{line_said}
use Rattle.bw_text.specs.Printing.{is_plain_word}
use Rattle.bw_text.proofs.WordSpelling.{same_as_itself}
use Rattle.bw_model.proofs.NameLemmas.{named_column_is_there, plain_name}

plain_column : (columns : List stored.Column) (word : List ℕ) (c : ℕ) → list_all is_name (names_of columns) ≡ true → c < length columns → is_plain_word (spelling_at columns word (Some c)) ≡ true
plain_column [] word c names lt = absurd (omega arith)
plain_column (column ∷ columns) word zero names lt = plain_name column.name (both (is_name column.name) (list_all is_name (names_of columns)) names).0
plain_column (column ∷ columns) word (suc c) names lt = plain_column columns word c (both (is_name column.name) (list_all is_name (names_of columns)) names).1 (omega arith)

plain_spelling : (columns : List stored.Column) (word : List ℕ) → list_all is_name (names_of columns) ≡ true → is_found (column_named columns word) ≡ true → is_plain_word (schema_spelling columns word) ≡ true
plain_spelling columns word names there = go (column_named columns word) refl there
  where
    go : (o : Option ℕ) → column_named columns word ≡ o → is_found o ≡ true → is_plain_word (spelling_at columns word o) ≡ true
    go None is e = absurd (cc e)
    go (Some c) is e = plain_column columns word c names (ltb-true c (length columns) (named_column_is_there columns word c is))

-- what spells itself in its canonical text
abbrev is_clear : Token → Bool
is_clear (Key key) = is_plain_word key
is_clear (Number n) = nat_lt n (2 ^ 64)
is_clear (Perhaps None) = true
is_clear (Perhaps (Some n)) = nat_lt n (2 ^ 64)
is_clear (Column word) = is_plain_word word
is_clear (Register r) = nat_lt r 64

token_spelled : (t : Token) → is_clear t ≡ true → IsSpelled t (token_text t)
token_spelled (Key key) h = same_as_itself key
token_spelled (Number n) h = natural_of-decimal n (ltb-true n (2 ^ 64) h)
token_spelled (Perhaps (Some n)) h = natural_of-decimal n (ltb-true n (2 ^ 64) h)
token_spelled (Register r) h = register_of-text r (ltb-true r 64 h)
token_spelled _ h = refl

token_plain : (t : Token) → is_clear t ≡ true → is_plain_word (token_text t) ≡ true
token_plain (Number n) h = plain_number n (ltb-true n (2 ^ 64) h)
token_plain (Perhaps None) h = refl
token_plain (Perhaps (Some n)) h = plain_number n (ltb-true n (2 ^ 64) h)
token_plain (Register r) h = plain_register r (ltb-true r 64 h)
token_plain _ h = h

tokens_spelled : (ts : List Token) → list_all is_clear ts ≡ true → AreSpelled ts (map token_text ts)
tokens_spelled [] h = none
tokens_spelled (t ∷ ts) h = let here = both (is_clear t) (list_all is_clear ts) h in next (token_spelled t here.0) (tokens_spelled ts here.1)

tokens_plain : (ts : List Token) → list_all is_clear ts ≡ true → list_all is_plain_word (map token_text ts) ≡ true
tokens_plain [] h = refl
tokens_plain (t ∷ ts) h = let here = both (is_clear t) (list_all is_clear ts) h in rw (token_plain t here.0) (tokens_plain ts here.1)

-- a line begins with a word of the language that begins no comment
abbrev begins_line : List Token → Bool
begins_line (Key key ∷ ts) = not (begins_comment key)
begins_line _ = false

tokens_said : (number : ℕ) (ts : List Token) (rest : List ℕ) → begins_line ts ≡ true → list_all is_clear ts ≡ true →
    numbered_from number (cut_lines (token_line ts ++ rest)) ≡ numbered_words number (map token_text ts) ∷ numbered_from (number + 1) (cut_lines rest)
tokens_said number (Key key ∷ ts) rest begins h =
    let here = both (is_plain_word key) (list_all is_clear ts) h in
    line_said number key (map token_text ts) rest here.0 (not-true (begins_comment key) begins) (tokens_plain ts here.1)
tokens_said number _ rest begins h = absurd (cc begins)

-- a token whose numbers fit is clear, if its words are plain
abbrev is_plain_token : Token → Bool
is_plain_token (Key key) = is_plain_word key
is_plain_token (Column word) = is_plain_word word
is_plain_token _ = true

token_clear : (t : Token) → is_small t ≡ true → is_plain_token t ≡ true → is_clear t ≡ true
token_clear (Key key) small plain = plain
token_clear (Column word) small plain = plain
token_clear (Perhaps None) small plain = small
token_clear _ small plain = small

tokens_clear : (ts : List Token) → list_all is_small ts ≡ true → list_all is_plain_token ts ≡ true → list_all is_clear ts ≡ true
tokens_clear [] small plain = refl
tokens_clear (t ∷ ts) small plain =
    let a = both (is_small t) (list_all is_small ts) small in
    let b = both (is_plain_token t) (list_all is_plain_token ts) plain in
    rw (token_clear t a.0 b.0) (tokens_clear ts a.1 b.1)

-- the words of lines are plain, with the schema's columns
row_plain : (o : Connective) (r : Reason) → (is_plain_word (connective_spelling o) && list_all is_plain_token (reason_tokens r)) ≡ true
row_plain o r = and_from (is_plain_word (connective_spelling o)) (list_all is_plain_token (reason_tokens r)) (word o) (reason r)
  where
    word : (o : Connective) → is_plain_word (connective_spelling o) ≡ true
    word op.And = refl
    word _ = refl

    reason : (r : Reason) → list_all is_plain_token (reason_tokens r) ≡ true
    reason Shortcut = refl
    reason _ = refl

edges_plain : (edges : List EdgeProducts) → list_all is_plain_token (edge_tokens edges) ≡ true
unfolding edge_tokens
edges_plain [] = refl
edges_plain (edge ∷ edges) = edges_plain edges

entry_plain : (x : EntryFields) → list_all is_plain_token (entry_tokens x) ≡ true
entry_plain (Condition Fixed) = refl
entry_plain (Instruction Fill) = refl
entry_plain (Kept keep) = edges_plain keep.edges
entry_plain _ = refl

entry_begins : (x : EntryFields) → begins_line (entry_tokens x) ≡ true
entry_begins (Condition Fixed) = refl
entry_begins (Instruction Fill) = refl
entry_begins _ = refl

module _ (columns : List stored.Column) (names : list_all is_name (names_of columns) ≡ true) where
  columns_plain : (x : ColumnFields) → are_columns columns x ≡ true → list_all is_plain_token (column_tokens (respelled_columns columns x)) ≡ true
  columns_plain (One compared.Less word start len bound node prev) g = rw (plain_spelling columns word names g) refl
  columns_plain (One compared.Equal word start len bound node prev) g = rw (plain_spelling columns word names g) refl
  columns_plain (Two compared.Less left right len node prev) g =
      let named = both (is_found (column_named columns left)) (is_found (column_named columns right)) g in
      rw (plain_spelling columns left names named.0, plain_spelling columns right names named.1) refl
  columns_plain (Two compared.Equal left right len node prev) g =
      let named = both (is_found (column_named columns left)) (is_found (column_named columns right)) g in
      rw (plain_spelling columns left names named.0, plain_spelling columns right names named.1) refl

  columns_small : (x : ColumnFields) → list_all is_small (column_tokens (respelled_columns columns x)) ≡ list_all is_small (column_tokens x)
  columns_small (One k word start len bound node prev) = refl
  columns_small _ = refl

  chain_clear : (x : ChainFields) → list_all is_small (chain_tokens x) ≡ true → are_columns columns x.columns ≡ true → list_all is_clear (chain_tokens (respelled_chain columns x)) ≡ true
  chain_clear x h g =
      tokens_clear (chain_tokens (respelled_chain columns x)) (ap (λ b. nat_lt x.n (2 ^ 64) && b) (columns_small x.columns) ∙ h) (columns_plain x.columns g)

  -- all lines of a section
  chains_clear : (xs : List ChainFields) → list_all (λ x. list_all is_small (chain_tokens x)) xs ≡ true → list_all (λ x. are_columns columns x.columns) xs ≡ true →
      list_all (λ x. list_all is_clear (chain_tokens x)) (map (respelled_chain columns) xs) ≡ true
  chains_clear [] h g = refl
  chains_clear (x ∷ xs) h g =
      let small = both (list_all is_small (chain_tokens x)) (list_all (λ x. list_all is_small (chain_tokens x)) xs) h in
      let there = both (are_columns columns x.columns) (list_all (λ x. are_columns columns x.columns) xs) g in
      and_from (list_all is_clear (chain_tokens (respelled_chain columns x))) (list_all (λ x. list_all is_clear (chain_tokens x)) (map (respelled_chain columns) xs))
      (chain_clear x small.0 there.0) (chains_clear xs small.1 there.1)

all_clear : {A : Type 0} (tokens : A → List Token) → ((x : A) → list_all is_plain_token (tokens x) ≡ true) → (xs : List A) →
    list_all (λ x. list_all is_small (tokens x)) xs ≡ true → list_all (λ x. list_all is_clear (tokens x)) xs ≡ true
all_clear tokens plain [] h = refl
all_clear tokens plain (x ∷ xs) h =
    let here = both (list_all is_small (tokens x)) (list_all (λ x. list_all is_small (tokens x)) xs) h in
    and_from (list_all is_clear (tokens x)) (list_all (λ x. list_all is_clear (tokens x)) xs) (tokens_clear (tokens x) here.0 (plain x)) (all_clear tokens plain xs here.1)

-- a section's lines, before a certificate that follows them
from_lower : (s t : ℕ) (lines : List NumberedWords) (c : CertificateFields) → t ≤ s → SpellsFrom s lines c → SpellsFrom t lines c
from_lower s t _ _ le (before_end part h says rest) = before_end part (omega (arith, le, h)) says rest
from_lower s t _ _ le (at_end end says) = at_end end says

unfoldable with_section : {A : Type 0} → (A → LineBeforeEnd) → (ℕ → A → A) → ℕ → List A → CertificateFields → CertificateFields
with_section part at first [] c = c
with_section part at first (x ∷ xs) c = with_line (part (at first x)) (with_section part at (first + 1) xs c)

module _ {A : Type 0} (part : A → LineBeforeEnd) (tokens : A → List Token) (at : ℕ → A → A) (s : ℕ) (same_section : (x : A) → section_of (part x) ≡ s)
    (same_tokens : (n : ℕ) (x : A) → tokens_before_end (part (at n x)) ≡ tokens x) (same_line : (n : ℕ) (x : A) → n ≡ number_before_end (part (at n x))) (begins : (x : A) → begins_line (tokens x) ≡ true) where
  section_spelled : (first : ℕ) (xs : List A) (rest : List ℕ) (c : CertificateFields) → list_all (λ x. list_all is_clear (tokens x)) xs ≡ true →
      SpellsFrom s (numbered_from (first + length xs) (cut_lines rest)) c → SpellsFrom s (numbered_from first (cut_lines (lines_text tokens xs ++ rest))) (with_section part at first xs c)
  unfolding lines_text with_section
  section_spelled first [] rest c h is =
      let same : first + 0 ≡ first = omega arith in
      subst (λ (n : ℕ). SpellsFrom s (numbered_from n (cut_lines rest)) c) same is
  section_spelled first (x ∷ xs) rest c h is =
      let here = both (list_all is_clear (tokens x)) (list_all (λ x. list_all is_clear (tokens x)) xs) h in
      let said = tokens_said first (tokens x) (lines_text tokens xs ++ rest) (begins x) here.0 in
      let all = ap (λ (t : List ℕ). numbered_from first (cut_lines t)) (append_assoc (token_line (tokens x)) (lines_text tokens xs) rest) ∙ said in
      let shift : first + length (x ∷ xs) ≡ first + 1 + length xs = omega arith in
      let others = section_spelled (first + 1) xs rest c here.1 (subst (λ (n : ℕ). SpellsFrom s (numbered_from n (cut_lines rest)) c) shift is) in
      let of_section : s ≡ section_of (part (at first x)) = sym (same_section (at first x)) in
      let le : s ≤ section_of (part (at first x)) = omega (arith, of_section) in
      let spelled = subst (λ (ts : List Token). AreSpelled ts (map token_text (tokens x))) (sym (same_tokens first x)) (tokens_spelled (tokens x) here.0) in
      rw all (before_end (part (at first x)) le (same_line first x, spelled)
      (subst (λ (k : ℕ). SpellsFrom k (numbered_from (first + 1) (cut_lines (lines_text tokens xs ++ rest))) (with_section part at (first + 1) xs c)) of_section others))

end_spelled : (n : ℕ) (end : EndLine) → list_all is_small (end_tokens end) ≡ true → SpellsFrom 3 (numbered_from n (cut_lines (token_line (end_tokens end)))) (end_alone (record { line = n; row = end.row }))
unfolding cut_lines numbered_from
end_spelled n end h =
    let said = tokens_said n (end_tokens end) [] refl h in
    let whole : numbered_from n (cut_lines (token_line (end_tokens end))) ≡ numbered_words n (map token_text (end_tokens end)) ∷ [] =
    ap (λ (t : List ℕ). numbered_from n (cut_lines t)) (sym (append-nil (token_line (end_tokens end)))) ∙ said in
    rw whole (at_end (record { line = n; row = end.row }) (refl, tokens_spelled (end_tokens end) h))

section_after : {A : Type 0} (part : A → LineBeforeEnd) (at : ℕ → A → A) (whole : List A → CertificateFields) → ((x : A) (xs : List A) → with_line (part x) (whole xs) ≡ whole (x ∷ xs)) →
    (first : ℕ) (xs : List A) → with_section part at first xs (whole []) ≡ whole (numbered_on at first xs)
unfolding numbered_on with_section
section_after part at whole step first [] = refl
section_after part at whole step first (x ∷ xs) =
    ap (with_line (part (at first x))) (section_after part at whole step (first + 1) xs) ∙ step (at first x) (numbered_on at (first + 1) xs)

-- a certificate without its end, put in front of that of which this is the end
put_together : (nodes : List NodeLine) (chains : List ChainFields) (rows : List ProductLine) (body : List BodyFields) (a b r y : ℕ) (end : EndLine) →
    with_section Node node_at a nodes (with_section Chain chain_at b chains (with_section Row row_at r rows (with_section Body body_at y body (end_alone end))))
    ≡ record { nodes = numbered_on node_at a nodes; chains = numbered_on chain_at b chains; products = numbered_on row_at r rows; body = numbered_on body_at y body; end = end }
put_together nodes chains rows body a b r y end =
    let its_body : List BodyFields = numbered_on body_at y body in
    let its_rows : List ProductLine = numbered_on row_at r rows in
    let its_chains : List ChainFields = numbered_on chain_at b chains in
    rw (
      section_after Body body_at (λ xs. record { nodes = []; chains = []; products = []; body = xs; end = end }) (λ x xs. refl) y body,
      section_after Row row_at (λ xs. record { nodes = []; chains = []; products = xs; body = its_body; end = end }) (λ x xs. refl) r rows,
      section_after Chain chain_at (λ xs. record { nodes = []; chains = xs; products = its_rows; body = its_body; end = end }) (λ x xs. refl) b chains,
      section_after Node node_at (λ xs. record { nodes = xs; chains = its_chains; products = its_rows; body = its_body; end = end }) (λ x xs. refl) a nodes,
    ) refl

certificate_spelled : (first : ℕ) (c : CertificateFields) →
    list_all (λ x. list_all is_clear (node_tokens x)) c.nodes ≡ true → list_all (λ x. list_all is_clear (chain_tokens x)) c.chains ≡ true →
    list_all (λ x. list_all is_clear (row_tokens x)) c.products ≡ true → list_all (λ x. list_all is_clear (body_tokens x)) c.body ≡ true → list_all is_small (end_tokens c.end) ≡ true →
    IsCertificateText first (certificate_text c) (renumber first c)
certificate_spelled first c nodes chains rows body end =
    let b : ℕ = first + length c.nodes in
    let r : ℕ = b + length c.chains in
    let y : ℕ = r + length c.products in
    let e : ℕ = y + length c.body in
    let t4 : List ℕ = token_line (end_tokens c.end) in
    let t3 : List ℕ = lines_text body_tokens c.body ++ t4 in
    let t2 : List ℕ = lines_text row_tokens c.products ++ t3 in
    let t1 : List ℕ = lines_text chain_tokens c.chains ++ t2 in
    let last = end_spelled e c.end end in
    let fourth = section_spelled Body body_tokens body_at 3 (λ x. refl) (λ n x. refl) (λ n x. refl) (λ x. entry_begins x.entry) y c.body t4 _ body last in
    let third = section_spelled Row row_tokens row_at 2 (λ x. refl) (λ n x. refl) (λ n x. refl) (λ x. refl) r c.products t3 _ rows (from_lower 3 2 _ _ (omega arith) fourth) in
    let second = section_spelled Chain chain_tokens chain_at 1 (λ x. refl) (λ n x. refl) (λ n x. refl) (λ x. refl) b c.chains t2 _ chains (from_lower 2 1 _ _ (omega arith) third) in
    let all = section_spelled Node node_tokens node_at 0 (λ x. refl) (λ n x. refl) (λ n x. refl) (λ x. refl) first c.nodes t1 _ nodes (from_lower 1 0 _ _ (omega arith) second) in
    subst (λ (x : CertificateFields). SpellsFrom 0 (numbered_from first (cut_lines (certificate_text c))) x) (put_together c.nodes c.chains c.products c.body first b r y (record { line = e; row = c.end.row })) all

pub text_spells : (columns : List stored.Column) (first : ℕ) (c : CertificateFields) → list_all is_name (names_of columns) ≡ true → numbers_fit c ≡ true → has_columns columns c ≡ true →
    IsCertificateText first (print_text columns c) (renumber first (respell columns c))
text_spells columns first c names small there =
    let n = both (list_all (λ x. list_all is_small (node_tokens x)) c.nodes) _ small in
    let k = both (list_all (λ x. list_all is_small (chain_tokens x)) c.chains) _ n.1 in
    let r = both (list_all (λ x. list_all is_small (row_tokens x)) c.products) _ k.1 in
    let b = both (list_all (λ x. list_all is_small (body_tokens x)) c.body) (list_all is_small (end_tokens c.end)) r.1 in
    certificate_spelled first (respell columns c) (all_clear node_tokens (λ x. refl) c.nodes n.0) (chains_clear columns names c.chains k.0 there) (all_clear row_tokens (λ x. row_plain x.op x.reason) c.products r.0)
    (all_clear body_tokens (λ x. entry_plain x.entry) c.body b.0) b.1
