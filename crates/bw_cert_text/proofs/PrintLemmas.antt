-- Canonical texts, one line and one place at a time.
use Rattle.std.proofs.Common.{◌≡◌, ◌∙◌, refl, sym, ap, ℕ, suc, ◌+◌, ◌^◌, ◌<◌, ◌≤◌, Bool, true, ◌&&◌}
use Rattle.std.proofs.Common.{List, [], ◌∷◌, ◌++◌, map, length, take, drop, get_or, nat_lt, add-one}
use Rattle.std.proofs.Common.{append_assoc, drop-cons}
use Rattle.std.specs.List.{list_all}
use Rattle.std.proofs.lemmas.List.{append-nil, drop_all, take_all}
use Rattle.std.proofs.lemmas.List.Folds.{list_all_more, list_all-map}
use Rattle.bw_model.specs.declared.column.Column.{Column}
use Rattle.bw_cert_text.specs.declared.lines.EdgeProducts.{EdgeProducts}
use Rattle.bw_cert_text.specs.CertificateFields.{chain_fields, body_fields, certificate_fields}
use Rattle.bw_cert_text.specs.CertificateFields.{ChainFields, BodyFields}
use Rattle.bw_cert_text.specs.CertificateShape.{CertificateShape}
use Rattle.bw_cert_text.specs.PrintText.{token_text, token_words, token_line, lines_text}
use Rattle.bw_cert_text.specs.PrintText.{body_tokens, respelled_chain, print_text}
use Rattle.bw_text.specs.Printing.{spaced_words}
use Rattle.bw_cert_text.specs.Reprint.{are_small, numbers_fit}
use Rattle.bw_cert_text.specs.Token.{Token, Number, edge_tokens, node_tokens, chain_tokens}
use Rattle.bw_cert_text.specs.Token.{row_tokens, end_tokens}

pub lines-found : {A : Type 0} (tokens : A → List Token) (xs : List A) (i : ℕ) (x : A) → i < length xs → x ≡ get_or xs i x →
    lines_text tokens (drop i xs) ≡ token_line (tokens x) ++ lines_text tokens (drop (i + 1) xs)
unfolding lines_text
lines-found {A} tokens xs i x lt is = rw (add-one, drop-cons xs i x lt) (ap (λ (y : A). token_line (tokens y) ++ lines_text tokens (drop (suc i) xs)) (sym is))

pub lines-end : {A : Type 0} (tokens : A → List Token) (xs : List A) (i : ℕ) → length xs ≤ i → lines_text tokens (drop i xs) ≡ []
unfolding lines_text
lines-end tokens xs i le = rw (drop_all i xs le) refl

pub edges-next : (xs : List EdgeProducts) (i : ℕ) (d : EdgeProducts) → i < length xs →
    spaced_words (token_words (edge_tokens (drop i xs)))
    ≡ spaced_words (token_words (Number (get_or xs i d).differs ∷ Number (get_or xs i d).within ∷ [])) ++ spaced_words (token_words (edge_tokens (drop (i + 1) xs)))
unfolding spaced_words edge_tokens
edges-next xs i d lt = rw (add-one, drop-cons xs i d lt) (go (token_text (Number (get_or xs i d).differs)) (token_text (Number (get_or xs i d).within)) (spaced_words (token_words (edge_tokens (drop (suc i) xs)))))
  where
    go : (a b rest : List ℕ) → 32 ∷ (a ++ (32 ∷ (b ++ rest))) ≡ (32 ∷ (a ++ (32 ∷ (b ++ [])))) ++ rest
    go a b rest =
        rw (append-nil b) (ap (λ (t : List ℕ). 32 ∷ t) (sym (append_assoc a (32 ∷ b) rest)))

pub edges-end : (xs : List EdgeProducts) (i : ℕ) → length xs ≤ i → spaced_words (token_words (edge_tokens (drop i xs))) ≡ []
unfolding spaced_words edge_tokens
edges-end xs i le = rw (drop_all i xs le) refl

-- lines of other things that are seen so
pub lines-map : {A B : Type 0} (tokens : B → List Token) (view : A → B) (xs : List A) → lines_text tokens (map view xs) ≡ lines_text (λ x. tokens (view x)) xs
unfolding lines_text
lines-map tokens view [] = refl
lines-map tokens view (x ∷ xs) = ap (λ (t : List ℕ). token_line (tokens (view x)) ++ t) (lines-map tokens view xs)

spaced-append : (a b : List Token) → spaced_words (token_words (a ++ b)) ≡ spaced_words (token_words a) ++ spaced_words (token_words b)
unfolding spaced_words
spaced-append [] b = refl
spaced-append (t ∷ a) b = ap (λ (r : List ℕ). 32 ∷ r) (ap (λ (r : List ℕ). token_text t ++ r) (spaced-append a b) ∙ sym (append_assoc (token_text t) (spaced_words (token_words a)) (spaced_words (token_words b))))

-- a line that was written in four pieces
pub line_written : (old key first second third new : List ℕ) (a b : List Token) → first ≡ old ++ key → second ≡ first ++ spaced_words (token_words a) → third ≡ second ++ spaced_words (token_words b) → new ≡ third ++ 10 ∷ [] →
    new ≡ old ++ (key ++ (spaced_words (token_words (a ++ b)) ++ 10 ∷ []))
line_written old key first second third new a b p q r s =
    rw (s, r, q, p, spaced-append a b) (append_assoc ((old ++ key) ++ spaced_words (token_words a)) (spaced_words (token_words b)) (10 ∷ []) ∙ append_assoc (old ++ key) (spaced_words (token_words a)) (spaced_words (token_words b) ++ 10 ∷ [])
    ∙ append_assoc old key (spaced_words (token_words a) ++ (spaced_words (token_words b) ++ 10 ∷ [])) ∙ ap (λ (t : List ℕ). old ++ (key ++ t)) (sym (append_assoc (spaced_words (token_words a)) (spaced_words (token_words b)) (10 ∷ []))))

-- a text that was written in five pieces
pub text_written : (t0 t1 t2 t3 t4 t5 a b c d e : List ℕ) → t0 ≡ [] → t1 ≡ t0 ++ a → t2 ≡ t1 ++ b → t3 ≡ t2 ++ c → t4 ≡ t3 ++ d → t5 ≡ t4 ++ e → t5 ≡ a ++ (b ++ (c ++ (d ++ e)))
text_written t0 t1 t2 t3 t4 t5 a b c d e p0 p1 p2 p3 p4 p5 =
    rw (p5, p4, p3, p2, p1, p0) (append_assoc ((a ++ b) ++ c) d e ∙ append_assoc (a ++ b) c (d ++ e) ∙ append_assoc a b (c ++ (d ++ e)))

-- the canonical text, by the lines as a program holds them
pub shape_text : (columns : List Column) (shape : CertificateShape) → print_text columns (certificate_fields shape)
    ≡ lines_text node_tokens shape.nodes ++ (lines_text (λ chain. chain_tokens (respelled_chain columns (chain_fields chain))) shape.chains
    ++ (lines_text row_tokens shape.products ++ (lines_text (λ line. body_tokens (body_fields line)) shape.body ++ token_line (end_tokens shape.end))))
shape_text columns shape =
    rw (
      lines-map chain_tokens (respelled_chain columns) (map chain_fields shape.chains),
      lines-map (λ (chain : ChainFields). chain_tokens (respelled_chain columns chain)) chain_fields shape.chains,
      lines-map body_tokens body_fields shape.body,
    ) refl

-- what passes so far, and one more
pub fit-next : {A : Type 0} (p : A → Bool) (xs : List A) (i : ℕ) (d : A) → i < length xs → list_all p (take i xs) ≡ true → p (get_or xs i d) ≡ true → list_all p (take (i + 1) xs) ≡ true
fit-next p xs i d lt before here = rw (list_all_more p xs i d lt, before) here

pub fit-found : {A : Type 0} (p : A → Bool) (xs : List A) (i : ℕ) (x : A) → i < length xs → x ≡ get_or xs i x → list_all p (take i xs) ≡ true → p x ≡ true → list_all p (take (i + 1) xs) ≡ true
fit-found p xs i x lt is before here = fit-next p xs i x lt before (ap p (sym is) ∙ here)

pub fit-all : {A : Type 0} (p : A → Bool) (xs : List A) (i : ℕ) → length xs ≤ i → list_all p (take i xs) ≡ true → list_all p xs ≡ true
fit-all p xs i le before = ap (list_all p) (sym (take_all i xs le)) ∙ before

-- pairs whose numbers are below 2^64, as they are written
abbrev pub is_small_edge : EdgeProducts → Bool
is_small_edge edge = are_small (Number edge.differs ∷ Number edge.within ∷ [])

pub edge-fits : (a b : ℕ) → nat_lt a (2 ^ 64) ≡ true → nat_lt b (2 ^ 64) ≡ true → are_small (Number a ∷ Number b ∷ []) ≡ true
edge-fits a b differs within = rw (differs, within) refl

edges_fit-by : (a b r : Bool) → ((a && (b && true)) && r) ≡ (a && (b && r))
edges_fit-by true true r = refl
edges_fit-by _ _ r = refl

pub edges_fit : (edges : List EdgeProducts) → list_all is_small_edge edges ≡ are_small (edge_tokens edges)
unfolding edge_tokens
edges_fit [] = refl
edges_fit (edge ∷ edges) = rw (edges_fit edges) (edges_fit-by (nat_lt edge.differs (2 ^ 64)) (nat_lt edge.within (2 ^ 64)) (are_small (edge_tokens edges)))

-- all lines of a certificate, as a program holds them
pub shape_fits : (shape : CertificateShape) → list_all (λ node. are_small (node_tokens node)) shape.nodes ≡ true → list_all (λ chain. are_small (chain_tokens (chain_fields chain))) shape.chains ≡ true →
    list_all (λ row. are_small (row_tokens row)) shape.products ≡ true → list_all (λ line. are_small (body_tokens (body_fields line))) shape.body ≡ true → nat_lt shape.end.row (2 ^ 64) ≡ true →
    numbers_fit (certificate_fields shape) ≡ true
shape_fits shape nodes chains rows body end =
    rw (
      nodes,
      list_all-map (λ (chain : ChainFields). are_small (chain_tokens chain)) chain_fields shape.chains,
      chains,
      rows,
      list_all-map (λ (line : BodyFields). are_small (body_tokens line)) body_fields shape.body,
      body,
      end,
    ) refl
