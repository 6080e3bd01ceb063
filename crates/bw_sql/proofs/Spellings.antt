-- Reserved words and delimiters, which are comparisons and marks: which bytes they are, and which
-- is the longest.
use Rattle.std.proofs.Common.{◌≡◌, ℕ, suc, ◌≤◌, Bool, true, false, if◌then◌else◌, List, [], ◌∷◌}
use Rattle.std.proofs.Common.{◌++◌, length, Option, Some, refl, sym, ◌∙◌, ap, subst, arith, find}
use Rattle.std.proofs.Common.{bytes_eq}
use Rattle.std.specs.Char.{is_ascii_digit}
use Rattle.std.specs.List.{list_all}
use Rattle.std.proofs.lemmas.Bool.{and_parts}
use Rattle.std.proofs.lemmas.Slice.Eq.{bytes_eq-Decides}
use Rattle.bw_model.specs.declared.cond.Op.{Op}
use Rattle.bw_model.specs.declared.cond.Op.TheVariants.{Eq, Ne, Lt, Gt, Le, Ge}
use Rattle.bw_text.specs.Number.{are_digits}
use Rattle.bw_text.specs.Text.{begins_word, goes_on_in_word, is_word}
use Rattle.bw_sql.specs.declared.token.Mark.{Mark}
use Rattle.bw_sql.specs.declared.token.Mark.TheVariants.{Open, Close, Comma, Star, Semicolon, Plus}
use Rattle.bw_sql.specs.declared.token.Mark.TheVariants.{Minus}
use Rattle.bw_sql.specs.Piece.{IsDelimiter, IsLongestDelimiter, BeginsNoDelimiter, begins_comment}
use Rattle.bw_sql.specs.Piece.{comparison_spelling, is_blank, is_in_comment, is_short_delimiter}
use Rattle.bw_sql.specs.Piece.{is_long_delimiter, mark_spelling}
use Rattle.bw_sql.specs.Token.{Lexeme, Compare, Punct, Reserved}
use Rattle.bw_sql.proofs.Cases.{bool_cases}
use Rattle.bw_text.specs.declared.keyword.Keyword.{Keyword}
use Rattle.bw_text.specs.Keyword.{keyword_of, spelling}
use Rattle.bw_text.proofs.WordSpelling.{keyword_of-spelling}
use Rattle.bw_sql.specs.Reading.{same_keyword, same_mark, after_keyword, after_mark}

abbrev delimiters : List Lexeme
delimiters = Compare Eq ∷ Compare Ne ∷ Compare Lt ∷ Compare Gt ∷ Compare Le ∷ Compare Ge ∷ Punct Open ∷ Punct Close
    ∷ Punct Comma ∷ Punct Star ∷ Punct Semicolon ∷ Punct Plus ∷ Punct Minus ∷ []

abbrev bytes_of : Lexeme → List ℕ
bytes_of (Compare op) = comparison_spelling op
bytes_of (Punct mark) = mark_spelling mark
bytes_of _ = []

-- the delimiter that bytes are
pub delimiter_of : List ℕ → Option Lexeme
delimiter_of bytes = find (λ t. bytes_eq (bytes_of t) bytes) delimiters

abbrev pub is_delimiter : List ℕ → Bool
is_delimiter [] = false
is_delimiter (c ∷ []) = is_short_delimiter c
is_delimiter (c ∷ d ∷ []) = is_long_delimiter c d
is_delimiter _ = false

-- blanks and comments
abbrev pub is_gap : List ℕ → Bool
is_gap [] = false
is_gap (c ∷ []) = is_blank c
is_gap (c ∷ d ∷ inside) = begins_comment (c ∷ d ∷ inside)

-- what may follow a first byte in a piece
abbrev pub follows : ℕ → ℕ → Bool
follows c =
    if is_blank c then (λ d. false) else (if begins_word c then goes_on_in_word else (if is_ascii_digit c then is_ascii_digit
    else is_in_comment))

abbrev pub is_run : List ℕ → Bool
is_run [] = false
is_run (c ∷ tail) = list_all (follows c) tail

-- the bytes of a delimiter are those of no other, nor of another piece
pub record Known (bytes : List ℕ) (t : Lexeme) : Type 0 where
  pub of : delimiter_of bytes ≡ Some t
  pub is : is_delimiter bytes ≡ true
  pub no_word : is_word bytes ≡ false
  pub no_digits : are_digits bytes ≡ false
  pub no_gap : is_gap bytes ≡ false
  pub run : is_run bytes ≡ true

comparison_known : (op : Op) → Known (comparison_spelling op) (Compare op)
unfolding delimiter_of
comparison_known Eq = record { of = refl; is = refl; no_word = refl; no_digits = refl; no_gap = refl; run = refl }
comparison_known _ = record { of = refl; is = refl; no_word = refl; no_digits = refl; no_gap = refl; run = refl }

pub mark_known : (mark : Mark) → Known (mark_spelling mark) (Punct mark)
unfolding delimiter_of
mark_known Open = record { of = refl; is = refl; no_word = refl; no_digits = refl; no_gap = refl; run = refl }
mark_known _ = record { of = refl; is = refl; no_word = refl; no_digits = refl; no_gap = refl; run = refl }

pub known : (t : Lexeme) (bytes : List ℕ) → IsDelimiter bytes t → Known bytes t
known (Compare op) bytes h = subst (λ b. Known b (Compare op)) (sym h) (comparison_known op)
known (Punct mark) bytes h = subst (λ b. Known b (Punct mark)) (sym h) (mark_known mark)
known _ bytes h = absurd h

-- what is found passes, and is one of the list
found_in : (p q : Lexeme → Bool) (xs : List Lexeme) (x : Lexeme) → find p xs ≡ Some x → list_all q xs ≡ true →
    (p x ≡ true) × (q x ≡ true)
found_in p q [] x e h = cc
found_in p q (y ∷ ys) x e h =
    let all = and_parts (q y) (list_all q ys) h in
    bool_cases (p y) (λ b. let f = rw b at e in let same : y ≡ x = cc in subst (λ x. (p x ≡ true) × (q x ≡ true)) same (b, all.0))
    (λ b. found_in p q ys x (rw b at e) all.1)

abbrev is_one : Lexeme → Bool
is_one (Compare op) = true
is_one (Punct mark) = true
is_one _ = false

pub found : (t : Lexeme) (bytes : List ℕ) → delimiter_of bytes ≡ Some t → IsDelimiter bytes t
unfolding delimiter_of
found t bytes e = go t (found_in (λ t. bytes_eq (bytes_of t) bytes) is_one delimiters t e refl) where
  go : (t : Lexeme) → (bytes_eq (bytes_of t) bytes ≡ true) × (is_one t ≡ true) → IsDelimiter bytes t
  go (Compare op) h = sym ((bytes_eq-Decides (comparison_spelling op) bytes).0 h.0)
  go (Punct mark) h = sym ((bytes_eq-Decides (mark_spelling mark) bytes).0 h.0)
  go _ h = let f = h.1 in cc

-- no delimiter of two bytes begins with a byte and what follows it
abbrev pub NoLong : ℕ → List ℕ → Type 0
NoLong c rest = (d : ℕ) (after : List ℕ) (t : Lexeme) → rest ≡ d ∷ after → IsDelimiter (c ∷ d ∷ []) t → ⊥

pub no_long : (c : ℕ) (rest : List ℕ) (d : ℕ) (after : List ℕ) → rest ≡ d ∷ after → is_long_delimiter c d ≡ false → NoLong c rest
no_long c rest d after e h x more t g is =
    let f : d ∷ after ≡ x ∷ more = sym e ∙ g in let same : x ≡ d = cc in
    let both : true ≡ false = sym (known t (c ∷ x ∷ []) is).is ∙ (rw same h) in cc

pub no_long_at_end : (c : ℕ) (rest : List ℕ) → length rest ≡ 0 → NoLong c rest
no_long_at_end c rest e x more t g is = let f : length rest ≡ suc (length more) = ap length g in absurd (omega arith)

-- how long a delimiter is that begins the text, and which
at_most_two : (t : Lexeme) (bytes : List ℕ) → IsDelimiter bytes t → length bytes ≤ 2
at_most_two t (c ∷ d ∷ x ∷ more) h = let f = (known t (c ∷ d ∷ x ∷ more) h).is in cc
at_most_two t _ h = omega arith

pub long_longest : (text : List ℕ) (c : ℕ) (rest : List ℕ) (d : ℕ) (after : List ℕ) (t : Lexeme) → text ≡ c ∷ rest →
    rest ≡ d ∷ after →
    IsDelimiter (c ∷ d ∷ []) t → IsLongestDelimiter text after t
long_longest text c rest d after t e f h = record {
  front = c ∷ d ∷ [];
  cut = e ∙ ap (λ r. c ∷ r) f;
  is = h;
  longest = λ other rest' any g is. at_most_two any other is;
}

at_most_one : (c : ℕ) (rest : List ℕ) → NoLong c rest → (other after : List ℕ) (any : Lexeme) →
    c ∷ rest ≡ other ++ after → IsDelimiter other any →
    length other ≤ 1
at_most_one c rest none (x ∷ d ∷ []) after any g is =
    let same : x ≡ c = cc in
    let tails : rest ≡ d ∷ after = cc in
    absurd (none d after any tails (subst (λ y. IsDelimiter (y ∷ d ∷ []) any) same is))
at_most_one c rest none (x ∷ d ∷ y ∷ more) after any g is = let f = (known any (x ∷ d ∷ y ∷ more) is).is in cc
at_most_one c rest none _ after any g is = omega arith

pub short_longest : (text : List ℕ) (c : ℕ) (rest : List ℕ) (t : Lexeme) → text ≡ c ∷ rest → NoLong c rest →
    IsDelimiter (c ∷ []) t →
    IsLongestDelimiter text rest t
short_longest text c rest t e none h = record {
  front = c ∷ [];
  cut = e;
  is = h;
  longest = λ other after any g is. at_most_one c rest none other after any (sym e ∙ g) is;
}

pub none_begins : (c : ℕ) (rest : List ℕ) → NoLong c rest → ((t : Lexeme) → IsDelimiter (c ∷ []) t → ⊥) →
    BeginsNoDelimiter (c ∷ rest)
none_begins c rest none short [] after t g is = let f = (known t [] is).is in cc
none_begins c rest none short (x ∷ []) after t g is = let same : x ≡ c = cc in short t (subst (λ y. IsDelimiter (y ∷ []) t) same is)
none_begins c rest none short (x ∷ d ∷ more) after t g is =
    let most = at_most_one c rest none (x ∷ d ∷ more) after t g is in omega arith

-- a reserved word, and so a mark, is known by its spelling
pub word_same : (v w : Keyword) → same_keyword v w ≡ true → v ≡ w
word_same v w e =
    let both : Some v ≡ Some w = sym (keyword_of-spelling v) ∙ ap keyword_of ((bytes_eq-Decides (spelling v) (spelling w)).0 e)
    ∙ keyword_of-spelling w in cc

mark_same : (m n : Mark) → same_mark m n ≡ true → m ≡ n
mark_same m n e =
    let both : Some (Punct m) ≡ Some (Punct n) = sym (mark_known m).of
    ∙ ap delimiter_of ((bytes_eq-Decides (mark_spelling m) (mark_spelling n)).0 e) ∙ (mark_known n).of in cc

pub word_is : (w : Keyword) (tokens next : List Lexeme) → after_keyword w tokens ≡ Some next → tokens ≡ Reserved w ∷ next
unfolding after_keyword
word_is w (Reserved found ∷ tokens) next e = bool_cases (same_keyword found w)
    (λ b. let f = rw b at e in let same : tokens ≡ next = cc in rw (word_same found w b, same) refl) (λ b. let f = rw b at e in cc)
word_is w _ next e = cc

pub mark_is : (m : Mark) (tokens next : List Lexeme) → after_mark m tokens ≡ Some next → tokens ≡ Punct m ∷ next
unfolding after_mark
mark_is m (Punct found ∷ tokens) next e = bool_cases (same_mark found m)
    (λ b. let f = rw b at e in let same : tokens ≡ next = cc in rw (mark_same found m b, same) refl) (λ b. let f = rw b at e in cc)
mark_is m _ next e = cc
