-- How a text is cut: which piece is the longest, step by step, in one way, and each text.
use Rattle.std.proofs.Common.{◌==◌, ◌≡◌, ℕ, suc, ◌≤◌, Bool, true, false, List, [], ◌∷◌, ◌++◌}
use Rattle.std.proofs.Common.{length, take, drop, refl, sym, ◌∙◌, ap, subst, arith, zero, ◌+◌, ◌-◌}
use Rattle.std.proofs.Common.{◌<◌, if◌then◌else◌, Option, Some, None, append_assoc, option_map}
use Rattle.std.specs.List.{list_all, prefix_len, take_while}
use Rattle.std.specs.Char.{is_ascii_digit}
use Rattle.std.proofs.lemmas.Bool.{both_ways, and_parts, and_from, eqb-true}
use Rattle.std.proofs.lemmas.Bool.Decides.{nat_tests}
use Rattle.std.proofs.lemmas.List.{take-append-drop, length-append, map-append}
use Rattle.std.proofs.lemmas.List.Sums.{take_while-cons}
use Rattle.bw_text.specs.Keyword.{keyword_of}
use Rattle.bw_text.specs.Text.{begins_word, goes_on_in_word, is_word}
use Rattle.bw_sql.specs.Piece.{Piece, Gap, Token, IsPiece, IsDelimiter, IsLongest}
use Rattle.bw_sql.specs.Piece.{IsLongestDelimiter, BeginsNoPiece, BeginsNoDelimiter, is_blank}
use Rattle.bw_sql.specs.Piece.{is_in_comment, begins_comment, BeginsNone, IsLongestOf}
use Rattle.bw_sql.specs.Token.{Lexeme, Name, Digits, Reserved, Compare, Punct, word_lexeme}
use Rattle.bw_sql.proofs.Cases.{bool_cases, option_cases}
use Rattle.bw_sql.proofs.Spellings.{follows, is_run, known, NoLong, delimiter_of, found, is_gap}
use Rattle.bw_sql.proofs.Spellings.{no_long_at_end, long_longest, short_longest, none_begins}
use Rattle.std.proofs.Math.Seq.{take-append_seam, drop-append_seam}
use Rattle.bw_text.specs.Number.{are_digits}
use Rattle.bw_sql.specs.declared.token.PlacedToken.{PlacedToken}
use Rattle.bw_sql.specs.Cut.{IsCut, Spot, spot, spots, ended, stopped, gap, token}

-- all of what passes from the front on passes
pub all_run : (p : ℕ → Bool) (xs : List ℕ) → list_all p (take_while p xs) ≡ true
all_run p [] = refl
all_run p (x ∷ xs) = rw take_while-cons (bool_cases (p x) (λ e. rw e (and_from _ _ e (all_run p xs))) (λ e. rw e refl))

-- no front that passes is longer
pub run_most : (p : ℕ → Bool) (xs ys : List ℕ) → list_all p xs ≡ true → length xs ≤ length (take_while p (xs ++ ys))
run_most p [] ys h = omega arith
run_most p (x ∷ xs) ys h =
    let parts = and_parts (p x) (list_all p xs) h in
    let more : length xs ≤ length (take_while p (xs ++ ys)) = run_most p xs ys parts.1 in
    rw (take_while-cons, parts.0) (omega arith)

pub run_from : (p : ℕ → Bool) (c : ℕ) (rest : List ℕ) → p c ≡ true → take_while p (c ∷ rest) ≡ c ∷ take_while p rest
run_from p c rest h = rw (take_while-cons, h) refl

-- no byte is of two kinds, and one that begins a word may stand in it
word_only : (c : ℕ) → begins_word c ≡ true → (is_blank c ≡ false) × (goes_on_in_word c ≡ true)
word_only c w = (grind (arith, nat_tests), grind (arith, nat_tests))

pub digit_only : (c : ℕ) → is_ascii_digit c ≡ true → (is_blank c ≡ false) × (begins_word c ≡ false)
digit_only c d = (grind (arith, nat_tests), grind (arith, nat_tests))

-- a piece continues as its first byte says
word_run : (bytes : List ℕ) → is_word bytes ≡ true → is_run bytes ≡ true
word_run [] h = cc
word_run (c ∷ tail) h =
    let p = and_parts (begins_word c) (list_all goes_on_in_word tail) h in rw ((word_only c p.0).0, p.0) p.1

pub piece_run : (bytes : List ℕ) (piece : Piece) → IsPiece bytes piece → is_run bytes ≡ true
piece_run [] Gap h = absurd h
piece_run (c ∷ []) Gap h = refl
piece_run (c ∷ d ∷ inside) Gap h =
    subst (λ c. is_run (c ∷ d ∷ inside) ≡ true) (sym h.0) (subst (λ d. is_run (45 ∷ d ∷ inside) ≡ true) (sym h.1) h.2)
piece_run bytes (Token (Name text)) h = word_run bytes h.1
piece_run bytes (Token (Reserved w)) h = word_run bytes h.0
piece_run [] (Token (Digits text)) h = cc
piece_run (c ∷ tail) (Token (Digits text)) h =
    let p = and_parts (is_ascii_digit c) (list_all is_ascii_digit tail) h.1 in
    let only = digit_only c p.0 in rw (only.0, only.1, p.0) p.1
piece_run bytes (Token (Compare op)) h = (known (Compare op) bytes h).run
piece_run bytes (Token (Punct mark)) h = (known (Punct mark) bytes h).run

longest_run : (c : ℕ) (rest other after : List ℕ) (any : Piece) → c ∷ rest ≡ other ++ after → IsPiece other any →
    length other ≤ suc (length (take_while (follows c) rest))
longest_run c rest [] after any e h = omega arith
longest_run c rest (d ∷ tail) after any e h =
    let same : d ≡ c = cc in
    let tails : rest ≡ tail ++ after = cc in
    let most = run_most (follows c) tail after (subst (λ d. is_run (d ∷ tail) ≡ true) same (piece_run (d ∷ tail) any h)) in
    rw tails (omega arith)

none_run : (p : ℕ → Bool) (xs : List ℕ) → ((x : ℕ) → p x ≡ false) → length (take_while p xs) ≡ 0
none_run p [] h = refl
none_run p (x ∷ xs) h = rw (take_while-cons, h x) refl

pub blank_longest : (text : List ℕ) (c : ℕ) (rest : List ℕ) → text ≡ c ∷ rest → is_blank c ≡ true → IsLongest text rest Gap
blank_longest text c rest e b = record {
  front = c ∷ [];
  cut = e;
  is = b;
  longest = λ other after any g is.
      omega (arith, none_run (follows c) rest (λ x. rw b refl), longest_run c rest other after any (sym e ∙ g) is);
}

-- a text that is split after the bytes that pass
pub record Split (p : ℕ → Bool) (text front back : List ℕ) : Type 0 where
  pub front_is : front ≡ take_while p text
  pub cut : text ≡ front ++ back

pub split : (p : ℕ → Bool) (n : ℕ) (text front back : List ℕ) → n ≡ prefix_len p text → front ≡ take n text →
    back ≡ drop n text → Split p text front back
split p n text front back is f b = record {
  front_is = f ∙ ap (λ k. take k text) is;
  cut = sym (take-append-drop n text) ∙ (rw (f, b) refl);
}

-- a word is the piece that its bytes are
word_piece : (bytes : List ℕ) → is_word bytes ≡ true → IsPiece bytes (Token (word_lexeme bytes))
word_piece bytes h = option_cases (keyword_of bytes) (λ e. rw e (refl, h, e)) (λ w e. rw e (h, e))

-- the front that passes is the longest piece, if it is one whose bytes may follow the first
split_longest : (p : ℕ → Bool) (text : List ℕ) (c : ℕ) (rest front back : List ℕ) (piece : Piece) → text ≡ c ∷ rest → p c ≡ true →
    take_while (follows c) rest ≡ take_while p rest → Split p text front back →
    (front ≡ c ∷ take_while p rest → IsPiece front piece) → IsLongest text back piece
split_longest p text c rest front back piece e h same cut is =
    let shape : front ≡ c ∷ take_while p rest = cut.front_is ∙ ap (take_while p) e ∙ run_from p c rest h in
    record {
      front = front;
      cut = cut.cut;
      is = is shape;
      longest = λ other after any g i.
          omega (arith, ap length shape, ap length same, longest_run c rest other after any (sym e ∙ g) i);
    }

pub word_longest : (text : List ℕ) (c : ℕ) (rest front back : List ℕ) (t : Lexeme) →
    text ≡ c ∷ rest → begins_word c ≡ true → Split goes_on_in_word text front back →
    t ≡ word_lexeme front → IsLongest text back (Token t)
word_longest text c rest front back t e w cut is =
    let only = word_only c w in
    split_longest goes_on_in_word text c rest front back (Token t) e only.1 (rw (only.0, w) refl) cut
    (λ shape. rw is (word_piece front (rw shape (and_from _ _ w (all_run goes_on_in_word rest)))))

pub digits_longest : (text : List ℕ) (c : ℕ) (rest front back : List ℕ) →
    text ≡ c ∷ rest → is_ascii_digit c ≡ true → Split is_ascii_digit text front back →
    IsLongest text back (Token (Digits front))
digits_longest text c rest front back e d cut =
    let only = digit_only c d in
    split_longest is_ascii_digit text c rest front back (Token (Digits front)) e d (rw (only.0, only.1, d) refl) cut
    (λ shape. (refl, rw shape (and_from _ _ d (all_run is_ascii_digit rest))))

pub comment_longest : (text : List ℕ) (c : ℕ) (rest front back : List ℕ) →
    text ≡ c ∷ rest → begins_comment text ≡ true → Split is_in_comment text front back → IsLongest text back Gap
comment_longest text c [] front back e begins cut =
    absurd (let h : begins_comment (c ∷ []) ≡ true = sym (ap begins_comment e) ∙ begins in cc)
comment_longest text c (d ∷ rest) front back e begins cut =
    let dashes = and_parts (c == 45) (d == 45) (sym (ap begins_comment e) ∙ begins) in
    let first : c ≡ 45 = eqb-true c 45 dashes.0 in
    let second : d ≡ 45 = eqb-true d 45 dashes.1 in
    let passes : is_in_comment d ≡ true = rw second refl in
    split_longest is_in_comment text c (d ∷ rest) front back Gap e (rw first refl)
    (ap (λ c. take_while (follows c) (d ∷ rest)) first) cut
    (λ shape. rw (shape, run_from is_in_comment d rest passes) (first, second, all_run is_in_comment rest))

as_piece : (bytes : List ℕ) (t : Lexeme) → IsDelimiter bytes t → IsPiece bytes (Token t)
as_piece bytes (Compare op) h = h
as_piece bytes (Punct mark) h = h
as_piece bytes _ h = absurd h

-- a byte of no other kind begins a comment or a delimiter
module _ (text : List ℕ) (c : ℕ) (rest : List ℕ) (e : text ≡ c ∷ rest) (b : is_blank c ≡ false) (w : begins_word c ≡ false)
    (d : is_ascii_digit c ≡ false) (n : begins_comment text ≡ false) where
  delimiter_at : (tail after : List ℕ) (any : Piece) → rest ≡ tail ++ after → IsPiece (c ∷ tail) any →
      (t : Lexeme) × IsDelimiter (c ∷ tail) t
  delimiter_at [] after Gap g h = absurd (both_ways (is_blank c) b h)
  delimiter_at (x ∷ inside) after Gap g h =
      absurd (both_ways (begins_comment (c ∷ rest)) (ap begins_comment (sym e) ∙ n) (rw (g, h.0, h.1) refl))
  delimiter_at tail after (Token (Name text)) g h = absurd (both_ways (begins_word c) w (and_parts _ _ h.1).0)
  delimiter_at tail after (Token (Reserved v)) g h = absurd (both_ways (begins_word c) w (and_parts _ _ h.0).0)
  delimiter_at tail after (Token (Digits text)) g h = absurd (both_ways (is_ascii_digit c) d (and_parts _ _ h.1).0)
  delimiter_at tail after (Token (Compare op)) g h = (Compare op, h)
  delimiter_at tail after (Token (Punct mark)) g h = (Punct mark, h)

  delimiter_only : (other after : List ℕ) (any : Piece) → text ≡ other ++ after → IsPiece other any →
      (t : Lexeme) × IsDelimiter other t
  delimiter_only [] after any g h = let none = piece_run [] any h in cc
  delimiter_only (x ∷ tail) after any g h =
      let f : c ∷ rest ≡ x ∷ (tail ++ after) = sym e ∙ g in
      let same : c ≡ x = cc in let tails : rest ≡ tail ++ after = cc in
      subst (λ x. IsPiece (x ∷ tail) any → (t : Lexeme) × IsDelimiter (x ∷ tail) t) same (delimiter_at tail after any tails) h

  pub delimiter_longest : (back : List ℕ) (t : Lexeme) → IsLongestDelimiter text back t → IsLongest text back (Token t)
  delimiter_longest back t best = record {
    front = best.front;
    cut = best.cut;
    is = as_piece best.front t best.is;
    longest = λ other after any g is. let found = delimiter_only other after any g is in best.longest other after found.0 g found.1;
  }

  pub no_piece : BeginsNoDelimiter text → BeginsNoPiece text
  no_piece none front after any g is = let found = delimiter_only front after any g is in none front after found.0 g found.1

pub ended_at : (at : ℕ) (rest : List ℕ) → length rest ≡ 0 → IsCut at rest [] None
ended_at at [] e = ended
ended_at at (c ∷ rest) e = absurd (omega arith)

-- the tokens from a piece on
abbrev pub pushed : Piece → ℕ → List Spot → List Spot
pushed Gap at tokens = tokens
pushed (Token t) at tokens = record { token = t; at = at } ∷ tokens

cut_on : (at : ℕ) (text rest : List ℕ) (tokens : List Spot) (stop : Option ℕ) (p : Piece) (longest : IsLongest text rest p) →
    IsCut (at + length longest.front) rest tokens stop → IsCut at text (pushed p at tokens) stop
cut_on at text rest tokens stop Gap longest cut = gap longest cut
cut_on at text rest tokens stop (Token t) longest cut = token t longest cut

pub cut_step : (n : ℕ) (rest after : List ℕ) (tokens : List Spot) (stop : Option ℕ) (p : Piece) → length rest ≤ n →
    IsLongest rest after p → IsCut (n - length after) after tokens stop →
    IsCut (n - length rest) rest (pushed p (n - length rest) tokens) stop
cut_step n rest after tokens stop p h longest cut =
    let place : n - length after ≡ (n - length rest) + length longest.front =
    omega (arith, ap length longest.cut, length-append longest.front after) in
    cut_on (n - length rest) rest after tokens stop p longest (subst (λ at. IsCut at after tokens stop) place cut)

-- a piece has a byte or more
some_front : (front : List ℕ) (piece : Piece) → IsPiece front piece → 0 < length front
some_front [] piece h = let none = piece_run [] piece h in cc
some_front (c ∷ front) piece h = omega arith

pub shrinks : (rest after : List ℕ) (piece : Piece) → IsLongest rest after piece → length after < length rest
shrinks rest after piece longest =
    let some = some_front longest.front piece longest.is in
    omega (arith, ap length longest.cut, length-append longest.front after)

pub spots_push : (xs ys : List PlacedToken) (placed : PlacedToken) (tokens : List Spot) → ys ≡ xs ++ placed ∷ [] →
    spots ys ++ tokens ≡ spots xs ++ spot placed ∷ tokens
spots_push xs ys placed tokens e = rw (e, map-append, append_assoc) refl

-- two fronts of a text that are as long are the same
same_front : (front other rest after : List ℕ) → front ++ rest ≡ other ++ after → length front ≡ length other →
    (front ≡ other) × (rest ≡ after)
same_front front other rest after e h =
    let fronts : front ≡ other = sym (take-append_seam front rest) ∙ (rw (h, e) (take-append_seam other after)) in
    (fronts, sym (drop-append_seam front rest) ∙ (rw (h, e) (drop-append_seam other after)))

-- the piece that bytes are
piece_of : List ℕ → Option Piece
piece_of bytes =
    if is_word bytes then Some (Token (word_lexeme bytes)) else (if are_digits bytes then Some (Token (Digits bytes))
    else (if is_gap bytes then Some Gap else option_map Token (delimiter_of bytes)))

blank_only : (c : ℕ) → is_blank c ≡ true → (begins_word c ≡ false) × (is_ascii_digit c ≡ false)
blank_only c b = (grind (arith, nat_tests), grind (arith, nat_tests))

delimiter_is : (t : Lexeme) (bytes : List ℕ) → IsDelimiter bytes t → piece_of bytes ≡ Some (Token t)
unfolding piece_of
delimiter_is t bytes h = let k = known t bytes h in rw (k.no_word, k.no_digits, k.no_gap, k.of) refl

of_its_bytes : (bytes : List ℕ) (p : Piece) → IsPiece bytes p → piece_of bytes ≡ Some p
unfolding piece_of
of_its_bytes bytes (Token (Name text)) h = rw (h.1, h.2, h.0) refl
of_its_bytes bytes (Token (Reserved w)) h = rw (h.0, h.1) refl
of_its_bytes [] (Token (Digits text)) h = cc
of_its_bytes (c ∷ tail) (Token (Digits text)) h =
    let d = and_parts (is_ascii_digit c) (list_all is_ascii_digit tail) h.1 in rw ((digit_only c d.0).1, h.1, h.0) refl
of_its_bytes bytes (Token (Compare op)) h = delimiter_is (Compare op) bytes h
of_its_bytes bytes (Token (Punct mark)) h = delimiter_is (Punct mark) bytes h
of_its_bytes [] Gap h = absurd h
of_its_bytes (c ∷ []) Gap h = rw ((blank_only c h).0, (blank_only c h).1, h) refl
of_its_bytes (c ∷ d ∷ inside) Gap h = rw (h.0, h.1) refl

one_piece : (bytes : List ℕ) (p q : Piece) → IsPiece bytes p → IsPiece bytes q → p ≡ q
one_piece bytes p q h g = let both : Some p ≡ Some q = sym (of_its_bytes bytes p h) ∙ of_its_bytes bytes q g in cc

-- the longest piece is one
one_longest : (text rest after : List ℕ) (p q : Piece) (a : IsLongest text rest p) (b : IsLongest text after q) →
    (p ≡ q) × (a.front ≡ b.front) × (rest ≡ after)
one_longest text rest after p q a b =
    let up = a.longest b.front after q b.cut b.is in
    let down = b.longest a.front rest p a.cut a.is in
    let same = same_front a.front b.front rest after (sym a.cut ∙ b.cut) (omega arith) in
    (one_piece b.front p q (subst (λ bytes. IsPiece bytes p) same.0 a.is) b.is, same.0, same.1)

-- a cut is at its end if no piece begins, and else continues after the longest
abbrev end_of : ℕ → List ℕ → Option ℕ
end_of at [] = None
end_of at (c ∷ rest) = Some at

stops_there : {at : ℕ} {text : List ℕ} {tokens : List Spot} {stop : Option ℕ} → IsCut at text tokens stop →
    ((rest : List ℕ) (p : Piece) → IsLongest text rest p → ⊥) → (tokens ≡ []) × (stop ≡ end_of at text)
stops_there ended none = (refl, refl)
stops_there (stopped {text = []} h n) none = absurd (omega arith)
stops_there (stopped {text = c ∷ rest} h n) none = (refl, refl)
stops_there (gap b more) none = absurd (none _ Gap b)
stops_there (token u b more) none = absurd (none _ (Token u) b)

moved : (at n m : ℕ) (after rest : List ℕ) (tokens : List Spot) (stop : Option ℕ) → n ≡ m → after ≡ rest →
    IsCut (at + n) after tokens stop → IsCut (at + m) rest tokens stop
moved at n m after rest tokens stop e f cut = rw (e, f) at cut

goes_on : {at : ℕ} {text : List ℕ} {tokens : List Spot} {stop : Option ℕ} → IsCut at text tokens stop → (rest : List ℕ) (p : Piece)
    (a : IsLongest text rest p) →
    (others : List Spot) × IsCut (at + length a.front) rest others stop × (tokens ≡ pushed p at others)
goes_on ended rest p a = absurd (omega (arith, shrinks [] rest p a))
goes_on (stopped h none) rest p a = absurd (none a.front rest p a.cut a.is)
goes_on (gap {at = at} {tokens = tokens} b more) rest p a =
    let same = one_longest _ _ rest Gap p b a in
    (tokens, moved at _ _ _ rest tokens _ (ap length same.1) same.2 more, ap (λ q. pushed q at tokens) same.0)
goes_on (token {at = at} {tokens = tokens} u b more) rest p a =
    let same = one_longest _ _ rest (Token u) p b a in
    (tokens, moved at _ _ _ rest tokens _ (ap length same.1) same.2 more, ap (λ q. pushed q at tokens) same.0)

-- what is left after a gap has no token if the text has none
pub bare_after : (n : ℕ) (text rest : List ℕ) → length text ≤ n → (a : IsLongest text rest Gap)
    → IsCut (n - length text) text [] None → IsCut (n - length rest) rest [] None
bare_after n text rest h a cut =
    let q = goes_on cut rest Gap a in
    let place : (n - length text) + length a.front ≡ n - length rest =
    omega (arith, ap length a.cut, length-append a.front rest) in
    subst (λ at. IsCut at rest [] None) place (subst (λ tokens. IsCut ((n - length text) + length a.front) rest tokens None) (sym q.2) q.1)

-- a text that begins with a token has one
pub token_first : (at : ℕ) (text rest : List ℕ) (t : Lexeme) → IsCut at text [] None → IsLongest text rest (Token t) → ⊥
token_first at text rest t cut a = let q = goes_on cut rest (Token t) a in let e = q.2 in cc

-- a text that no piece begins isn't cut to its end
pub none_first : (at : ℕ) (text : List ℕ) → IsCut at text [] None → 0 < length text → BeginsNoPiece text → ⊥
none_first at [] cut some none = omega arith
none_first at (c ∷ text) cut some none =
    let s = stops_there cut (λ rest p a. none a.front rest p a.cut a.is) in let e = s.1 in cc

pub one_cut_of : (at : ℕ) (text : List ℕ) (tokens others : List Spot) (stop other : Option ℕ) → IsCut at text tokens stop →
    IsCut at text others other → (tokens ≡ others) × (stop ≡ other)
one_cut_of at text tokens others stop other ended b =
    let s = stops_there b (λ rest p a. omega (arith, shrinks [] rest p a)) in (sym s.0, sym s.1)
one_cut_of at [] tokens others stop other (stopped h none) b = absurd (omega arith)
one_cut_of at (c ∷ text) tokens others stop other (stopped h none) b =
    let s = stops_there b (λ rest p a. none a.front rest p a.cut a.is) in (sym s.0, sym s.1)
one_cut_of at text tokens others stop other (gap a cut) b =
    let q = goes_on b _ Gap a in
    let same = one_cut_of _ _ _ _ _ _ cut q.1 in (same.0 ∙ sym q.2, same.1)
one_cut_of at text tokens others stop other (token t a cut) b =
    let q = goes_on b _ (Token t) a in
    let same = one_cut_of _ _ _ _ _ _ cut q.1 in (ap (pushed (Token t) at) same.0 ∙ sym q.2, same.1)

-- the longest thing that begins a text, or none
data First {A : Type 0} (Is : List ℕ → A → Type 0) (text : List ℕ) : Type 0 where
  nothing : BeginsNone Is text → First Is text
  a_thing : (after : List ℕ) (x : A) → IsLongestOf Is text after x → First Is text

-- if some bytes aren't found, there are none
unfound : (bytes : List ℕ) → delimiter_of bytes ≡ None → (t : Lexeme) → IsDelimiter bytes t → ⊥
unfound bytes e t is = let f : Some t ≡ None = sym (known t bytes is).of ∙ e in cc

begins_short : (c : ℕ) (rest : List ℕ) → NoLong c rest → First IsDelimiter (c ∷ rest)
begins_short c rest none = option_cases (delimiter_of (c ∷ [])) (λ e. nothing (none_begins c rest none (unfound (c ∷ []) e)))
    (λ t e. a_thing rest t (short_longest (c ∷ rest) c rest t refl none (found t (c ∷ []) e)))

begins : (c : ℕ) (rest : List ℕ) → First IsDelimiter (c ∷ rest)
begins c [] = begins_short c [] (no_long_at_end c [] refl)
begins c (d ∷ after) = option_cases (delimiter_of (c ∷ d ∷ []))
    (λ e. begins_short c (d ∷ after) (λ x more t g is. let same : d ≡ x = cc in unfound (c ∷ d ∷ []) e t (rw same is)))
    (λ t e. a_thing after t (long_longest (c ∷ d ∷ after) c (d ∷ after) d after t refl refl (found t (c ∷ d ∷ []) e)))

front_where : (p : ℕ → Bool) (text : List ℕ) → Split p text (take (prefix_len p text) text) (drop (prefix_len p text) text)
front_where p text = split p (prefix_len p text) text _ _ refl refl refl

begun : (c : ℕ) (rest : List ℕ) → First IsPiece (c ∷ rest)
begun c rest =
    let text = c ∷ rest in
    bool_cases (is_blank c) (λ e. a_thing rest Gap (blank_longest text c rest refl e)) (λ b.
    bool_cases (begins_word c) (λ e. a_thing _ _ (word_longest text c rest _ _ _ refl e (front_where goes_on_in_word text) refl)) (λ w.
    bool_cases (is_ascii_digit c) (λ e. a_thing _ _ (digits_longest text c rest _ _ refl e (front_where is_ascii_digit text))) (λ d.
    bool_cases (begins_comment text) (λ e. a_thing _ Gap (comment_longest text c rest _ _ refl e (front_where is_in_comment text))) (λ n.
    by_delimiter b w d n (begins c rest)))))
  where
    by_delimiter : is_blank c ≡ false → begins_word c ≡ false → is_ascii_digit c ≡ false →
        begins_comment (c ∷ rest) ≡ false → First IsDelimiter (c ∷ rest) → First IsPiece (c ∷ rest)
    by_delimiter b w d n (nothing none) = nothing (no_piece (c ∷ rest) c rest refl b w d n none)
    by_delimiter b w d n (a_thing after t best) = a_thing after (Token t) (delimiter_longest (c ∷ rest) c rest refl b w d n after t best)

-- how a text is cut
pub record Cut (at : ℕ) (text : List ℕ) : Type 0 where
  pub tokens : List Spot
  pub stop : Option ℕ
  pub cut : IsCut at text tokens stop

cut_of : (n : ℕ) (at : ℕ) (text : List ℕ) → length text ≤ n → Cut at text
cut_of n at [] h = record { tokens = []; stop = None; cut = ended }
cut_of zero at (c ∷ rest) h = absurd (omega arith)
cut_of (suc n) at (c ∷ rest) h = go (begun c rest) (λ at text h. cut_of n at text h)
  where
    go : First IsPiece (c ∷ rest) → ((at : ℕ) (text : List ℕ) → length text ≤ n → Cut at text) → Cut at (c ∷ rest)
    go (nothing none) next = record { tokens = []; stop = Some at; cut = stopped (omega arith) none }
    go (a_thing after p longest) next =
        let others = next (at + length longest.front) after (omega (arith, shrinks (c ∷ rest) after p longest)) in
        record { tokens = pushed p at others.tokens; stop = others.stop; cut = cut_on at _ after _ _ p longest others.cut }

pub cut_of_text : (text : List ℕ) → Cut 0 text
cut_of_text text = cut_of (length text) 0 text (omega arith)
