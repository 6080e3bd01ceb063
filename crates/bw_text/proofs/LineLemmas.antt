-- How a text is cut into lines, one line at a time.
use Rattle.std.proofs.Common.{◌≡◌, ℕ, ◌+◌, Bool, true, false, List, [], ◌∷◌, take, drop, refl, ap}
use Rattle.std.proofs.Common.{◌∙◌, cond, arith, suc, not, ◌<◌, length, Some, None, position, ◌≤◌}
use Rattle.std.proofs.Common.{◌++◌, inl, inr, subst, eqb-true, ltb-false, ltb-true, take_all}
use Rattle.std.proofs.Common.{drop_of_length-le}
use Rattle.std.specs.List.{before_first, after_first, position_or_len, list_all}
use Rattle.std.proofs.lemmas.Option.{cond_some}
use Rattle.bw_text.specs.Lines.{cut_lines, with_first, is_line_feed, is_skipped, words_of}
use Rattle.bw_text.specs.Lines.{numbered_from, numbered_words, NumberedWords, IsFirstLine}

-- one byte more in front, at the list of lines that the rest is cut into
lines_with : Bool → ℕ → List (List ℕ) → List (List ℕ)
lines_with true c lines = [] ∷ lines
lines_with false c lines = with_first c lines

cut_lines-by : (c : ℕ) (cs : List ℕ) → cut_lines (c ∷ cs) ≡ lines_with (is_line_feed c) c (cut_lines cs)
unfolding cut_lines lines_with
cut_lines-by c cs =
    elim (is_line_feed c) as (λ b. cond b ([] ∷ cut_lines cs) (with_first c (cut_lines cs)) ≡ lines_with b c (cut_lines cs)) [ true ↦ refl | false ↦ refl ]

-- the first line and the rest, by whether the first byte is a line feed, and by where the next one
-- stands
first_and_rest : Bool → ℕ → ℕ → List ℕ → List (List ℕ)
first_and_rest b n c cs = take (cond (not b) (1 + n) 0) (c ∷ cs) ∷ cut_lines (drop (cond (not b) (1 + n) 0 + 1) (c ∷ cs))

by_cases : (b : Bool) (c : ℕ) (cs : List ℕ) (n : ℕ) → cut_lines cs ≡ take n cs ∷ cut_lines (drop (n + 1) cs) → lines_with b c (cut_lines cs) ≡ first_and_rest b n c cs
unfolding lines_with first_and_rest
by_cases true c cs n e = refl
by_cases false c cs n e =
    let one : 1 + n ≡ suc n = omega arith in
    let two : suc n + 1 ≡ suc (n + 1) = omega arith in
    rw (e, one, two) refl

at_last : (b : Bool) (c : ℕ) → lines_with b c (cut_lines []) ≡ first_and_rest b 0 c []
unfolding lines_with first_and_rest cut_lines
at_last true c = refl
at_last false c = refl

-- a text that isn't empty begins with the line before its first line feed, and the other lines come
-- after
pub cut_lines-cons : (c : ℕ) (cs : List ℕ) → cut_lines (c ∷ cs) ≡ before_first is_line_feed (c ∷ cs) ∷ cut_lines (after_first is_line_feed (c ∷ cs))
unfolding first_and_rest
cut_lines-cons c [] = cut_lines-by c [] ∙ at_last (is_line_feed c) c
cut_lines-cons c (d ∷ ds) =
    cut_lines-by c (d ∷ ds) ∙ by_cases (is_line_feed c) c (d ∷ ds) (position_or_len is_line_feed (d ∷ ds)) (cut_lines-cons d ds)

-- the same, by the place of the first line feed
pub cut_at : (text : List ℕ) (at : ℕ) → 0 < length text → position is_line_feed text ≡ Some at → cut_lines text ≡ take at text ∷ cut_lines (drop (at + 1) text)
cut_at [] at h e = absurd (omega arith)
cut_at (c ∷ cs) at h e =
    let found : position_or_len is_line_feed (c ∷ cs) ≡ at = (cond_some _ _ _ e).1 in
    cut_lines-cons c cs ∙ ap (λ n. take n (c ∷ cs) ∷ cut_lines (drop (n + 1) (c ∷ cs))) found

not_found : (b : Bool) (n : ℕ) → cond b (Some n) None ≡ None → b ≡ false
not_found true n e = cc
not_found false n e = refl

-- a text with no line feed is one line
pub cut_whole : (text : List ℕ) → 0 < length text → position is_line_feed text ≡ None → cut_lines text ≡ text ∷ []
unfolding cut_lines
cut_whole [] h e = absurd (omega arith)
cut_whole (c ∷ cs) h e =
    let past : length (c ∷ cs) ≤ position_or_len is_line_feed (c ∷ cs) = ltb-false _ _ (not_found _ _ e) in
    let more : length (c ∷ cs) ≤ position_or_len is_line_feed (c ∷ cs) + 1 = omega arith in
    cut_lines-cons c cs ∙ rw (take_all (position_or_len is_line_feed (c ∷ cs)) (c ∷ cs) past, drop_of_length-le (c ∷ cs) more) refl

-- a line that says something comes first, and one that is skipped doesn't come
pub numbered_from-said : (n : ℕ) (lines : List (List ℕ)) (line : List ℕ) (rest : List (List ℕ)) → lines ≡ line ∷ rest → is_skipped (words_of line) ≡ false
    → numbered_from n lines ≡ record { number = n; words = words_of line } ∷ numbered_from (n + 1) rest
unfolding numbered_from
numbered_from-said n lines line rest e said = rw (e, said) refl

pub numbered_from-skipped : (n : ℕ) (lines : List (List ℕ)) (line : List ℕ) (rest : List (List ℕ)) → lines ≡ line ∷ rest → is_skipped (words_of line) ≡ true
    → numbered_from n lines ≡ numbered_from (n + 1) rest
unfolding numbered_from
numbered_from-skipped n lines line rest e skipped = rw (e, skipped) refl

-- each line counts
pub count_more : (n : ℕ) (lines : List (List ℕ)) (line : List ℕ) (rest : List (List ℕ)) → lines ≡ line ∷ rest → n + length lines ≡ n + 1 + length rest
count_more n lines line rest e = rw e (omega arith)

-- an empty text has no lines
pub cut_nothing : (text : List ℕ) → length text ≡ 0 → cut_lines text ≡ []
unfolding cut_lines
cut_nothing [] e = refl
cut_nothing (c ∷ cs) e = absurd (omega arith)

pub nothing_in : (n : ℕ) (text : List ℕ) → length text ≡ 0 → (numbered_from n (cut_lines text) ≡ []) × (n + length (cut_lines text) ≡ n)
unfolding numbered_from cut_lines
nothing_in n [] e = (refl, omega arith)
nothing_in n (c ∷ cs) e = absurd (omega arith)

-- the same words, in front of other lines
pub cons-words : (n : ℕ) (w v : List (List ℕ)) (rest : List NumberedWords) → w ≡ v → numbered_words n w ∷ rest ≡ numbered_words n v ∷ rest
cons-words n w v rest e = ap (λ (x : List (List ℕ)). numbered_words n x ∷ rest) e

-- before the first line feed there is none, and after it comes the rest

before_by : (b : Bool) (c : ℕ) (cs : List ℕ) (n : ℕ) → is_line_feed c ≡ b → list_all (λ x. not (is_line_feed x)) (take n cs) ≡ true
    → list_all (λ x. not (is_line_feed x)) (take (cond (not b) (1 + n) 0) (c ∷ cs)) ≡ true
before_by true c cs n e rest = refl
before_by false c cs n e rest =
    let one : 1 + n ≡ suc n = omega arith in
    rw (one, e) rest

pub none_before : (text : List ℕ) → list_all (λ c. not (is_line_feed c)) (take (position_or_len is_line_feed text) text) ≡ true
none_before [] = refl
none_before (c ∷ cs) = before_by (is_line_feed c) c cs (position_or_len is_line_feed cs) refl (none_before cs)

split_by : (b : Bool) (c : ℕ) (cs : List ℕ) (n : ℕ) → is_line_feed c ≡ b → (n < length cs → cs ≡ take n cs ++ (10 ∷ drop (n + 1) cs))
    → cond (not b) (1 + n) 0 < length (c ∷ cs) → c ∷ cs ≡ take (cond (not b) (1 + n) 0) (c ∷ cs) ++ (10 ∷ drop (cond (not b) (1 + n) 0 + 1) (c ∷ cs))
split_by true c cs n e after h = ap (λ x. x ∷ cs) (eqb-true _ _ e)
split_by false c cs n e after h =
    let one : 1 + n ≡ suc n = omega arith in
    let two : suc n + 1 ≡ suc (n + 1) = omega arith in
    rw (one, two) (ap (λ xs. c ∷ xs) (after (omega arith)))

pub fed_at : (text : List ℕ) → position_or_len is_line_feed text < length text
    → text ≡ take (position_or_len is_line_feed text) text ++ (10 ∷ drop (position_or_len is_line_feed text + 1) text)
fed_at [] h = absurd (omega arith)
fed_at (c ∷ cs) h = split_by (is_line_feed c) c cs (position_or_len is_line_feed cs) refl (fed_at cs) h

-- the line ends at the first line feed; a text with none is one line
pub first_at : (text : List ℕ) (at : ℕ) → position is_line_feed text ≡ Some at → IsFirstLine text (take at text) (drop (at + 1) text)
first_at text at e =
    let found = cond_some _ _ _ e in
    let same : position_or_len is_line_feed text ≡ at = found.1 in
    let within : position_or_len is_line_feed text < length text = ltb-true _ _ found.0 in (
      subst (λ n. list_all (λ c. not (is_line_feed c)) (take n text) ≡ true) same (none_before text),
      inl (subst (λ n. text ≡ take n text ++ (10 ∷ drop (n + 1) text)) same (fed_at text within)),
    )

pub first_whole : (text : List ℕ) → position is_line_feed text ≡ None → IsFirstLine text text []
first_whole text e =
    let past : length text ≤ position_or_len is_line_feed text = ltb-false _ _ (not_found _ _ e) in
    (subst (λ line. list_all (λ c. not (is_line_feed c)) line ≡ true) (take_all (position_or_len is_line_feed text) text past) (none_before text), inr (refl, refl))
