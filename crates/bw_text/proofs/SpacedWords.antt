-- A line that is written of plain words is cut into these words.
use Rattle.std.proofs.Common.{◌≡◌, ◌∙◌, refl, sym, ap, ℕ, zero, suc, ◌+◌, ◌-◌, ◌<◌, Bool, true}
use Rattle.std.proofs.Common.{false, not, ◌==◌, List, [], ◌∷◌, ◌++◌, length, filter, nat_lt, get_or}
use Rattle.std.proofs.Common.{append_assoc, arith, append-nil}
use Rattle.std.specs.List.{list_all, slice_split, onto_first}
use Rattle.std.proofs.lemmas.Bool.{and_parts, ne_eqb, ltb-true, lt-ltb}
use Rattle.std.proofs.lemmas.Bool.Decides.{nat_tests}
use Rattle.std.proofs.lemmas.List.Folds.{list_all-append}
use Rattle.std.proofs.lemmas.List.Splits.{slice_split-cons_no, slice_split-cons_yes}
use Rattle.bw_text.specs.Lines.{is_empty, is_blank, cut_lines, words_of, begins_comment}
use Rattle.bw_text.specs.Lines.{numbered_from, numbered_words}
use Rattle.bw_text.specs.Printing.{is_above_blank, is_plain_word, line_text, spaced_words}
use Rattle.bw_text.specs.Text.{begins_word, goes_on_in_word, is_word}
use Rattle.bw_text.proofs.LineLemmas.{numbered_from-said, numbered_from-skipped}

-- a byte of a line, which is above those of ends of lines
abbrev pub is_inside : ℕ → Bool
is_inside c = nat_lt 31 c

-- words of letters, digits and underscores are plain
above_blanks : (c : ℕ) → goes_on_in_word c ≡ true → is_above_blank c ≡ true
above_blanks c h = let lt : 32 < c = grind (arith, nat_tests) in lt-ltb 32 c lt

begins_above : (c : ℕ) → begins_word c ≡ true → is_above_blank c ≡ true
begins_above c h = let lt : 32 < c = grind (arith, nat_tests) in lt-ltb 32 c lt

plain_rest : (text : List ℕ) → list_all goes_on_in_word text ≡ true → list_all is_above_blank text ≡ true
plain_rest [] h = refl
plain_rest (c ∷ text) h =
    let here = and_parts (goes_on_in_word c) (list_all goes_on_in_word text) h in
    rw (above_blanks c here.0) (plain_rest text here.1)

pub plain_word : (text : List ℕ) → is_word text ≡ true → is_plain_word text ≡ true
plain_word [] word = absurd (cc word)
plain_word (c ∷ text) word =
    let here = and_parts (begins_word c) (list_all goes_on_in_word text) word in
    rw (begins_above c here.0) (plain_rest text here.1)

other : (c n : ℕ) → n < c → (c == n) ≡ false
other c n lt = ne_eqb c n (λ e. absurd (omega arith))

not_blank : (c : ℕ) → is_above_blank c ≡ true → is_blank c ≡ false
not_blank c h =
    let above : 32 < c = ltb-true 32 c h in
    rw (other c 32 (omega arith), other c 9 (omega arith)) refl

inside : (word : List ℕ) → list_all is_above_blank word ≡ true → list_all is_inside word ≡ true
inside [] h = refl
inside (c ∷ word) h =
    let here = and_parts (is_above_blank c) (list_all is_above_blank word) h in
    let above : 32 < c = ltb-true 32 c here.0 in
    rw (lt-ltb 31 c (omega arith)) (inside word here.1)

-- words that are written after another are within a line
spaced_inside : (words : List (List ℕ)) → list_all is_plain_word words ≡ true → list_all is_inside (spaced_words words) ≡ true
unfolding spaced_words
spaced_inside [] h = refl
spaced_inside (word ∷ words) h =
    let here = and_parts (is_plain_word word) (list_all is_plain_word words) h in
    let plain = and_parts (not (is_empty word)) (list_all is_above_blank word) here.0 in
    rw (list_all-append is_inside word (spaced_words words), inside word plain.1) (spaced_inside words here.1)

-- a word, cut off at the blank after it
split_word : (word rest : List ℕ) → list_all is_above_blank word ≡ true → slice_split is_blank (word ++ 32 ∷ rest) ≡ word ∷ slice_split is_blank rest
split_word [] rest h = slice_split-cons_yes is_blank 32 rest refl
split_word (c ∷ word) rest h =
    let here = and_parts (is_above_blank c) (list_all is_above_blank word) h in
    slice_split-cons_no is_blank c (word ++ 32 ∷ rest) (not_blank c here.0) ∙ ap (onto_first c) (split_word word rest here.1)

split_last : (word : List ℕ) → list_all is_above_blank word ≡ true → slice_split is_blank word ≡ word ∷ []
split_last [] h = refl
split_last (c ∷ word) h =
    let here = and_parts (is_above_blank c) (list_all is_above_blank word) h in
    slice_split-cons_no is_blank c word (not_blank c here.0) ∙ ap (onto_first c) (split_last word here.1)

split_words : (word : List ℕ) (words : List (List ℕ)) → list_all is_above_blank word ≡ true → list_all is_plain_word words ≡ true →
    slice_split is_blank (word ++ spaced_words words) ≡ word ∷ words
unfolding spaced_words
split_words word [] plain all = rw (append-nil word) (split_last word plain)
split_words word (next ∷ words) plain all =
    let here = and_parts (is_plain_word next) (list_all is_plain_word words) all in
    let second = and_parts (not (is_empty next)) (list_all is_above_blank next) here.0 in
    split_word word (next ++ spaced_words words) plain ∙ ap (λ (ws : List (List ℕ)). word ∷ ws) (split_words next words second.1 here.1)

all_kept : (words : List (List ℕ)) → list_all is_plain_word words ≡ true → filter (λ (word : List ℕ). not (is_empty word)) words ≡ words
all_kept [] all = refl
all_kept (word ∷ words) all =
    let here = and_parts (is_plain_word word) (list_all is_plain_word words) all in
    let some = and_parts (not (is_empty word)) (list_all is_above_blank word) here.0 in
    rw (some.0) (ap (λ (ws : List (List ℕ)). word ∷ ws) (all_kept words here.1))

-- no byte of a line is a carriage return
no_return : (line : List ℕ) (k : ℕ) → list_all is_inside line ≡ true → (get_or line k 0 == 13) ≡ false
no_return [] k h = refl
no_return (c ∷ line) zero h =
    let here = and_parts (is_inside c) (list_all is_inside line) h in
    let above : 31 < c = ltb-true 31 c here.0 in
    other c 13 (omega arith)
no_return (c ∷ line) (suc k) h = no_return line k (and_parts (is_inside c) (list_all is_inside line) h).1

words_of-line : (word : List ℕ) (words : List (List ℕ)) → is_plain_word word ≡ true → list_all is_plain_word words ≡ true → words_of (word ++ spaced_words words) ≡ word ∷ words
unfolding words_of
words_of-line word words plain all =
    let first = and_parts (not (is_empty word)) (list_all is_above_blank word) plain in
    let line = word ++ spaced_words words in
    let within : list_all is_inside (word ++ spaced_words words) ≡ true = rw (list_all-append is_inside word (spaced_words words), inside word first.1) (spaced_inside words all) in
    let every : list_all is_plain_word (word ∷ words) ≡ true = rw plain all in
    rw (no_return (word ++ spaced_words words) (length (word ++ spaced_words words) - 1) within, split_words word words first.1 all) (all_kept (word ∷ words) every)

cut_line : (line rest : List ℕ) → list_all is_inside line ≡ true → cut_lines (line ++ 10 ∷ rest) ≡ line ∷ cut_lines rest
unfolding cut_lines
cut_line [] rest h = refl
cut_line (c ∷ line) rest h =
    let here = and_parts (is_inside c) (list_all is_inside line) h in
    let above : 31 < c = ltb-true 31 c here.0 in
    rw (other c 10 (omega arith), cut_line line rest here.1) refl

-- a line that is written, up to its line feed
up_to_feed : (word : List ℕ) (words : List (List ℕ)) (rest : List ℕ) → line_text (word ∷ words) ++ rest ≡ (word ++ spaced_words words) ++ 10 ∷ rest
up_to_feed word words rest = append_assoc word (spaced_words words ++ 10 ∷ []) rest ∙ ap (λ (t : List ℕ). word ++ t) (append_assoc (spaced_words words) (10 ∷ []) rest)
    ∙ sym (append_assoc word (spaced_words words) (10 ∷ rest))

cut_first : (word : List ℕ) (words : List (List ℕ)) (rest : List ℕ) → is_plain_word word ≡ true → list_all is_plain_word words ≡ true →
    cut_lines (line_text (word ∷ words) ++ rest) ≡ (word ++ spaced_words words) ∷ cut_lines rest
cut_first word words rest plain all =
    let first = and_parts (not (is_empty word)) (list_all is_above_blank word) plain in
    let within : list_all is_inside (word ++ spaced_words words) ≡ true = rw (list_all-append is_inside word (spaced_words words), inside word first.1) (spaced_inside words all) in
    ap cut_lines (up_to_feed word words rest) ∙ cut_line (word ++ spaced_words words) rest within

-- the first of the lines that say something is that of the words
pub line_said : (number : ℕ) (word : List ℕ) (words : List (List ℕ)) (rest : List ℕ) → is_plain_word word ≡ true → begins_comment word ≡ false → list_all is_plain_word words ≡ true →
    numbered_from number (cut_lines (line_text (word ∷ words) ++ rest)) ≡ numbered_words number (word ∷ words) ∷ numbered_from (number + 1) (cut_lines rest)
line_said number word words rest plain says all =
    let read = words_of-line word words plain all in
    numbered_from-said number _ (word ++ spaced_words words) (cut_lines rest) (cut_first word words rest plain all) (rw read says)
    ∙ ap (λ (ws : List (List ℕ)). numbered_words number ws ∷ numbered_from (number + 1) (cut_lines rest)) read

-- a line whose first word begins a comment says nothing
pub line_skipped : (number : ℕ) (word : List ℕ) (words : List (List ℕ)) (rest : List ℕ) → is_plain_word word ≡ true → begins_comment word ≡ true → list_all is_plain_word words ≡ true →
    numbered_from number (cut_lines (line_text (word ∷ words) ++ rest)) ≡ numbered_from (number + 1) (cut_lines rest)
line_skipped number word words rest plain says all =
    let read = words_of-line word words plain all in
    numbered_from-skipped number _ (word ++ spaced_words words) (cut_lines rest) (cut_first word words rest plain all) (rw read says)
