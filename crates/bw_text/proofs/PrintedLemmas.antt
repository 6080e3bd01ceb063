-- What is written word by word.
use Rattle.std.proofs.Common.{◌≡◌, ◌∙◌, refl, sym, ap, ℕ, ◌+◌, ◌<◌, ◌≤◌, List, [], ◌∷◌, ◌++◌, map}
use Rattle.std.proofs.Common.{length, drop, get_or, add-one, append_assoc, drop-cons}
use Rattle.std.proofs.lemmas.List.{append-nil, drop_all}
use Rattle.bw_text.specs.declared.printed_word.PrintedWord.{PrintedWord}
use Rattle.bw_text.specs.Printing.{printed_text, spaced_words}

pub spaced-next : (words : List PrintedWord) (i : ℕ) (d : PrintedWord) → i < length words →
    spaced_words (map printed_text (drop i words)) ≡ (32 ∷ printed_text (get_or words i d)) ++ spaced_words (map printed_text (drop (i + 1) words))
unfolding spaced_words
spaced-next words i d lt = rw (add-one, drop-cons words i d lt) refl

pub spaced-end : (words : List PrintedWord) (i : ℕ) → length words ≤ i → spaced_words (map printed_text (drop i words)) ≡ []
unfolding spaced_words
spaced-end words i le = rw (drop_all i words le) refl

-- a word that is written, and what is left after it
pub written : (now word left rest start new : List ℕ) → new ≡ now ++ word → left ≡ word ++ rest → now ++ left ≡ start → new ++ rest ≡ start
written now word left rest start new is parts e = rw is (append_assoc now word rest ∙ ap (λ (t : List ℕ). now ++ t) (sym parts) ∙ e)

-- if nothing is left, all is written
pub all_written : (now left start : List ℕ) → left ≡ [] → now ++ left ≡ start → now ≡ start
all_written now left start none e = sym (append-nil now) ∙ ap (λ (t : List ℕ). now ++ t) (sym none) ∙ e

pub written_after : (now word left rest start between new : List ℕ) (c : ℕ) → between ≡ now ++ c ∷ [] → new ≡ between ++ word → left ≡ (c ∷ word) ++ rest → now ++ left ≡ start → new ++ rest ≡ start
written_after now word left rest start between new c first second parts e =
    written now (c ∷ word) left rest start new (second ∙ ap (λ (t : List ℕ). t ++ word) first ∙ append_assoc now (c ∷ []) word) parts e
