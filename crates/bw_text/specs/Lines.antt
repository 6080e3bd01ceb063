-- Texts by lines, the form of schemas, programs and certificates.
use Rattle.std.specs.Prelude.{ℕ, ◌+◌, Bool, true, false, List, [], ◌∷◌, ◌++◌, length, map, filter}
use Rattle.std.specs.Prelude.{not, ◌||◌, ◌==◌, if◌then◌else◌, ◌≡◌, ◌⊎◌, Option, Some, None}
use Rattle.std.specs.List.{slice_split, list_all}
use Rattle.std.specs.Str.Lines.{strip_carriage_return}
use Rattle.bw_text.specs.declared.lines.Line.{Line}

-- the list is empty
abbrev pub is_empty : {A : Type 0} → List A → Bool
is_empty [] = true
is_empty (x ∷ xs) = false

-- lines whose first one begins with this byte
abbrev pub with_first : ℕ → List (List ℕ) → List (List ℕ)
with_first c [] = (c ∷ []) ∷ []
with_first c (line ∷ lines) = (c ∷ line) ∷ lines

abbrev pub is_line_feed : ℕ → Bool
is_line_feed c = c == 10

-- a text cut at its line feeds, of which the last may be missing; an empty rest after the last one
-- is no line
unfoldable pub cut_lines : List ℕ → List (List ℕ)
cut_lines [] = []
cut_lines (c ∷ cs) = if is_line_feed c then [] ∷ cut_lines cs else with_first c (cut_lines cs)

-- The first line of a text, and the rest after its line feed, which is byte 10; or the whole text
-- as one line, and an empty rest.
abbrev pub IsFirstLine : List ℕ → List ℕ → List ℕ → Type 0
IsFirstLine text line rest =
    (list_all (λ c. not (is_line_feed c)) line ≡ true)
    × ((text ≡ line ++ (10 ∷ rest)) ⊎ ((text ≡ line) × (rest ≡ [])))

-- the byte is a space or a tab
abbrev pub is_blank : ℕ → Bool
is_blank c = (c == 32) || (c == 9)

-- the words of a line, which are separated by spaces and tabs, without the carriage return at its
-- end, if it has one
unfoldable pub words_of : List ℕ → List (List ℕ)
words_of line = filter (λ word. not (is_empty word))
    (slice_split is_blank (strip_carriage_return line))

-- the only word; none if there is no word, or several
abbrev pub only_of : List (List ℕ) → Option (List ℕ)
only_of [] = None
only_of (word ∷ []) = Some word
only_of (word ∷ other ∷ words) = None

-- a line is skipped if it has no words, or if its first word begins with #
abbrev pub begins_comment : List ℕ → Bool
begins_comment [] = false
begins_comment (c ∷ cs) = c == 35

abbrev pub is_skipped : List (List ℕ) → Bool
is_skipped [] = true
is_skipped (word ∷ words) = begins_comment word

-- a line that isn't skipped: its number, from 1, and its words
pub record NumberedWords : Type 0 where
  pub number : ℕ
  pub words : List (List ℕ)

abbrev pub numbered_words : ℕ → List (List ℕ) → NumberedWords
numbered_words n words = record { number = n; words = words }

-- the number and the words of a line of the code
abbrev pub line_of : Line → NumberedWords
line_of line = numbered_words line.number (map (λ word. word.now) line.words.items)

-- the lines that aren't skipped, the first of which has number n; those that are skipped are
-- counted
unfoldable pub numbered_from : ℕ → List (List ℕ) → List NumberedWords
numbered_from n [] = []
numbered_from n (line ∷ lines) =
    if is_skipped (words_of line) then numbered_from (n + 1) lines
    else numbered_words n (words_of line) ∷ numbered_from (n + 1) lines

-- the unread part of a text, and the number of its first line
pub record Unread : Type 0 where
  pub number : ℕ
  pub text : List ℕ

-- its lines that aren't skipped, and the number of an error at its end
abbrev pub lines_in : Unread → List NumberedWords
lines_in unread = numbered_from unread.number (cut_lines unread.text)

abbrev pub end_in : Unread → ℕ
end_in unread = unread.number + length (cut_lines unread.text)

-- a text whose first line has this number, and a whole text
abbrev pub from_line : ℕ → List ℕ → Unread
from_line number text = record { number = number; text = text }

abbrev pub whole : List ℕ → Unread
whole text = from_line 1 text
