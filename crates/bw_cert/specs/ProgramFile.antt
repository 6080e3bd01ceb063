-- Program files: a program text, a dividing line, and a certificate text.
use Rattle.std.specs.Prelude.{◌≡◌, ℕ, ◌+◌, Bool, false, List, [], ◌∷◌, codes, Option, Some, None}
use Rattle.std.specs.Prelude.{if◌then◌else◌}
use Rattle.bw_text.specs.Lines.{cut_lines, only_of, words_of}
use Rattle.bw_text.specs.Text.{same_text}

-- the most bytes of a program file: 2^26
abbrev pub longest_program_file : ℕ
longest_program_file = 67108864

-- the line's only word is CERTIFICATE, ignoring case
abbrev pub is_divider_word : Option (List ℕ) → Bool
is_divider_word None = false
is_divider_word (Some word) = same_text word (codes "CERTIFICATE")

abbrev pub divides : List ℕ → Bool
divides line = is_divider_word (only_of (words_of line))

-- the lines before the first dividing line, or all lines if there is none
unfoldable pub before_divider : List (List ℕ) → List (List ℕ)
before_divider [] = []
before_divider (line ∷ lines) = if divides line then [] else line ∷ before_divider lines

-- the lines after the first dividing line, or no lines if there is none
unfoldable pub after_divider : List (List ℕ) → List (List ℕ)
after_divider [] = []
after_divider (line ∷ lines) = if divides line then lines else after_divider lines

-- the number of the line after the first dividing line, or after the last line if there is none;
-- the first of these lines has number `number`
unfoldable pub number_after : ℕ → List (List ℕ) → ℕ
number_after number [] = number
number_after number (line ∷ lines) = if divides line then number + 1
    else number_after (number + 1) lines

-- a file is cut into a program text and a certificate text, whose first line has this number in the
-- file
pub record IsCut (file program certificate : List ℕ) (first : ℕ) : Type 0 where
  pub before : cut_lines program ≡ before_divider (cut_lines file)
  pub after : cut_lines certificate ≡ after_divider (cut_lines file)
  pub number : first ≡ number_after 1 (cut_lines file)
