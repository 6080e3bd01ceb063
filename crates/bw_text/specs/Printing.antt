-- Lines of words as they are written: one blank between words, and a line feed after the last.
use Rattle.std.specs.Prelude.{ℕ, Bool, List, [], ◌∷◌, ◌++◌, ◌&&◌, not, nat_lt}
use Rattle.std.specs.Fmt.{decimal, signed_decimal}
use Rattle.std.specs.List.{list_all}
use Rattle.bw_text.specs.declared.printed_word.PrintedWord.{PrintedWord}
use Rattle.bw_text.specs.declared.printed_word.PrintedWord.TheVariants.{Word, Number, Signed, Register}
use Rattle.bw_text.specs.Lines.{is_empty}
use Rattle.bw_text.specs.Register.{register_text}

-- what a word of a line is written as: a number in decimal without leading zeros
abbrev pub printed_text : PrintedWord → List ℕ
printed_text (Word word) = word.now
printed_text (Number number) = decimal number
printed_text (Signed number) = signed_decimal number
printed_text (Register register) = register_text register

-- more words of a line, each after a blank, which is byte 32
unfoldable pub spaced_words : List (List ℕ) → List ℕ
spaced_words [] = []
spaced_words (word ∷ words) = 32 ∷ word ++ spaced_words words

-- a line of words, of which there is at least one, and the line feed after it, which is byte 10
abbrev pub line_text : List (List ℕ) → List ℕ
line_text [] = 10 ∷ []
line_text (word ∷ words) = word ++ (spaced_words words ++ 10 ∷ [])

-- a byte above the blank's, which is no blank and ends no line
abbrev pub is_above_blank : ℕ → Bool
is_above_blank c = nat_lt 32 c

-- a word that can be read again: it has a byte, and each is above the blank's
abbrev pub is_plain_word : List ℕ → Bool
is_plain_word word = not (is_empty word) && list_all is_above_blank word
