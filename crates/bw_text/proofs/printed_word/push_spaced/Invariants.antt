use Rattle.std.proofs.Common.{◌≡◌, ◌++◌, drop, map}
use Rattle.bw_text.specs.Printing.{printed_text, spaced_words}
use Rattle.bw_text.proofs.printed_word.push_spaced.Given as goal

-- what is written so far, and then the words that are left, are all after the text
abbrev pub invariant-loop-word : goal.invariant-loop-word
invariant-loop-word l = l.text.items ++ spaced_words (map printed_text (drop l.word-index l.words)) ≡ l.fn.text.items ++ spaced_words (map printed_text l.words)
