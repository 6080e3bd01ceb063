-- Other numbers of words are no column's.
use Rattle.std.proofs.Common.{ℕ, List, map, arith, Bor}
use Rattle.std.proofs.lemmas.List.{length-map}
use Rattle.std.proofs.lemmas.Bool.Decides.{nat_tests}
use Rattle.bw_model.proofs.SchemaLemmas.{column_words-other}
use Rattle.bw_model.proofs.parse.words_of_column.Goals as goal
use Rattle.bw_model.proofs.parse.words_of_column.Goals.{in_default-via-then-words-lt4}
use Rattle.bw_model.proofs.parse.words_of_column.Goals.{in_default-via-else-words-lt4+else-words-lt5+then-words-lt6}
use Rattle.bw_model.proofs.parse.words_of_column.Goals.{in_default-via-else-words-lt4+else-words-lt5+else-words-lt6+else-words-lt7}

pub returns-in_default : goal.returns-in_default
returns-in_default c =
    let words : List (List ℕ) = map (λ (word : Bor (List ℕ)). word.now) c.args.words.now in
    let same = length-map c.args.words.now (λ (word : Bor (List ℕ)). word.now) in
    elim c.in_default.branch [
      | in_default-via-then-words-lt4 w ↦ column_words-other words (λ e. grind (arith, nat_tests, same)) (λ e. grind (arith, nat_tests, same))
      | in_default-via-else-words-lt4+else-words-lt5+then-words-lt6 w ↦ column_words-other words (λ e. grind (arith, nat_tests, same)) (λ e. grind (arith, nat_tests, same))
      | in_default-via-else-words-lt4+else-words-lt5+else-words-lt6+else-words-lt7 w ↦ column_words-other words (λ e. grind (arith, nat_tests, same)) (λ e. grind (arith, nat_tests, same))
    ]
