-- Whether a lane is 1, word by word.
use Rattle.std.proofs.Common.{◌≡◌, ◌∙◌, refl, sym, ap, ap₂, ℕ, zero, suc, replicate, ◌+◌, ◌*◌, ◌^◌}
use Rattle.std.proofs.Common.{◌<◌, ◌≤◌, Bool, true, false, not, ◌==◌, ◌&&◌, ◌||◌, List, [], ◌∷◌}
use Rattle.std.proofs.Common.{◌++◌, map, length, take, take_all, get_or, bit_and, w64, arith}
use Rattle.std.proofs.Common.{length-take}
use Rattle.std.specs.Int.{bit_not}
use Rattle.std.specs.List.{list_all, list_any, range_with_len}
use Rattle.std.proofs.lemmas.Simd.{map-map}
use Rattle.std.proofs.lemmas.List.Folds.{list_any-append}
use Rattle.std.proofs.lemmas.Nat.{and_le_l}
use lib.Lanes.{zip2}
use Rattle.bw_lanes.specs.Lanes.{bits_from_least, lanes_of_words}
use Rattle.bw_lanes.proofs.BitLemmas.{bits_of_and, bits_of_not}
use Rattle.bw_lanes.proofs.ByteLemmas.{all_rows, length-all_rows, rows_of_word}
use Rattle.bw_lanes.proofs.WordLemmas.{lanes_more, length-first, before_and_part, mapped_right}
use Rattle.bw_lanes.proofs.WordLemmas.{zip2-append, zero_bits}

pub any_is : (lanes : List Bool) → list_any (λ lane. lane) lanes ≡ not (list_all not lanes)
any_is [] = refl
any_is (true ∷ lanes) = refl
any_is (false ∷ lanes) = any_is lanes

pub any_mapped : {A : Type 0} (test : A → Bool) (xs : List A) → list_any (λ lane. lane) (map test xs) ≡ list_any test xs
any_mapped test [] = refl
any_mapped test (x ∷ xs) = ap (λ b. test x || b) (any_mapped test xs)

-- whether a word has a bit whose lane doesn't pass a test
pub any_left : (test : ℕ → Bool) (word passing : ℕ) (rows : List ℕ) → word < 2 ^ 64 → passing < 2 ^ 64 → bits_from_least 64 passing ≡ map test rows
    → not (bit_and word (bit_not w64 passing) == 0) ≡ list_any (λ lane. lane) (zip2 (λ lane row. lane && not (test row)) (bits_from_least 64 word) rows)
any_left test word passing rows fits small is =
    ap not (zero_bits 64 (bit_and word (bit_not w64 passing)) (omega (arith, and_le_l word (bit_not w64 passing)))) ∙ sym (any_is (bits_from_least 64 (bit_and word (bit_not w64 passing))))
    ∙ ap (list_any (λ lane. lane)) (bits_of_and 64 word (bit_not w64 passing)
    ∙ ap (zip2 (λ x y. x && y) (bits_from_least 64 word)) (bits_of_not passing small ∙ ap (map not) is ∙ map-map not test rows)
    ∙ mapped_right (λ x y. x && y) (λ row. not (test row)) (bits_from_least 64 word) rows)

none_of : (test : ℕ → Bool) (count : ℕ) (rows : List ℕ) → false ≡ list_any (λ lane. lane) (zip2 (λ lane row. lane && not (test row)) (replicate count false) rows)
none_of test zero rows = refl
none_of test (suc count) [] = refl
none_of test (suc count) (row ∷ rows) = none_of test count rows

pub none_left : (test : ℕ → Bool) (rows : List ℕ) → false ≡ list_any (λ lane. lane) (zip2 (λ lane row. lane && not (test row)) (bits_from_least 64 0) rows)
unfolding bits_from_least
none_left test rows = none_of test 64 rows

-- whether one of the first words has one, and whether one more word has
unfoldable pub any_to : (Bool → ℕ → Bool) → ℕ → List ℕ → Bool
any_to f word words = list_any (λ lane. lane) (zip2 f (lanes_of_words (take word words)) (take (64 * word) all_rows))

pub any_none : (f : Bool → ℕ → Bool) (words : List ℕ) → any_to f 0 words ≡ false
unfolding any_to lanes_of_words
any_none f words = refl

pub any_more : (f : Bool → ℕ → Bool) (word : ℕ) (words : List ℕ) → length words ≡ 8 → word < 8
    → any_to f (word + 1) words ≡ (any_to f word words || list_any (λ lane. lane) (zip2 f (bits_from_least 64 (get_or words word 0)) (range_with_len (64 * word) 64)))
unfolding any_to
any_more f word words eight lt =
    let first = take (64 * word) all_rows in
    ap₂ (λ l r. list_any (λ lane. lane) (zip2 f l r)) (lanes_more word words eight lt) (before_and_part word all_rows lt ∙ ap (λ l. first ++ l) (rows_of_word word lt))
    ∙ ap (list_any (λ lane. lane)) (zip2-append f (lanes_of_words (take word words)) (bits_from_least 64 (get_or words word 0)) first (range_with_len (64 * word) 64)
    (omega (arith, length-first word words eight (omega arith), length-take (64 * word) all_rows, length-all_rows))) ∙ list_any-append (λ lane. lane) (zip2 f (lanes_of_words (take word words)) first) _

pub any_whole : (f : Bool → ℕ → Bool) (word : ℕ) (words : List ℕ) → length words ≡ 8 → 8 ≤ word → any_to f word words ≡ list_any (λ lane. lane) (zip2 f (lanes_of_words words) (range_with_len 0 512))
unfolding any_to all_rows
any_whole f word words eight le =
    ap₂ (λ w r. list_any (λ lane. lane) (zip2 f (lanes_of_words w) r)) (take_all word words (omega arith)) (take_all (64 * word) all_rows (omega (arith, length-all_rows)))

pub ruleset any_steps = (any_none, any_more, any_whole)
