-- The lanes of words, of words that are joined and of those whose first lanes are 1, and the parts
-- of 64 rows, one a word.
use Rattle.std.proofs.Common.{get_or, ◌≡◌, ◌∙◌, refl, sym, ap, ap₂, ℕ, zero, suc, ◌+◌, ◌-◌, ◌*◌}
use Rattle.std.proofs.Common.{◌/◌, ◌%◌, ◌^◌, ◌<◌, ◌≤◌, Bool, true, false, not, cond, ◌==◌, ◌&&◌}
use Rattle.std.proofs.Common.{◌||◌, List, [], ◌∷◌, ◌++◌, map, flat_map, replicate, length, take}
use Rattle.std.proofs.Common.{set, length-set, count_by, Fits, arith, w64, max, length-append}
use Rattle.std.proofs.Common.{append_assoc, append-nil, min, add-zero, zero-add, drop, take_all}
use Rattle.std.proofs.Common.{bit_or, count_ones, bit_xor, bit_and, eq-eqb, ltb, eqb}
use Rattle.std.proofs.Math.Nat.{two-pow-succ}
use Rattle.std.proofs.Math.Bool.{and-true, and_assoc}
use Rattle.std.proofs.lemmas.Bool.{eqb-true, eqb-false, ltb-true, ltb-false}
use Rattle.std.proofs.lemmas.Nat.{le_or_l, ones_le_self, one_shl, pow_pos}
use Rattle.std.proofs.lemmas.List.{map-append, length-map, length-take, take_more, take_more_set}
use Rattle.std.proofs.lemmas.List.{replicate-append-replicate, take-append-drop, take-take}
use Rattle.std.proofs.lemmas.List.{length-drop, drop_all}
use Rattle.std.proofs.lemmas.List.Folds.{list_all-append}
use Rattle.std.proofs.lemmas.List.Concat.{flat_map-append}
use Rattle.std.proofs.lemmas.Bool.Decides.{nat_tests}
use Rattle.std.proofs.lemmas.List.Sums.{sum_by-append, sum_by-cons, count_by-le-length}
use Rattle.std.specs.Int.{bit_at, bit_not}
use Rattle.std.specs.Int.Bits.{or_zero_l}
use Rattle.std.specs.Int.Count.{ones_step}
use lib.Lanes.{zip2, Each1, Steps, fold_l, mask_l, put_chunk, sel_l, sum_l, top}
use Rattle.std.specs.List.{list_all, range_with_len}
use Rattle.bw_lanes.specs.Lanes.{bits_from_least, lanes_of_words, lanes_of_bytes, differ}
use Rattle.std.proofs.lemmas.Nat.Bits.{shr_and_one, bit_at_or, bit_at_xor}
use Rattle.bw_lanes.proofs.BitLemmas.{bit_in_numbers, length-bits_of_numbers}
use Rattle.bw_lanes.proofs.BitLemmas.{length-bits_from_least, bits_from_least_more, bits_of_not}
use Rattle.bw_lanes.proofs.BitLemmas.{bits_of_and, bits_joined, of_bit, bits_of_flags}
use Rattle.std.proofs.lemmas.Simd.{fold-sum, sum_fits, tops_compared, mask_l-mod, length-put_chunk}
use Rattle.std.proofs.lemmas.Simd.{get_or-zip2, length-replicate, length-zip2, put_chunk_is}
use Rattle.std.proofs.lemmas.Simd.{take_more_put_chunk}
use Rattle.std.proofs.Math.Seq.{take-add, drop-cons, drop-append_seam, take-append_seam, drop-drop}

pub zip2-append : {A B C : Type 0} (f : A → B → C) (xs xs' : List A) (ys ys' : List B) → length xs ≡ length ys → zip2 f (xs ++ xs') (ys ++ ys') ≡ zip2 f xs ys ++ zip2 f xs' ys'
zip2-append f [] xs' [] ys' same = refl
zip2-append f [] xs' (b ∷ ys) ys' same = absurd (omega arith)
zip2-append f (a ∷ xs) xs' [] ys' same = absurd (omega arith)
zip2-append f (a ∷ xs) xs' (b ∷ ys) ys' same = ap (λ l. f a b ∷ l) (zip2-append f xs xs' ys ys' (omega arith))

-- words that are joined bit by bit
lanes_joined : (f : Bool → Bool → Bool) (join : ℕ → ℕ → ℕ) → ((count a b : ℕ) → bits_from_least count (join a b) ≡ zip2 f (bits_from_least count a) (bits_from_least count b))
    → (xs ys : List ℕ) → length xs ≡ length ys → lanes_of_words (zip2 join xs ys) ≡ zip2 f (lanes_of_words xs) (lanes_of_words ys)
unfolding lanes_of_words
lanes_joined f join each [] ys same = refl
lanes_joined f join each (a ∷ xs) [] same = absurd (omega arith)
lanes_joined f join each (a ∷ xs) (b ∷ ys) same =
    ap₂ ◌++◌ (each 64 a b) (lanes_joined f join each xs ys (omega arith))
    ∙ sym (zip2-append f (bits_from_least 64 a) (lanes_of_words xs) (bits_from_least 64 b) (lanes_of_words ys) (length-bits_from_least 64 a ∙ sym (length-bits_from_least 64 b)))

pub lanes_of_not : (words : List ℕ) → Each1 (Fits w64) words → lanes_of_words (map (bit_not w64) words) ≡ map not (lanes_of_words words)
unfolding lanes_of_words
lanes_of_not [] small = refl
lanes_of_not (word ∷ words) small =
    ap₂ ◌++◌ (bits_of_not word small.0.fits) (lanes_of_not words small.1) ∙ sym (map-append not (bits_from_least 64 word) (lanes_of_words words))

pub length-lanes_of_words : (words : List ℕ) → length (lanes_of_words words) ≡ 64 * length words
unfolding lanes_of_words
length-lanes_of_words words = length-bits_of_numbers 64 words

-- the lanes of words that come after others
pub lanes_of_words-append : (xs ys : List ℕ) → lanes_of_words (xs ++ ys) ≡ lanes_of_words xs ++ lanes_of_words ys
unfolding lanes_of_words
lanes_of_words-append xs ys = flat_map-append (bits_from_least 64) xs ys

pub lanes_of_word : (word : ℕ) → lanes_of_words (word ∷ []) ≡ bits_from_least 64 word
unfolding lanes_of_words
lanes_of_word word = append-nil (bits_from_least 64 word)

pub lanes_more : (word : ℕ) (words : List ℕ) → length words ≡ 8 → word < 8
    → lanes_of_words (take (word + 1) words) ≡ lanes_of_words (take word words) ++ bits_from_least 64 (get_or words word 0)
lanes_more word words eight lt =
    ap lanes_of_words (take_more words word 0 (omega (arith, eight))) ∙ lanes_of_words-append (take word words) (get_or words word 0 ∷ []) ∙ ap (λ l. lanes_of_words (take word words) ++ l) (lanes_of_word (get_or words word 0))

-- a number of this many bits is 0 if and only if none of them is 1
pub zero_bits : (count n : ℕ) → n < 2 ^ count → (n == 0) ≡ list_all not (bits_from_least count n)
unfolding bits_from_least
zero_bits zero n small = eq-eqb n 0 (omega arith)
zero_bits (suc count) n small =
    grind (arith, nat_tests) ∙ ap (λ b. not (n % 2 == 1) && b) (zero_bits count (n / 2) (omega (arith, two-pow-succ count))) ∙ sym (ap (list_all not) (bits_from_least_more count n))

pub either_is_zero : (a b : ℕ) → (bit_or a b == 0) ≡ ((a == 0) && (b == 0))
either_is_zero a b = grind (arith, nat_tests, le_or_l a b, or_zero_l b)

-- the OR of words is 0 if and only if no lane is 1
zero_words : (a : ℕ) (words : List ℕ) → Each1 (Fits w64) words → (fold_l bit_or a words == 0) ≡ ((a == 0) && list_all not (lanes_of_words words))
unfolding lanes_of_words
zero_words a [] small = sym (and-true (a == 0))
zero_words a (word ∷ words) small =
    zero_words (bit_or a word) words small.1 ∙ ap (λ t. t && list_all not (lanes_of_words words)) (either_is_zero a word) ∙ and_assoc (a == 0) (word == 0) (list_all not (lanes_of_words words))
    ∙ ap (λ t. (a == 0) && t) (ap (λ t. t && list_all not (lanes_of_words words)) (zero_bits 64 word small.0.fits) ∙ sym (list_all-append not (bits_from_least 64 word) (lanes_of_words words)))

pub no_word : (words : List ℕ) → Each1 (Fits w64) words → (fold_l bit_or 0 words == 0) ≡ list_all not (lanes_of_words words)
no_word words small = zero_words 0 words small

-- a number of this many bits has as many ones as bits that are 1
pub ones_in_bits : (count n : ℕ) → n < 2 ^ count → count_ones n ≡ count_by (λ lane. lane) (bits_from_least count n)
unfolding bits_from_least
ones_in_bits zero n small = omega (arith, ones_le_self n)
ones_in_bits (suc count) n small =
    ones_step n ∙ ap₂ ◌+◌ (of_bit (λ b. b ≡ cond (b == 1) 1 0) refl refl (n % 2) (omega arith)) (ones_in_bits count (n / 2) (omega (arith, two-pow-succ count)))
    ∙ sym (ap (count_by (λ (lane : Bool). lane)) (bits_from_least_more count n) ∙ sum_by-cons (λ lane. cond lane 1 0) (n % 2 == 1) (bits_from_least count (n / 2)))

pub length-lanes_of_bytes : (bytes : List ℕ) → length (lanes_of_bytes bytes) ≡ 8 * length bytes
unfolding lanes_of_bytes
length-lanes_of_bytes bytes = length-bits_of_numbers 8 bytes

pub lanes_of_and : (xs ys : List ℕ) → length xs ≡ length ys → lanes_of_words (zip2 bit_and xs ys) ≡ zip2 (λ x y. x && y) (lanes_of_words xs) (lanes_of_words ys)
lanes_of_and = lanes_joined (λ x y. x && y) bit_and bits_of_and

pub lanes_of_or : (xs ys : List ℕ) → length xs ≡ length ys → lanes_of_words (zip2 bit_or xs ys) ≡ zip2 (λ x y. x || y) (lanes_of_words xs) (lanes_of_words ys)
lanes_of_or = lanes_joined (λ x y. x || y) bit_or (bits_joined max (λ x y. x || y) bit_or bit_at_or refl refl refl refl)

pub lanes_of_xor : (xs ys : List ℕ) → length xs ≡ length ys → lanes_of_words (zip2 bit_xor xs ys) ≡ zip2 differ (lanes_of_words xs) (lanes_of_words ys)
lanes_of_xor = lanes_joined differ bit_xor (bits_joined (λ x y. (x + y) % 2) differ bit_xor bit_at_xor refl refl refl refl)

-- the lane of a row in a plane that is kept as words
pub lane_at : (words : List ℕ) (row : ℕ) → row < 64 * length words → get_or (lanes_of_words words) row false ≡ (bit_at (get_or words (row / 64) 0) (row % 64) == 1)
unfolding lanes_of_words
lane_at words row lt = bit_in_numbers 64 words row (row / 64) (row % 64) (omega arith) (omega arith) (omega arith)

pub lane_of_words : (words : List ℕ) (row : ℕ) → row < 64 * length words → get_or (lanes_of_words words) row false ≡ (bit_and (get_or words (row / 64) 0 / 2 ^ (row % 64)) 1 == 1)
lane_of_words words row lt = lane_at words row lt ∙ ap (λ b. b == 1) (sym (shr_and_one (get_or words (row / 64) 0) (row % 64)))

-- planes of zeros and of ones
pub zeros_are_zero : lanes_of_words (replicate 8 0) ≡ replicate 512 false
unfolding lanes_of_words bits_from_least
zeros_are_zero = refl

pub ones_are_one : lanes_of_words (replicate 8 (2 ^ 64 - 1)) ≡ replicate 512 true
unfolding lanes_of_words bits_from_least
ones_are_one = refl

pub no_lanes : lanes_of_words [] ≡ []
unfolding lanes_of_words
no_lanes = refl

-- one word more that is made
pub lanes_set : (word : ℕ) (words : List ℕ) (made : ℕ) → length words ≡ 8 → word < 8 → lanes_of_words (take (word + 1) (set words word made)) ≡ lanes_of_words (take word words) ++ bits_from_least 64 made
lanes_set word words made eight lt =
    ap lanes_of_words (take_more_set words word made (omega arith)) ∙ lanes_of_words-append (take word words) (made ∷ []) ∙ ap (λ l. lanes_of_words (take word words) ++ l) (lanes_of_word made)

-- the ones of words, added up
abbrev ones_of : List ℕ → List ℕ
ones_of words = map (λ (n : ℕ). n) (map count_ones words)

ones_in_words : (words : List ℕ) → Each1 (Fits w64) words → sum_l (ones_of words) ≡ count_by (λ lane. lane) (lanes_of_words words)
unfolding lanes_of_words
ones_in_words [] small = refl
ones_in_words (word ∷ words) small =
    ap₂ ◌+◌ (ones_in_bits 64 word small.0.fits) (ones_in_words words small.1) ∙ sym (sum_by-append (λ lane. cond lane 1 0) (bits_from_least 64 word) (lanes_of_words words))

few_lanes : (words : List ℕ) → length words ≡ 8 → count_by (λ lane. lane) (lanes_of_words words) ≤ 512
few_lanes words eight = omega (arith, count_by-le-length (λ lane. lane) (lanes_of_words words), length-lanes_of_words words)

pub ones_counted : (words : List ℕ) → Each1 (Fits w64) words → fold_l (λ s x. s + x) 0 (ones_of words) ≡ count_by (λ lane. lane) (lanes_of_words words)
ones_counted words small = omega (arith, fold-sum 0 (ones_of words), ones_in_words words small)

pub few_ones : (words : List ℕ) → length words ≡ 8 → Each1 (Fits w64) words → fold_l (λ s x. s + x) 0 (ones_of words) ≤ 512
few_ones words eight small = omega (arith, ones_counted words small, few_lanes words eight)

pub ones_fit : (words : List ℕ) → length words ≡ 8 → Each1 (Fits w64) words → Steps (λ s x. Fits w64 (s + x)) (λ s x. s + x) 0 (ones_of words)
ones_fit words eight small = sum_fits w64 0 (ones_of words) (omega (arith, ones_in_words words small, few_lanes words eight))

-- the ones of the first words, and of one word more
unfoldable pub ones_to : ℕ → List ℕ → ℕ
ones_to word words = count_by (λ lane. lane) (lanes_of_words (take word words))

pub ones_none : (words : List ℕ) → ones_to 0 words ≡ 0
unfolding ones_to lanes_of_words
ones_none words = refl

pub ones_more : (word : ℕ) (words : List ℕ) → length words ≡ 8 → word < 8 → ones_to (word + 1) words ≡ ones_to word words + count_by (λ lane. lane) (bits_from_least 64 (get_or words word 0))
unfolding ones_to
ones_more word words eight lt =
    ap (count_by (λ lane. lane)) (lanes_more word words eight lt) ∙ sum_by-append (λ lane. cond lane 1 0) (lanes_of_words (take word words)) (bits_from_least 64 (get_or words word 0))

pub ones_few : (word : ℕ) (words : List ℕ) → length words ≡ 8 → ones_to word words ≤ 512
unfolding ones_to
ones_few word words eight =
    omega (arith, count_by-le-length (λ lane. lane) (lanes_of_words (take word words)), length-lanes_of_words (take word words), length-take word words)

pub ones_whole : (word : ℕ) (words : List ℕ) → length words ≡ 8 → 8 ≤ word → ones_to word words ≡ count_by (λ lane. lane) (lanes_of_words words)
unfolding ones_to
ones_whole word words eight le = ap (λ w. count_by (λ lane. lane) (lanes_of_words w)) (take_all word words (omega arith))

pub ruleset ones_so_far = (ones_none, ones_more, ones_few, ones_whole)

pub length-first : (word : ℕ) (words : List ℕ) → length words ≡ 8 → word ≤ 8 → length (lanes_of_words (take word words)) ≡ 64 * word
length-first word words eight le = omega (arith, length-lanes_of_words (take word words), length-take word words)

pub mapped_right : {A B C D : Type 0} (f : A → C → D) (g : B → C) (xs : List A) (ys : List B) → zip2 f xs (map g ys) ≡ zip2 (λ x y. f x (g y)) xs ys
mapped_right f g [] ys = refl
mapped_right f g (x ∷ xs) [] = refl
mapped_right f g (x ∷ xs) (y ∷ ys) = ap (λ l. f x (g y) ∷ l) (mapped_right f g xs ys)

-- this many ones and then zeros
abbrev pub run : ℕ → ℕ → List Bool
run ones zeros = replicate ones true ++ replicate zeros false

mask_of_run : (ones zeros : ℕ) → mask_l (run ones zeros) + 1 ≡ 2 ^ ones
mask_of_run zero zero = refl
mask_of_run zero (suc zeros) = omega (arith, mask_of_run zero zeros)
mask_of_run (suc ones) zeros = omega (arith, mask_of_run ones zeros, two-pow-succ ones)

bits_of_run : (n ones zeros : ℕ) → n + 1 ≡ 2 ^ ones → ones + zeros ≡ 64 → bits_from_least 64 n ≡ run ones zeros
bits_of_run n ones zeros is all = bits_of_flags 64 (run ones zeros) n (omega (arith, length-append {A = Bool}, length-replicate {A = Bool})) (omega (arith, mask_of_run ones zeros))

pub first_run : (n : ℕ) → n < 64 → bits_from_least 64 (1 * 2 ^ n % 2 ^ 64 - 1) ≡ run (min n 64) (64 - n)
first_run n lt = bits_of_run _ _ _ (grind (arith, one_shl n 64 lt, pow_pos n)) (omega arith)

pub whole_run : (n : ℕ) → 64 ≤ n → bits_from_least 64 (2 ^ 64 - 1) ≡ run (min n 64) (64 - n)
whole_run n le = bits_of_run _ _ _ (ap (λ k. 2 ^ k) {x = 64} (omega arith)) (omega arith)

joined : (a b c d : ℕ) → min b c ≡ 0 → run a b ++ run c d ≡ run (a + c) (b + d)
joined a zero c d none = simp (append-nil, zero-add, ← append_assoc, replicate-append-replicate)
joined a (suc b) zero d none = simp (append_assoc, replicate-append-replicate, add-zero)
joined a (suc b) (suc c) d none = absurd (omega arith)

-- a word by its number: ones in all lanes before a number, a given word at it, and zeros after it
abbrev pub word_at : ℕ → ℕ → ℕ → ℕ
word_at whole last word = cond (ltb word whole) (2 ^ 64 - 1) (cond (word == whole) last 0)

chosen : (whole last : ℕ) (words : List ℕ) →
    sel_l (zip2 ltb words (replicate (length words) whole)) (replicate (length words) (2 ^ 64 - 1)) (sel_l (zip2 eqb words (replicate (length words) whole)) (replicate (length words) last) (replicate (length words) 0))
    ≡ map (word_at whole last) words
chosen whole last [] = refl
chosen whole last (word ∷ words) = ap (λ l. word_at whole last word ∷ l) (chosen whole last words)

pub chosen_computed : (whole last : ℕ) →
    sel_l (map (top 63) (zip2 (λ a b. cond (ltb a b) (2 ^ 64 - 1) 0) (range_with_len 0 8) (replicate 8 whole))) (replicate 8 (2 ^ 64 - 1))
    (sel_l (map (top 63) (zip2 (λ a b. cond (eqb a b) (2 ^ 64 - 1) 0) (range_with_len 0 8) (replicate 8 whole))) (replicate 8 last) (replicate 8 0))
    ≡ map (word_at whole last) (range_with_len 0 8)
chosen_computed whole last =
    ap₂ (λ less same. sel_l less (replicate 8 (2 ^ 64 - 1)) (sel_l same (replicate 8 last) (replicate 8 0)))
    (tops_compared w64 ltb (range_with_len 0 8) (replicate 8 whole)) (tops_compared w64 eqb (range_with_len 0 8) (replicate 8 whole))
    ∙ chosen whole last (range_with_len 0 8)

-- the last word of the first rows that has some of them
abbrev pub last_of : ℕ → ℕ
last_of rows = 1 * 2 ^ (rows % 64) % 2 ^ 64 - 1

word_of_run : (rows at : ℕ) → bits_from_least 64 (word_at (rows / 64) (last_of rows) at) ≡ run (min (rows - 64 * at) 64) (64 - (rows - 64 * at))
word_of_run rows at = by_less (ltb at (rows / 64)) refl
  where
    left : ℕ
    left = rows - 64 * at

    by_same : (same : Bool) → (at == rows / 64) ≡ same → ltb at (rows / 64) ≡ false → bits_from_least 64 (cond same (last_of rows) 0) ≡ run (min left 64) (64 - left)
    by_same true is more =
        let some : rows % 64 ≡ left = omega (arith, eqb-true at (rows / 64) is) in
        ap (λ k. bits_from_least 64 (1 * 2 ^ k % 2 ^ 64 - 1)) some ∙ first_run left (omega arith)
    by_same false is more =
        let none : 0 ≡ left = omega (arith, eqb-false at (rows / 64) is, ltb-false at (rows / 64) more) in
        bits_of_run 0 0 64 refl refl ∙ ap (λ k. run (min k 64) (64 - k)) none

    by_less : (less : Bool) → ltb at (rows / 64) ≡ less → bits_from_least 64 (cond less (2 ^ 64 - 1) (cond (at == rows / 64) (last_of rows) 0)) ≡ run (min left 64) (64 - left)
    by_less true is = whole_run left (omega (arith, ltb-true at (rows / 64) is))
    by_less false is = by_same (at == rows / 64) refl is

words_of_run : (rows at n : ℕ) → lanes_of_words (map (word_at (rows / 64) (last_of rows)) (range_with_len at n)) ≡ run (min (rows - 64 * at) (64 * n)) (64 * n - (rows - 64 * at))
unfolding lanes_of_words
words_of_run rows at zero = let ones : 0 ≡ min (rows - 64 * at) (64 * zero) = omega arith in let zeros : 0 ≡ 64 * zero - (rows - 64 * at) = omega arith in ap₂ run ones zeros
words_of_run rows at (suc n) =
    ap₂ ◌++◌ (word_of_run rows at) (words_of_run rows (at + 1) n) ∙ joined (min (rows - 64 * at) 64) (64 - (rows - 64 * at)) (min (rows - 64 * (at + 1)) (64 * n)) (64 * n - (rows - 64 * (at + 1))) (omega arith)
    ∙ ap₂ run (omega arith) (omega arith)

pub masked : (rows : ℕ) → rows ≤ 512 → lanes_of_words (map (word_at (rows / 64) (last_of rows)) (range_with_len 0 8)) ≡ replicate rows true ++ replicate (512 - rows) false
masked rows few = words_of_run rows 0 8 ∙ ap₂ run (omega arith) (omega arith)

-- the part of a word
abbrev pub part : {A : Type 0} → ℕ → List A → List A
part word xs = take 64 (take (512 - 64 * word) (drop (64 * word) xs))

pub part_is : {A : Type 0} (word : ℕ) (xs : List A) → word < 8 → part word xs ≡ take 64 (drop (64 * word) xs)
part_is word xs lt = take-take 64 (512 - 64 * word) (drop (64 * word) xs) (omega arith)

pub length-part : {A : Type 0} (word : ℕ) (xs : List A) → length xs ≡ 512 → word < 8 → length (part word xs) ≡ 64
length-part word xs all lt = ap length (part_is word xs lt) ∙ omega (arith, length-take 64 (drop (64 * word) xs), length-drop (64 * word) xs)

pub before_and_part : {A : Type 0} (word : ℕ) (xs : List A) → word < 8 → take (64 * (word + 1)) xs ≡ take (64 * word) xs ++ part word xs
before_and_part word xs lt =
    ap (λ n. take n xs) (omega arith) ∙ take-add (64 * word) 64 xs ∙ ap (λ l. take (64 * word) xs ++ l) (sym (part_is word xs lt))

pub zipped_more : {A B C : Type 0} (f : A → B → C) (word : ℕ) (xs : List A) (ys : List B) → length xs ≡ 512 → length ys ≡ 512 → word < 8
    → zip2 f (take (64 * (word + 1)) xs) (take (64 * (word + 1)) ys) ≡ zip2 f (take (64 * word) xs) (take (64 * word) ys) ++ zip2 f (part word xs) (part word ys)
zipped_more f word xs ys here there lt =
    ap₂ (zip2 f) (before_and_part word xs lt) (before_and_part word ys lt)
    ∙ zip2-append f (take (64 * word) xs) (part word xs) (take (64 * word) ys) (part word ys) (omega (arith, length-take (64 * word) xs, length-take (64 * word) ys))

pub zipped_all : {A B C : Type 0} (f : A → B → C) (word : ℕ) (xs : List A) (ys : List B) → length xs ≡ 512 → length ys ≡ 512 → 8 ≤ word
    → zip2 f (take (64 * word) xs) (take (64 * word) ys) ≡ zip2 f xs ys
zipped_all f word xs ys here there le = ap₂ (zip2 f) (take_all (64 * word) xs (omega arith)) (take_all (64 * word) ys (omega arith))

-- a word made of a comparison of each of 64 numbers with another
pub zip_compared : (t : ℕ → ℕ → Bool) (xs ys : List ℕ) → length xs ≡ 64 → length ys ≡ 64
    → bits_from_least 64 (mask_l (map (top 63) (zip2 (λ a b. cond (t a b) (2 ^ 64 - 1) 0) xs ys)) % 2 ^ 64) ≡ zip2 t xs ys
zip_compared t xs ys here there =
    let long = length-zip2 t xs ys (here ∙ sym there) ∙ here in
    bits_of_flags 64 (zip2 t xs ys) _ long (ap (λ ms. mask_l ms % 2 ^ 64) (tops_compared w64 t xs ys) ∙ mask_l-mod (zip2 t xs ys) 64 (omega (arith, long)))

-- what a comparison says of the items of the first words
unfoldable pub zips_to : (ℕ → ℕ → Bool) → ℕ → List ℕ → List ℕ → List Bool
zips_to test word xs ys = zip2 test (take (64 * word) xs) (take (64 * word) ys)

pub zips_none : (test : ℕ → ℕ → Bool) (xs ys : List ℕ) → zips_to test 0 xs ys ≡ []
unfolding zips_to
zips_none test xs ys = refl

pub zips_more : (test : ℕ → ℕ → Bool) (word : ℕ) (xs ys : List ℕ) → length xs ≡ 512 → length ys ≡ 512 → word < 8
    → zips_to test (word + 1) xs ys ≡ zips_to test word xs ys ++ zip2 test (part word xs) (part word ys)
unfolding zips_to
zips_more test word xs ys here there lt = zipped_more test word xs ys here there lt

pub zips_all : (test : ℕ → ℕ → Bool) (word : ℕ) (xs ys : List ℕ) → length xs ≡ 512 → length ys ≡ 512 → 8 ≤ word → zips_to test word xs ys ≡ zip2 test xs ys
unfolding zips_to
zips_all test word xs ys here there le = zipped_all test word xs ys here there le

-- the step of a loop that makes a word of each 64 items of two lists
pub ruleset zips_made = (no_lanes, lanes_set, length-set, take_all, zips_none, zips_more, zips_all)

-- what a test says of the items of the first words
unfoldable pub tests_to : (ℕ → Bool) → ℕ → List ℕ → List Bool
tests_to test word xs = map test (take (64 * word) xs)

pub tests_none : (test : ℕ → Bool) (xs : List ℕ) → tests_to test 0 xs ≡ []
unfolding tests_to
tests_none test xs = refl

pub tests_more : (test : ℕ → Bool) (word : ℕ) (xs : List ℕ) → word < 8 → tests_to test (word + 1) xs ≡ tests_to test word xs ++ map test (part word xs)
unfolding tests_to
tests_more test word xs lt = ap (map test) (before_and_part word xs lt) ∙ map-append test (take (64 * word) xs) (part word xs)

pub tests_all : (test : ℕ → Bool) (word : ℕ) (xs : List ℕ) → length xs ≡ 512 → 8 ≤ word → tests_to test word xs ≡ map test xs
unfolding tests_to
tests_all test word xs all le = ap (map test) (take_all (64 * word) xs (omega arith))

-- the step of a loop that makes a word of each 64 items
pub ruleset words_made = (no_lanes, lanes_set, length-set, take_all, tests_none, tests_more, tests_all)

-- a list whose first parts were zipped with another one's, and the others are as they were
unfoldable pub written : {B : Type 0} → (ℕ → B → ℕ) → ℕ → List ℕ → List B → List ℕ
written f word old ys = zip2 f (take (64 * word) old) (take (64 * word) ys) ++ drop (64 * word) old

pub written_none : {B : Type 0} (f : ℕ → B → ℕ) (old : List ℕ) (ys : List B) → written f 0 old ys ≡ old
unfolding written
written_none f old ys = refl

pub written_more : {B : Type 0} (f : ℕ → B → ℕ) (word : ℕ) (old : List ℕ) (ys : List B) → length old ≡ 512 → length ys ≡ 512 → word < 8
    → written f (word + 1) old ys ≡ put_chunk (64 * word) (written f word old ys) (zip2 f (part word (written f word old ys)) (part word ys))
unfolding written
written_more f word old ys long size lt =
    let at = 64 * word in
    let rows = written f word old ys in
    let front = zip2 f (take at old) (take at ys) in
    let before : length front ≡ at = omega (arith, length-zip2 f (take at old) (take at ys) (omega (arith, length-take at old, length-take at ys)), length-take at old) in
    let after : drop at rows ≡ drop at old = ap (λ n. drop n rows) (sym before) ∙ drop-append_seam front (drop at old) in
    let first : take at rows ≡ front = ap (λ n. take n rows) (sym before) ∙ take-append_seam front (drop at old) in
    let some = zip2 f (part word rows) (part word ys) in
    let made_of : some ≡ zip2 f (part word old) (part word ys) = ap (λ l. zip2 f (take 64 (take (512 - at) l)) (part word ys)) after in
    let all = length-part word old long lt in
    let count : length some ≡ 64 = ap length made_of ∙ length-zip2 f (part word old) (part word ys) (all ∙ sym (length-part word ys size lt)) ∙ all in
    sym (put_chunk_is at rows some (omega (arith, ap length after, length-drop at rows, length-drop at old)) ∙ ap₂ ◌++◌ first (ap₂ (λ k l. some ++ drop k l) count after)
    ∙ sym (append_assoc front some (drop 64 (drop at old)))
    ∙ ap₂ ◌++◌ (ap (λ l. front ++ l) made_of ∙ sym (zipped_more f word old ys long size lt)) (drop-drop 64 at old ∙ ap (λ n. drop n old) {y = 64 * (word + 1)} (omega arith)))

pub written_all : {B : Type 0} (f : ℕ → B → ℕ) (word : ℕ) (old : List ℕ) (ys : List B) → length old ≡ 512 → length ys ≡ 512 → 8 ≤ word → written f word old ys ≡ zip2 f old ys
unfolding written
written_all f word old ys long size le = ap₂ ◌++◌ (zipped_all f word old ys long size le) (drop_all (64 * word) old (omega arith)) ∙ append-nil (zip2 f old ys)

-- the part of a word's lanes
pub part_of_lanes : (word : ℕ) (words : List ℕ) → length words ≡ 8 → word < 8 → bits_from_least 64 (get_or words word 0) ≡ part word (lanes_of_words words)
unfolding lanes_of_words
part_of_lanes word words eight lt =
    let here = get_or words word 0 in
    let first = lanes_of_words (take word words) in
    let rest = lanes_of_words (drop word words) in
    let whole : lanes_of_words words ≡ first ++ rest = ap lanes_of_words (sym (take-append-drop word words)) ∙ lanes_of_words-append (take word words) (drop word words) in
    let dropped : drop (64 * word) (lanes_of_words words) ≡ rest = ap₂ drop (sym (length-first word words eight (omega arith))) whole ∙ drop-append_seam first rest in
    sym (part_is word (lanes_of_words words) lt ∙ ap (take 64) (dropped ∙ ap lanes_of_words (drop-cons words word 0 (omega arith)))
    ∙ ap (λ k. take k (bits_from_least 64 here ++ lanes_of_words (drop (suc word) words))) (sym (length-bits_from_least 64 here)) ∙ take-append_seam (bits_from_least 64 here) _)

-- the bytes of a plane's first words, and of one more
pub put_more : (word : ℕ) (bytes some : List ℕ) → length bytes ≡ 512 → length some ≡ 64 → word < 8 → take (64 * (word + 1)) (put_chunk (64 * word) bytes some) ≡ take (64 * word) bytes ++ some
put_more word bytes some all long lt = take_more_put_chunk (64 * word) bytes some (64 * (word + 1)) (omega arith) (omega arith)

pub ruleset put_bytes = (no_lanes, put_more, lanes_more, map-append, length-put_chunk, length-map, length-bits_from_least)

-- the step of a loop that writes 64 bytes at a time
pub ruleset parts_written = (written_none, written_more, written_all, part_of_lanes, length-lanes_of_words)
