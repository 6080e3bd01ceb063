-- Words made of bytes, 64 at a time.
use Rattle.std.proofs.Common.{◌≡◌, ◌∙◌, sym, ap, ap₂, refl, add-one, get_or, bit_or, ◌&&◌, ℕ, zero}
use Rattle.std.proofs.Common.{suc, ◌+◌, ◌*◌, ◌%◌, ◌^◌, ◌<◌, ◌≤◌, Bool, cond, eqb, ltb, max, ◌==◌}
use Rattle.std.proofs.Common.{List, [], ◌∷◌, ◌++◌, map, length, take, drop, replicate, bit_and}
use Rattle.std.proofs.Common.{arith, w8, eq-eqb, ne_eqb, drop-cons}
use Rattle.std.proofs.lemmas.Bool.Decides.{nat_tests}
use Rattle.std.specs.Int.{bit_at}
use Rattle.std.specs.List.{range_with_len}
use Rattle.std.proofs.lemmas.List.{map-id, length-map}
use Rattle.std.proofs.lemmas.List.FromFn.{length-range_with_len, length-map-range_with_len}
use Rattle.std.proofs.lemmas.List.FromFn.{get_or-range_with_len}
use Rattle.std.proofs.lemmas.Nat.{one_shl, pow_pos}
use Rattle.std.proofs.lemmas.Nat.Bits.{and_pow, bit_at-lt}
use Rattle.std.proofs.lemmas.Simd.{bitmask_splat, zip2_splat, map-map, splat_is_map, zip2_of_maps}
use lib.Lanes.{zip2, mask_l, top}
use Rattle.bw_lanes.specs.Lanes.{bits_from_least, are_zero}
use Rattle.bw_lanes.proofs.BitLemmas.{bits_of_flags, of_bit, same_on_range}
use Rattle.bw_lanes.proofs.WordLemmas.{part, part_is, either_is_zero, tests_to, tests_more}
use Rattle.bw_lanes.proofs.WordLemmas.{tests_all}

-- a bit that is taken by a mask of that bit alone
pub bit_by_mask : (bit n : ℕ) → eqb (bit_and n (2 ^ bit)) (2 ^ bit) ≡ (bit_at n bit == 1)
bit_by_mask bit n =
    ap (λ k. eqb k (2 ^ bit)) (and_pow n bit)
    ∙ of_bit (λ b. eqb (b * 2 ^ bit) (2 ^ bit) ≡ (b == 1)) (ne_eqb _ _ (λ e. omega (arith, pow_pos bit))) (eq-eqb _ _ (omega arith)) (bit_at n bit) (bit_at-lt n bit)

-- a word made of a comparison of each of 64 bytes with one
pub compared : (t : ℕ → ℕ → Bool) (bytes : List ℕ) (c : ℕ) → length bytes ≡ 64
    → bits_from_least 64 (mask_l (map (top 7) (zip2 (λ a b. cond (t a b) 255 0) bytes (replicate 64 c))) % 2 ^ 64) ≡ map (λ byte. t byte c) bytes
compared t bytes c long = bits_of_flags 64 (map (λ byte. t byte c) bytes) _ (length-map bytes (λ byte. t byte c) ∙ long) (bitmask_splat w8 t bytes 64 c long (omega arith))

pub compared_at_most : (bytes greater : List ℕ) (c : ℕ) → length bytes ≡ 64 → greater ≡ zip2 max bytes (replicate 64 c)
    → bits_from_least 64 (mask_l (map (top 7) (zip2 (λ a b. cond (eqb a b) 255 0) greater (replicate 64 c))) % 2 ^ 64) ≡ map (λ byte. ltb byte (c + 1)) bytes
compared_at_most bytes greater c long is =
    let same = is ∙ zip2_splat max bytes 64 c long in
    compared eqb greater c (ap length same ∙ length-map bytes (λ x. max x c) ∙ long) ∙ ap (map (λ x. eqb x c)) same ∙ map-map (λ x. eqb x c) (λ x. max x c) bytes ∙ (λ i. map (λ byte. below byte i) bytes)
  where
    below : (byte : ℕ) → eqb (max byte c) c ≡ ltb byte (c + 1)
    below byte = grind (arith, nat_tests)

pub bit_compared : (bytes : List ℕ) (bit : ℕ) → bit < 8 → length bytes ≡ 64
    → bits_from_least 64 (mask_l (map (top 7) (zip2 (λ a b. cond (eqb a b) 255 0) (zip2 bit_and bytes (replicate 64 (1 * 2 ^ bit % 2 ^ 8))) (replicate 64 (1 * 2 ^ bit % 2 ^ 8)))) % 2 ^ 64)
    ≡ map (λ byte. bit_at byte bit == 1) bytes
bit_compared bytes bit below long =
    let place = 1 * 2 ^ bit % 2 ^ 8 in
    let masked = zip2_splat bit_and bytes 64 place long in
    compared eqb (zip2 bit_and bytes (replicate 64 place)) place (ap length masked ∙ length-map bytes (λ x. bit_and x place) ∙ long) ∙ ap (map (λ x. eqb x place)) masked
    ∙ map-map (λ x. eqb x place) (λ x. bit_and x place) bytes ∙ (λ i. map (λ x. (ap (λ k. eqb (bit_and x k) k) (one_shl bit 8 below) ∙ bit_by_mask bit x) i) bytes)

-- a part of a slice by its rows
pub part_by_rows : (bytes : List ℕ) (base at first count : ℕ) → at ≡ base + first → at + count ≤ length bytes
    → take count (drop at bytes) ≡ map (λ row. get_or bytes (base + row) 0) (range_with_len first count)
part_by_rows bytes base at first zero is le = refl
part_by_rows bytes base at first (suc count) is le =
    ap (take (suc count)) (drop-cons bytes at 0 (omega arith)) ∙ ap₂ ◌∷◌ (ap (λ k. get_or bytes k 0) is) (part_by_rows bytes base (suc at) (first + 1) count (omega arith) (omega arith))

-- all rows, and those of a word
unfoldable pub all_rows : List ℕ
all_rows = range_with_len 0 512

pub length-all_rows : length all_rows ≡ 512
unfolding all_rows
length-all_rows = length-range_with_len 0 512

pub rows_of_word : (word : ℕ) → word < 8 → part word all_rows ≡ range_with_len (64 * word) 64
unfolding all_rows
rows_of_word word lt =
    part_is word all_rows lt ∙ part_by_rows all_rows 0 (64 * word) (64 * word) 64 (omega arith) (omega (arith, length-range_with_len 0 512))
    ∙ same_on_range (λ row. get_or all_rows (0 + row) 0) (λ row. row) (64 * word) 64 (λ row _ to. get_or-range_with_len 0 512 (0 + row) 0 (omega arith) ∙ omega arith) ∙ map-id (range_with_len (64 * word) 64)

zero_where_both : (xs ys : List ℕ) → map (λ byte. byte == 0) (zip2 bit_or xs ys) ≡ zip2 (λ a b. a && b) (map (λ byte. byte == 0) xs) (map (λ byte. byte == 0) ys)
zero_where_both [] ys = refl
zero_where_both (x ∷ xs) [] = refl
zero_where_both (x ∷ xs) (y ∷ ys) = ap₂ ◌∷◌ (either_is_zero x y) (zero_where_both xs ys)

pub none_joined : (slices : List ℕ) (first : ℕ) → map (λ byte. byte == 0) (replicate 64 0) ≡ map (λ row. are_zero slices row 0) (range_with_len first 64)
none_joined slices first =
    ap (map (λ byte. byte == 0)) (splat_is_map (range_with_len first 64) 64 0 (length-map-range_with_len (λ row. row) first 64)) ∙ map-map (λ byte. byte == 0) (λ row. 0) (range_with_len first 64)

pub joined_more : (slices bytes : List ℕ) (count place first : ℕ) → 512 * count ≤ length slices → place < count → first + 64 ≤ 512
    → map (λ byte. byte == 0) bytes ≡ map (λ row. are_zero slices row place) (range_with_len first 64)
    → map (λ byte. byte == 0) (zip2 bit_or bytes (take 64 (drop (512 * place + first) slices))) ≡ map (λ row. are_zero slices row (place + 1)) (range_with_len first 64)
joined_more slices bytes count place first long lt within so_far =
    let part = take 64 (drop (512 * place + first) slices) in
    let rows = range_with_len first 64 in
    zero_where_both bytes part
    ∙ zip2_of_maps (λ a b. a && b) (λ row. are_zero slices row place) (λ row. get_or slices (512 * place + row) 0 == 0) rows so_far
    (ap (map (λ byte. byte == 0)) (part_by_rows slices (512 * place) (512 * place + first) first 64 refl (omega (arith, long))) ∙ map-map (λ byte. byte == 0) (λ row. get_or slices (512 * place + row) 0) rows)
    ∙ ap (λ k. map (λ row. are_zero slices row k) rows) (sym (add-one place))

pub none_more : (test : ℕ → Bool) (word : ℕ) → word < 8 → tests_to test (word + 1) all_rows ≡ tests_to test word all_rows ++ map test (range_with_len (64 * word) 64)
none_more test word lt = tests_more test word all_rows lt ∙ ap (λ l. tests_to test word all_rows ++ map test l) (rows_of_word word lt)

pub none_whole : (test : ℕ → Bool) (word : ℕ) → 8 ≤ word → tests_to test word all_rows ≡ map test (range_with_len 0 512)
unfolding all_rows
none_whole test word le = tests_all test word all_rows length-all_rows le

pub ruleset joined_so_far = (none_joined, joined_more)
