-- The sum of the codes in some lanes: word by word, and in a word by the bits of the codes.
use Rattle.std.proofs.Common.{◌≡◌, ◌∙◌, refl, sym, subst, ap, ap₂, ℕ, suc, ◌+◌, ◌-◌, ◌*◌, ◌/◌, ◌%◌}
use Rattle.std.proofs.Common.{◌^◌, ◌<◌, ◌≤◌, cond, List, [], ◌∷◌, ◌++◌, map, length, take, drop}
use Rattle.std.proofs.Common.{sum, sum_by, count_by, arith, mod-eq_of_lt, mul-le-mul, pow_mono}
use Rattle.std.specs.List.{AllByRecursion, range_with_len}
use Rattle.std.specs.Int.{bit_at}
use Rattle.std.proofs.Math.Seq.{drop-append_seam, take-append_seam, drop-drop}
use Rattle.std.proofs.lemmas.Nat.{mod-pow-add, pow-add}
use Rattle.std.proofs.lemmas.Nat.Bits.{bit_at-lt}
use Rattle.std.proofs.lemmas.List.{take-append-drop, length-drop, take-take, drop-take, take-map}
use Rattle.std.proofs.lemmas.List.{drop-map, length-take}
use Rattle.std.proofs.lemmas.List.Concat.{flat_map-append}
use Rattle.std.proofs.lemmas.List.Sums.{sum_by-cons}
use Rattle.bw_lanes.specs.Lanes.{bits_from_least, lanes_of_bytes}
use Rattle.bw_lanes.proofs.WordLemmas.{length-lanes_of_bytes, no_lanes, lanes_more, length-first}
use Rattle.bw_lanes.proofs.WordLemmas.{before_and_part, part_is}
use Rattle.bw_model.specs.Groups.{group_size}
use Rattle.bw_model.specs.Variable.{binary_number}
use Rattle.bw_model.specs.Code.{has_bit}
use Rattle.bw_model.proofs.BitsLemmas.{bit_denotes}
use Rattle.bw_planes.specs.Planes.{plane_lanes, row_bits, planes_codes, codes_in_word}
use Rattle.bw_planes.proofs.KeptLemmas.{plane_of_codes}
use Rattle.bw_segment.proofs.DescentLemmas.{high_more}
use Rattle.bw_segment.proofs.SelectedLemmas.{no_bits, word_more, words_summed}
use Rattle.bw_planes.proofs.CodeLemmas.{codes_long, small_in_rows}

lanes_range : (k n : ℕ) (bytes : List ℕ) → k + n ≤ length bytes → lanes_of_bytes (take n (drop k bytes)) ≡ take (8 * n) (drop (8 * k) (lanes_of_bytes bytes))
unfolding lanes_of_bytes
lanes_range k n bytes le =
    let first = lanes_of_bytes (take k bytes) in
    let here = lanes_of_bytes (take n (drop k bytes)) in
    let rest = lanes_of_bytes (drop n (drop k bytes)) in
    let split = λ (at : ℕ) (l : List ℕ). sym (flat_map-append (bits_from_least 8) (take at l) (drop at l)) ∙ ap lanes_of_bytes (take-append-drop at l) in
    let all : first ++ (here ++ rest) ≡ lanes_of_bytes bytes = ap (λ l. first ++ l) (split n (drop k bytes)) ∙ split k bytes in
    let before : length first ≡ 8 * k = omega (arith, length-lanes_of_bytes (take k bytes), length-take k bytes) in
    let long : length here ≡ 8 * n = omega (arith, length-lanes_of_bytes (take n (drop k bytes)), length-take n (drop k bytes), length-drop k bytes) in
    sym (ap₂ take (sym long) (ap₂ drop (sym before) (sym all) ∙ drop-append_seam first (here ++ rest)) ∙ take-append_seam here rest)

-- the lanes of a word of a plane are the bits of its codes
pub word_of_codes : (width plane word : ℕ) (bytes : List ℕ) → length bytes ≡ 64 * width → plane < width → word < 8
    → lanes_of_bytes (take 8 (drop (64 * plane + 8 * word) bytes)) ≡ map (λ code. has_bit code (width - 1 - plane)) (codes_in_word word (planes_codes width bytes))
word_of_codes width plane word bytes long there lt =
    let bit = width - 1 - plane in
    let after = drop (64 * plane) bytes in
    let codes = planes_codes width bytes in
    let same : plane ≡ width - suc bit = omega (arith, there) in
    let all : 8 * word + (64 - 8 * word) ≡ 64 = omega arith in
    let place : 8 * (8 * word) ≡ 64 * word = omega arith in
    let within : take 8 (drop (8 * word) after) ≡ take 8 (drop (8 * word) (take 64 after)) =
    sym (take-take 8 (64 - 8 * word) (drop (8 * word) after) (omega arith)) ∙ ap (take 8) (sym (drop-take (8 * word) (64 - 8 * word) after) ∙ ap (λ n. drop (8 * word) (take n after)) all) in
    ap (λ l. lanes_of_bytes (take 8 l)) (sym (drop-drop (8 * word) (64 * plane) bytes)) ∙ ap lanes_of_bytes within
    ∙ lanes_range (8 * word) 8 (take 64 after) (omega (arith, length-take 64 after, length-drop (64 * plane) bytes)) ∙ ap (λ n. take 64 (drop n (plane_lanes bytes plane))) place
    ∙ ap (λ l. take 64 (drop (64 * word) l)) (ap (plane_lanes bytes) same ∙ plane_of_codes width bit bytes long (omega (arith, there)))
    ∙ ap (take 64) (drop-map (λ code. has_bit code bit) (64 * word) codes) ∙ take-map (λ code. has_bit code bit) 64 (drop (64 * word) codes)

-- the number that some bits of a code are, and one more below them
number_more : (code bit count : ℕ) → code / 2 ^ bit % 2 ^ (count + 1) ≡ 2 * (code / 2 ^ suc bit % 2 ^ count) + cond (has_bit code bit) 1 0
number_more code bit count =
    let n = code / 2 ^ bit in
    let half : n / 2 ^ 1 ≡ code / 2 ^ suc bit = omega (arith, high_more code bit, bit_denotes (bit_at code bit) 1 (bit_at-lt code bit), bit_at-lt code bit) in
    let least : n % 2 ^ 1 ≡ cond (has_bit code bit) 1 0 = omega (arith, bit_denotes (bit_at code bit) 1 (bit_at-lt code bit)) in
    mod-pow-add n count 1 ∙ ap₂ (λ h l. (h % 2 ^ count) * 2 + l) half least ∙ omega arith

pub numbers_more : (bit count : ℕ) (codes : List ℕ)
    → sum_by (λ code. code / 2 ^ bit % 2 ^ (count + 1)) codes ≡ 2 * sum_by (λ code. code / 2 ^ suc bit % 2 ^ count) codes + count_by (λ code. has_bit code bit) codes
numbers_more bit count [] = refl
numbers_more bit count (code ∷ codes) =
    let whole = sum_by-cons (λ code. code / 2 ^ bit % 2 ^ (count + 1)) code codes in
    let high = sum_by-cons (λ code. code / 2 ^ suc bit % 2 ^ count) code codes in
    let ones = sum_by-cons (λ code. cond (has_bit code bit) 1 0) code codes in
    omega (arith, whole, high, ones, number_more code bit count, numbers_more bit count codes)

pub no_numbers : (low : ℕ) (codes : List ℕ) → 0 ≡ sum_by (λ code. code / 2 ^ low % 2 ^ 0) codes
no_numbers low [] = refl
no_numbers low (code ∷ codes) = omega (arith, sum_by-cons (λ code. code / 2 ^ low % 2 ^ 0) code codes, no_numbers low codes)

pub small_in_word : (width word : ℕ) (bytes : List ℕ) → AllByRecursion (λ code. code < 2 ^ width) (codes_in_word word (planes_codes width bytes))
unfolding planes_codes
small_in_word width word bytes =
    let rows = range_with_len 0 group_size in
    let code = λ (row : ℕ). binary_number (row_bits bytes row) 0 width in
    subst (AllByRecursion (λ code. code < 2 ^ width)) (sym (ap (take 64) (drop-map code (64 * word) rows) ∙ take-map code 64 (drop (64 * word) rows))) (small_in_rows width bytes (take 64 (drop (64 * word) rows)))

-- what the low bits of codes and the others add up to
pub numbers_joined : (few rest : ℕ) (codes : List ℕ) → AllByRecursion (λ code. code < 2 ^ (rest + few)) codes
    → sum_by (λ code. code / 2 ^ 0 % 2 ^ few) codes + sum_by (λ code. code / 2 ^ few % 2 ^ rest) codes * 2 ^ few ≡ sum codes
numbers_joined few rest [] small = omega arith
numbers_joined few rest (code ∷ codes) small =
    let low = sum_by-cons (λ code. code / 2 ^ 0 % 2 ^ few) code codes in
    let high = sum_by-cons (λ code. code / 2 ^ few % 2 ^ rest) code codes in
    let all = sum_by-cons (λ n. n) code codes in
    let whole : code ≡ code / 2 ^ 0 = omega arith in
    let one : code ≡ (code / 2 ^ few % 2 ^ rest) * 2 ^ few + code / 2 ^ 0 % 2 ^ few = sym (mod-eq_of_lt small.0) ∙ mod-pow-add code rest few ∙ ap (λ n. (code / 2 ^ few % 2 ^ rest) * 2 ^ few + n % 2 ^ few) whole in
    ap₂ (λ a b. a + b * 2 ^ few) low high
    ∙ together (code / 2 ^ 0 % 2 ^ few) (code / 2 ^ few % 2 ^ rest) (sum_by (λ code. code / 2 ^ 0 % 2 ^ few) codes) (sum_by (λ code. code / 2 ^ few % 2 ^ rest) codes) (2 ^ few)
    ∙ ap₂ ◌+◌ (sym one) (numbers_joined few rest codes small.1) ∙ sym all
  where
    together : (a b c d k : ℕ) → a + c + (b + d) * k ≡ b * k + a + (c + d * k)
    together a b c d k = grind arith

-- the bits of so many codes, the low ones and the others
joined : (few rest most lower upper : ℕ) → lower + most ≤ most * 2 ^ few → upper + most ≤ most * 2 ^ rest → lower + upper * 2 ^ few ≤ most * 2 ^ (rest + few)
joined few rest most lower upper here there =
    let moved : (upper + most) * 2 ^ few ≤ most * 2 ^ rest * 2 ^ few = mul-le-mul there (same (2 ^ few)) in
    omega (arith, here, distributed upper most (2 ^ few), moved, associated most (2 ^ rest) (2 ^ few), ap (λ n. most * n) (pow-add 2 rest few))
  where
    same : (k : ℕ) → k ≤ k
    same k = omega arith

    distributed : (n m k : ℕ) → (n + m) * k ≡ n * k + m * k
    distributed n m k = grind arith

    associated : (m n k : ℕ) → m * n * k ≡ m * (n * k)
    associated m n k = grind arith

pub few_joined : (few rest lower upper : ℕ) → lower + 64 ≤ 64 * 2 ^ few → upper + 64 ≤ 64 * 2 ^ rest → rest + few ≤ 63 → lower + upper * 2 ^ few ≤ 2 ^ 69
few_joined few rest lower upper here there le =
    let most = pow_mono {i = rest + few} {j = 63} le in omega (arith, joined few rest 64 lower upper here there, most)

pub many_joined : (few rest lower upper : ℕ) → lower + 512 ≤ 512 * 2 ^ few → upper + 512 ≤ 512 * 2 ^ rest → rest + few ≤ 63 → lower + upper * 2 ^ few ≤ 2 ^ 72
many_joined few rest lower upper here there le =
    let most = pow_mono {i = rest + few} {j = 63} le in omega (arith, joined few rest 512 lower upper here there, most)

pub ruleset word_sums = (no_lanes, word_more, words_summed, no_bits, codes_long)
