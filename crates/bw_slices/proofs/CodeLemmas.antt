-- The codes that slices spell: how large they are, what the lanes tell of them, and sums of those
-- that lanes pick.
use Rattle.std.proofs.Common.{◌≡◌, ◌∙◌, refl, sym, ap, ap₂, ℕ, zero, suc, ◌+◌, ◌-◌, ◌*◌, ◌^◌, ◌<◌}
use Rattle.std.proofs.Common.{◌≤◌, Bool, not, eqb, ◌==◌, ◌&&◌, List, [], ◌∷◌, map, length, get_or}
use Rattle.std.proofs.Common.{◌/◌, Fits, w8, w64, arith, ◌%◌, true, false, sum, sum_by, inl, inr}
use Rattle.std.proofs.Common.{cond, take, drop, set, length-set, bit_and, All, pow_mono}
use Rattle.std.proofs.Common.{length-take, get_or-set_same, get_or-set_other, add-one}
use Rattle.std.specs.List.{range_with_len, list_all, AllByRecursion}
use Rattle.std.proofs.lemmas.Bool.Decides.{nat_tests}
use Rattle.std.proofs.lemmas.List.FromFn.{get_or-map-range_with_len, fill_by_all}
use Rattle.std.proofs.lemmas.List.FromFn.{length-map-range_with_len}
use Rattle.std.proofs.lemmas.Nat.{pow-add, and_le_l}
use Rattle.std.proofs.lemmas.Simd.{map-map}
use lib.Lanes.{zip2}
use Rattle.bw_lanes.specs.Lanes.{lanes_of_words, are_zero, bits_from_least}
use Rattle.bw_lanes.proofs.WordLemmas.{length-lanes_of_words, zero_bits, no_lanes, lanes_more}
use Rattle.bw_lanes.proofs.WordLemmas.{length-first, before_and_part, part_is}
use Rattle.bw_model.specs.Groups.{group_size}
use Rattle.bw_model.specs.Selection.{selected_items}
use Rattle.bw_segment.proofs.SelectedLemmas.{all_selected, is_none, none_selected, word_more}
use Rattle.bw_segment.proofs.SelectedLemmas.{words_summed}
use Rattle.bw_segment.proofs.ByteLemmas.{with_byte, codes_from, top_byte, byte_more as byte_below}
use Rattle.bw_segment.proofs.ByteLemmas.{codes_whole}
use Rattle.bw_slices.specs.Slices.{number_from, slices_codes}
use Rattle.bw_slices.proofs.KeptLemmas.{bytes_in, length-slices_codes, next_byte}
use Rattle.std.proofs.Math.Nat.{div-eq_of_lt, mul-le-mul_right}
use Rattle.std.proofs.lemmas.List.Sums.{sum_by-cons}
use Rattle.bw_lanes.specs.Selected.{bytes_selected}
use Rattle.bw_model.specs.StoredCodes.{byte_of}
use Rattle.std.specs.Int.{bit_at, bit_not}
use Rattle.std.proofs.lemmas.Bool.{cases_eq, cases_lt, eq-eqb}
use Rattle.std.proofs.lemmas.List.Elements.{All-take, All-drop}
use Rattle.std.proofs.lemmas.Nat.Bits.{bit_at_clear_same, bit_at_clear_other}

-- one byte more
pub next_small : (head byte places : ℕ) → head < 2 ^ places → byte < 256 → 256 * head + byte < 2 ^ (places + 8)
next_small head byte places small one = omega (arith, small, one, pow-add 2 places 8)

-- and that fits 64 bits
pub byte_more : (code byte place : ℕ) → code < 2 ^ (8 * place) → byte < 256 → place < 8 → Fits w64 (256 * code + byte)
byte_more code byte place small one few = let most = pow_mono {i = 8 * place} {j = 56} (omega arith) in record { fits = omega arith }

pub bytes_before : (code place : ℕ) → code < 2 ^ (8 * place) → place < 8 → Fits w64 (256 * code)
bytes_before code place small few = let fits = byte_more code 0 place small (omega arith) few in record { fits = omega (arith, fits.fits) }

pub number_below : (byte : ℕ → ℕ) (count : ℕ) → ((place : ℕ) → byte place < 256) → number_from byte count < 2 ^ (8 * count)
number_below byte zero small = omega arith
number_below byte (suc count) small =
    let more : 8 * suc count ≡ 8 * count + 8 = omega arith in rw more (next_small _ _ (8 * count) (number_below byte count small) (small count))

-- this many bytes spell a number of this many
pub codes_below : (bytes : List ℕ) (count : ℕ) → ((at : ℕ) → get_or bytes at 0 < 256) → AllByRecursion (λ code. code < 2 ^ (8 * count)) (slices_codes count bytes)
unfolding slices_codes
codes_below bytes count small = each (range_with_len 0 group_size)
  where
    each : (rows : List ℕ) → AllByRecursion (λ code. code < 2 ^ (8 * count)) (map (λ row. number_from (bytes_in bytes row) count) rows)
    each [] = tt
    each (row ∷ rows) = (number_below (bytes_in bytes row) count (λ place. small (512 * place + row)), each rows)

pub all_within : (width bits : ℕ) (ns : List ℕ) → width ≤ bits → All (λ n. n < 2 ^ width) ns → AllByRecursion (λ n. n < 2 ^ bits) ns
all_within width bits [] le small = tt
all_within width bits (n ∷ ns) le small =
    let first = small 0 0 (omega arith) in
    let wide = pow_mono {i = width} {j = bits} le in (omega (arith, first, wide), all_within width bits ns le (λ i d lt. small (suc i) d (omega arith)))

-- the code in a lane
pub code_in_lane : (bytes : List ℕ) (count lane : ℕ) → lane < 512 → number_from (bytes_in bytes lane) count ≡ get_or (slices_codes count bytes) lane 0
unfolding slices_codes group_size
code_in_lane bytes count lane lt = sym (get_or-map-range_with_len (λ row. number_from (bytes_in bytes row) count) 0 512 lane lane 0 lt (omega arith))

-- the number that the first bytes, this many, of a lane spell
unfoldable pub front_code : ℕ → ℕ → List ℕ → ℕ
front_code place lane bytes = number_from (bytes_in bytes lane) place

pub front_none : (lane : ℕ) (bytes : List ℕ) → front_code 0 lane bytes ≡ 0
unfolding front_code
front_none lane bytes = refl

pub front_more : (place lane : ℕ) (bytes : List ℕ) → front_code (place + 1) lane bytes ≡ 256 * front_code place lane bytes + get_or bytes (512 * place + lane) 0
unfolding front_code
front_more place lane bytes = ap (number_from (bytes_in bytes lane)) (add-one place)

pub front_fits : (place lane : ℕ) (bytes : List ℕ) → place < 8 → ((at : ℕ) → Fits w8 (get_or bytes at 0)) → front_code place lane bytes < 2 ^ 56
unfolding front_code
front_fits place lane bytes few fit =
    let most = pow_mono {i = 8 * place} {j = 56} (omega arith) in omega (arith, most, number_below (bytes_in bytes lane) place (λ k. (fit (512 * k + lane)).fits))

pub front_whole : (place lane : ℕ) (bytes : List ℕ) → lane < 512 → front_code place lane bytes ≡ get_or (slices_codes place bytes) lane 0
unfolding front_code
front_whole place lane bytes lt = code_in_lane bytes place lane lt

pub ruleset code_steps = (front_none, front_more, front_fits, front_whole)

-- the lanes whose bytes are all 0 are those whose code is
zero_is : (bytes : List ℕ) (row count : ℕ) → are_zero bytes row count ≡ (number_from (bytes_in bytes row) count == 0)
zero_is bytes row zero = refl
zero_is bytes row (suc count) = ap (λ b. b && (bytes_in bytes row count == 0)) (zero_is bytes row count) ∙ one (number_from (bytes_in bytes row) count) (bytes_in bytes row count)
  where
    one : (s b : ℕ) → (eqb s 0 && eqb b 0) ≡ eqb (256 * s + b) 0
    one s b = grind (arith, nat_tests)

pub used_is : (bytes : List ℕ) (count : ℕ) → map not (map (λ row. are_zero bytes row count) (range_with_len 0 512)) ≡ map (λ code. not (code == 0)) (slices_codes count bytes)
unfolding slices_codes group_size
used_is bytes count =
    let rows = range_with_len 0 512 in
    map-map not (λ row. are_zero bytes row count) rows ∙ (λ i. map (λ row. not (zero_is bytes row count i)) rows) ∙ sym (map-map (λ code. not (code == 0)) (λ row. number_from (bytes_in bytes row) count) rows)

-- no code is left if no lane is 1
pub none_left : (bytes words : List ℕ) (count : ℕ) → length words ≡ 8 → list_all not (lanes_of_words words) ≡ is_none (selected_items (lanes_of_words words) (slices_codes count bytes))
none_left bytes words count eight = none_selected (lanes_of_words words) (slices_codes count bytes) (omega (arith, length-slices_codes count bytes, length-lanes_of_words words))

pub ruleset of_bytes = (map-map)

pub within_slices : (n width slices : ℕ) → slices ≡ (width + 7) / 8 → n < 2 ^ width → n < 2 ^ (8 * slices)
within_slices n width slices all small = let wide = pow_mono {i = width} {j = 8 * slices} (omega arith) in omega arith

-- the bytes that are selected are those of the numbers that are selected
pub sum_selected : (f : ℕ → ℕ) (lanes : List Bool) (ns : List ℕ) → sum (bytes_selected 0 lanes (map f ns)) ≡ sum_by f (selected_items lanes ns)
sum_selected f [] ns = refl
sum_selected f (lane ∷ lanes) [] = refl
sum_selected f (true ∷ lanes) (n ∷ ns) = sum_by-cons (λ k. k) (f n) (bytes_selected 0 lanes (map f ns)) ∙ ap (λ k. f n + k) (sum_selected f lanes ns) ∙ sym (sum_by-cons f n (selected_items lanes ns))
sum_selected f (false ∷ lanes) (n ∷ ns) = sum_by-cons (λ k. k) 0 (bytes_selected 0 lanes (map f ns)) ∙ omega (arith, sum_selected f lanes ns)

sum_next : (bit : ℕ) (ns : List ℕ) → sum_by (λ n. n / 2 ^ bit) ns ≡ 256 * sum_by (λ n. n / 2 ^ (bit + 8)) ns + sum_by (λ n. n / 2 ^ bit % 256) ns
sum_next bit [] = refl
sum_next bit (n ∷ ns) =
    omega (arith, sum_by-cons (λ n. n / 2 ^ bit) n ns, sum_by-cons (λ n. n / 2 ^ (bit + 8)) n ns, sum_by-cons (λ n. n / 2 ^ bit % 256) n ns, next_byte n bit, sum_next bit ns)

sum_of_high : (bit : ℕ) (ns : List ℕ) → AllByRecursion (λ n. n < 2 ^ bit) ns → 0 ≡ sum_by (λ n. n / 2 ^ bit) ns
sum_of_high bit [] small = refl
sum_of_high bit (n ∷ ns) small = ap₂ ◌+◌ (sym (div-eq_of_lt small.0)) (sum_of_high bit ns small.1) ∙ sym (sum_by-cons (λ n. n / 2 ^ bit) n ns)

sum_of_all : (bit : ℕ) (ns : List ℕ) → bit ≡ 0 → sum_by (λ n. n / 2 ^ bit) ns ≡ sum ns
sum_of_all bit [] none = refl
sum_of_all bit (n ∷ ns) none =
    let whole : n / 2 ^ bit ≡ n = ap (λ k. n / 2 ^ k) none ∙ omega arith in sum_by-cons (λ n. n / 2 ^ bit) n ns ∙ ap₂ ◌+◌ whole (sum_of_all bit ns none) ∙ sym (sum_by-cons (λ n. n) n ns)

-- numbers below 2 ^ 63 in some lanes
small_sums : (lanes : List Bool) (ns : List ℕ) → AllByRecursion (λ n. n < 2 ^ 63) ns → sum (selected_items lanes ns) ≤ length ns * 2 ^ 63
small_sums [] ns small = omega arith
small_sums (lane ∷ lanes) [] small = omega arith
small_sums (true ∷ lanes) (n ∷ ns) small = let first = small.0 in omega (arith, sum_by-cons (λ n. n) n (selected_items lanes ns), small_sums lanes ns small.1, first)
small_sums (false ∷ lanes) (n ∷ ns) small = omega (arith, small_sums lanes ns small.1)

pub sum_small : (width most : ℕ) (lanes : List Bool) (ns : List ℕ) → width ≤ 63 → length ns ≤ most → All (λ n. n < 2 ^ width) ns → sum (selected_items lanes ns) ≤ most * 2 ^ 63
sum_small width most lanes ns few long small =
    omega (arith, small_sums lanes ns (all_within width 63 ns few small), mul-le-mul_right {m = length ns} {n = most} (2 ^ 63) long)

-- the sum of the numbers that the first bytes, this many, of the codes in some lanes spell
unfoldable pub high_sum : ℕ → ℕ → List Bool → List ℕ → ℕ
high_sum width place lanes bytes = sum_by (λ n. n / 2 ^ (8 * ((width + 7) / 8 - place))) (selected_items lanes (slices_codes ((width + 7) / 8) bytes))

pub high_none : (width : ℕ) (lanes : List Bool) (bytes : List ℕ) → All (λ code. code < 2 ^ width) (slices_codes ((width + 7) / 8) bytes) → high_sum width 0 lanes bytes ≡ 0
unfolding high_sum
high_none width lanes bytes small =
    let codes = slices_codes ((width + 7) / 8) bytes in
    sym (sum_of_high _ _ (all_selected _ lanes codes (all_within width (8 * ((width + 7) / 8 - 0)) codes (omega arith) small)))

pub high_more : (width place : ℕ) (lanes : List Bool) (bytes : List ℕ) → place < (width + 7) / 8
    → high_sum width (place + 1) lanes bytes ≡ 256 * high_sum width place lanes bytes + sum (bytes_selected 0 lanes (map (byte_of ((width + 7) / 8 - 1 - place)) (slices_codes ((width + 7) / 8) bytes)))
unfolding high_sum
high_more width place lanes bytes lt =
    let slice = (width + 7) / 8 - 1 - place in
    let codes = slices_codes ((width + 7) / 8) bytes in
    let next : 8 * ((width + 7) / 8 - (place + 1)) ≡ 8 * slice = omega arith in
    let above : 8 * slice + 8 ≡ 8 * ((width + 7) / 8 - place) = omega arith in
    ap (λ bit. sum_by (λ n. n / 2 ^ bit) (selected_items lanes codes)) next ∙ sum_next (8 * slice) (selected_items lanes codes)
    ∙ ap₂ (λ bit part. 256 * sum_by (λ n. n / 2 ^ bit) (selected_items lanes codes) + part) above (sym (sum_selected (byte_of slice) lanes codes))

pub high_whole : (width place : ℕ) (lanes : List Bool) (bytes : List ℕ) → (width + 7) / 8 ≤ place → high_sum width place lanes bytes ≡ sum (selected_items lanes (slices_codes ((width + 7) / 8) bytes))
unfolding high_sum
high_whole width place lanes bytes le = sum_of_all (8 * ((width + 7) / 8 - place)) (selected_items lanes (slices_codes ((width + 7) / 8) bytes)) (omega arith)

pub all_summed : (width : ℕ) (lanes : List Bool) (bytes : List ℕ) → width ≤ 63 → All (λ code. code < 2 ^ width) (slices_codes ((width + 7) / 8) bytes)
    → sum (selected_items lanes (slices_codes ((width + 7) / 8) bytes)) ≤ 2 ^ 72
all_summed width lanes bytes few small = omega (arith, sum_small width 512 lanes _ few (omega (arith, length-slices_codes ((width + 7) / 8) bytes)) small)

pub next_power : (place : ℕ) → 2 ^ (8 * (place + 1)) ≡ 256 * 2 ^ (8 * place)
next_power place = let next : 8 * (place + 1) ≡ 8 * place + 8 = omega arith in ap (λ k. 2 ^ k) next ∙ omega (arith, pow-add 2 (8 * place) 8)

pub ruleset sum_steps = (high_none, high_more, high_whole, all_summed, next_power)

-- 64 of some codes
pub selected_small : (lanes : List Bool) (first width : ℕ) (codes : List ℕ) → width ≤ 63 → All (λ code. code < 2 ^ width) codes → sum (selected_items lanes (take 64 (drop first codes))) ≤ 2 ^ 69
selected_small lanes first width codes few small =
    sum_small width 64 lanes (take 64 (drop first codes)) few (omega (arith, length-take 64 (drop first codes))) (All-take (λ code. code < 2 ^ width) 64 (drop first codes) (All-drop (λ code. code < 2 ^ width) first codes small))

first_item : (lane : Bool) (lanes : List Bool) (item : ℕ) (items : List ℕ) → sum (selected_items (lane ∷ lanes) (item ∷ items)) ≡ cond lane item 0 + sum (selected_items lanes items)
first_item true lanes item items = sum_by-cons (λ k. k) item (selected_items lanes items)
first_item false lanes item items = omega arith

-- without one of the lanes
one_less : (lanes : List Bool) (items : List ℕ) (t : ℕ) → get_or lanes t false ≡ true → t < length items → sum (selected_items lanes items) ≡ get_or items t 0 + sum (selected_items (set lanes t false) items)
one_less [] items t is lt = cc
one_less (lane ∷ lanes) [] t is lt = absurd (omega arith)
one_less (lane ∷ lanes) (item ∷ items) zero is lt = first_item lane lanes item items ∙ ap (λ b. cond b item 0 + sum (selected_items lanes items)) is
one_less (lane ∷ lanes) (item ∷ items) (suc t) is lt =
    omega (arith, first_item lane lanes item items, first_item lane (set lanes t false) item items, one_less lanes items t is (omega arith))

-- a word without one of its bits
abbrev pub without : ℕ → ℕ → ℕ
without n t = bit_and n (bit_not w64 (1 * 2 ^ t % 2 ^ 64))

without_is : (n t : ℕ) → t < 64 → set (bits_from_least 64 n) t false ≡ bits_from_least 64 (without n t)
unfolding bits_from_least
without_is n t lt =
    let bits = map (λ i. bit_at n i == 1) (range_with_len 0 64) in
    let long = length-map-range_with_len (λ i. bit_at n i == 1) 0 64 in
    fill_by_all (λ i. bit_at (without n t) i == 1) (set bits t false) 64 false (length-set bits t false ∙ long) (λ i below. elim (cases_eq i t) [
      | inl same ↦ ap (λ k. get_or (set bits t false) k false) same ∙ get_or-set_same bits t false false (omega (arith, long)) ∙ ap (λ b. b == 1) (sym (bit_at_clear_same w64 n t lt) ∙ ap (bit_at (without n t)) (sym same))
      | inr apart ↦ get_or-set_other bits t i false false apart ∙ get_or-map-range_with_len (λ i. bit_at n i == 1) 0 64 i i false below (omega arith) ∙ ap (λ b. b == 1) (sym (bit_at_clear_other w64 n t lt i (omega arith) apart))
    ])

pub bit_cleared : (n t : ℕ) (items : List ℕ) → t < 64 → length items ≡ 64 → bit_at n t ≡ 1 → sum (selected_items (bits_from_least 64 n) items) ≡ get_or items t 0 + sum (selected_items (bits_from_least 64 (without n t)) items)
unfolding bits_from_least
bit_cleared n t items lt long one =
    one_less (bits_from_least 64 n) items t (get_or-map-range_with_len (λ i. bit_at n i == 1) 0 64 t t false lt (omega arith) ∙ eq-eqb (bit_at n t) 1 one) (omega arith) ∙ ap (λ l. get_or items t 0 + sum (selected_items l items)) (without_is n t lt)

-- is less than with it
pub without_less : (n t : ℕ) → t < 64 → bit_at n t ≡ 1 → without n t < n
without_less n t lt set = elim (cases_lt (without n t) n) [
  | inl less ↦ less
  | inr le ↦
      let same : without n t ≡ n = omega (arith, and_le_l n (bit_not w64 (1 * 2 ^ t % 2 ^ 64))) in
      absurd (omega (arith, bit_at_clear_same w64 n t lt, ap (λ k. bit_at k t) same, set))
]

pub ruleset few_sums = (no_lanes, word_more, words_summed, length-slices_codes)

-- one more byte of each code
pub next_code : (slices place : ℕ) (bytes held byte : List ℕ) → slices ≤ 8 → place < slices → ((at : ℕ) → Fits w8 (get_or bytes at 0)) → held ≡ codes_from (slices - place) (slices_codes slices bytes)
    → byte ≡ map (byte_of (slices - 1 - place)) (slices_codes slices bytes) → zip2 with_byte held byte ≡ codes_from (slices - (place + 1)) (slices_codes slices bytes)
next_code slices place bytes held byte few lt fit before is =
    byte_below (8 * slices) slices place _ held byte lt (omega arith) (codes_below bytes slices (λ at. (fit at).fits)) before is

pub first_code : (slices : ℕ) (bytes byte : List ℕ) → 1 ≤ slices → ((at : ℕ) → Fits w8 (get_or bytes at 0)) → byte ≡ map (byte_of (slices - 1)) (slices_codes slices bytes)
    → byte ≡ codes_from (slices - 1) (slices_codes slices bytes)
first_code slices bytes byte some fit is = top_byte (8 * slices) (slices - 1) _ byte (omega arith) (codes_below bytes slices (λ at. (fit at).fits)) is

pub ruleset byte_steps = (first_code, next_code, codes_whole)
