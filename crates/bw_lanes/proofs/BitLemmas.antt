-- The bits of a number, and of two numbers that are joined bit by bit.
use Rattle.std.proofs.Common.{◌≡◌, ◌∙◌, refl, sym, ap, ap₂, ℕ, zero, suc, ◌+◌, ◌-◌, ◌*◌, ◌/◌, ◌%◌}
use Rattle.std.proofs.Common.{◌^◌, ◌<◌, ◌≤◌, Bool, true, false, not, ◌==◌, ◌&&◌, List, [], ◌∷◌}
use Rattle.std.proofs.Common.{◌++◌, map, length, length-append, take, get_or, arith, w64, min}
use Rattle.std.proofs.Common.{zero-add, bit_and, flat_map, length-take, pow_pos}
use Rattle.std.proofs.lemmas.List.Concat.{get_or-flat_map}
use Rattle.std.specs.Int.{bit_at, bit_not}
use Rattle.std.proofs.lemmas.Bool.Decides.{nat_tests}
use lib.Lanes.{zip2, mask_l, Each1, number_l, digits_l}
use Rattle.std.specs.List.{range_with_len}
use Rattle.std.proofs.lemmas.Nat.Bits.{bit_at-suc, bit_at-lt, bit_at_cat_low, bit_at_and}
use Rattle.std.proofs.lemmas.Nat.Bits.{bit_at_not}
use Rattle.std.proofs.Math.Nat.{mod-eq_of_lt, div-eq_of_lt, div-div-eq-div-mul, div-one, mul_comm}
use Rattle.std.proofs.Math.Nat.{pow-suc, suc-mul, zero-mul, mul-suc, mul-zero}
use Rattle.std.proofs.Math.Nat.{add-mul-mod_self_left, add-mul-div_left}
use Rattle.std.proofs.lemmas.Simd.{zip2-map, bit_mask_l, pick_l_whole, map-map}
use Rattle.std.proofs.lemmas.List.FromFn.{length-map-range_with_len, get_or-map-range_with_len}
use Rattle.bw_lanes.specs.Lanes.{bits_from_least, lanes_of_bytes}

pub length-bits_from_least : (count n : ℕ) → length (bits_from_least count n) ≡ count
unfolding bits_from_least
length-bits_from_least count n = length-map-range_with_len (λ i. bit_at n i == 1) 0 count

-- functions that agree on a range
pub same_on_range : {A : Type 0} (f g : ℕ → A) (a n : ℕ) → ((i : ℕ) → a ≤ i → i < a + n → f i ≡ g i) → map f (range_with_len a n) ≡ map g (range_with_len a n)
same_on_range f g a zero same = refl
same_on_range f g a (suc n) same = ap₂ ◌∷◌ (same a (omega arith) (omega arith)) (same_on_range f g (a + 1) n (λ i le lt. same i (omega arith) (omega arith)))

-- a range that begins one further on
pub range_after : {A : Type 0} (f : ℕ → A) (a n : ℕ) → map f (range_with_len (a + 1) n) ≡ map (λ i. f (suc i)) (range_with_len a n)
range_after f a zero = refl
range_after f a (suc n) = ap₂ ◌∷◌ (ap f (omega arith)) (range_after f (a + 1) n)

-- what holds of the bits 0 and 1
pub of_bit : (P : ℕ → Type 0) → P 0 → P 1 → (bit : ℕ) → bit < 2 → P bit
of_bit P none one zero lt = none
of_bit P none one (suc zero) lt = one
of_bit P none one (suc (suc bit)) lt = absurd (omega arith)

-- bits of two numbers, joined, by the four values of two bits
pub bits_joined : (t : ℕ → ℕ → ℕ) (f : Bool → Bool → Bool) (join : ℕ → ℕ → ℕ) → ((a b i : ℕ) → bit_at (join a b) i ≡ t (bit_at a i) (bit_at b i))
    → (t 0 0 == 1) ≡ f false false → (t 0 1 == 1) ≡ f false true → (t 1 0 == 1) ≡ f true false → (t 1 1 == 1) ≡ f true true
    → (count a b : ℕ) → bits_from_least count (join a b) ≡ zip2 f (bits_from_least count a) (bits_from_least count b)
unfolding bits_from_least
bits_joined t f join bit neither second first both count a b =
    same_on_range _ (λ i. f (bit_at a i == 1) (bit_at b i == 1)) 0 count
    (λ i _ _. ap (λ n. n == 1) (bit a b i) ∙ of_bit (λ x. (t x (bit_at b i) == 1) ≡ f (x == 1) (bit_at b i == 1))
    (of_bit (λ y. (t 0 y == 1) ≡ f false (y == 1)) neither second (bit_at b i) (bit_at-lt b i))
    (of_bit (λ y. (t 1 y == 1) ≡ f true (y == 1)) first both (bit_at b i) (bit_at-lt b i)) (bit_at a i) (bit_at-lt a i))
    ∙ sym (zip2-map f (λ i. bit_at a i == 1) (λ i. bit_at b i == 1) (range_with_len 0 count))

pub bits_of_and : (count a b : ℕ) → bits_from_least count (bit_and a b) ≡ zip2 (λ x y. x && y) (bits_from_least count a) (bits_from_least count b)
bits_of_and = bits_joined min (λ x y. x && y) bit_and bit_at_and refl refl refl refl

pub bits_of_not : (n : ℕ) → n < 2 ^ 64 → bits_from_least 64 (bit_not w64 n) ≡ map not (bits_from_least 64 n)
unfolding bits_from_least
bits_of_not n small =
    same_on_range (λ i. bit_at (bit_not w64 n) i == 1) (λ i. not (bit_at n i == 1)) 0 64
    (λ i _ lt. ap (λ k. k == 1) (bit_at_not w64 n i small (omega arith)) ∙ of_bit (λ b. (1 - b == 1) ≡ not (b == 1)) refl refl (bit_at n i) (bit_at-lt n i))
    ∙ sym (map-map not (λ i. bit_at n i == 1) (range_with_len 0 64))

-- the least bit, and the bits of the rest
pub bits_from_least_more : (count n : ℕ) → bits_from_least (suc count) n ≡ (n % 2 == 1) ∷ bits_from_least count (n / 2)
unfolding bits_from_least
bits_from_least_more count n =
    ap₂ ◌∷◌ (ap (λ k. k % 2 == 1) (omega arith)) (range_after (λ i. bit_at n i == 1) 0 count ∙ same_on_range (λ i. bit_at n (suc i) == 1) (λ i. bit_at (n / 2) i == 1) 0 count (λ i _ _. ap (λ k. k == 1) (bit_at-suc n i)))

-- the bits that a bit mask is made of
pub bits_of_mask : (flags : List Bool) → bits_from_least (length flags) (mask_l flags) ≡ flags
unfolding bits_from_least
bits_of_mask flags =
    same_on_range (λ i. bit_at (mask_l flags) i == 1) (λ i. get_or flags i false) 0 (length flags) (λ i _ _. grind (arith, nat_tests, bit_mask_l flags i))
    ∙ pick_l_whole false flags (length flags) refl

-- a number that is the bit mask of this many flags
pub bits_of_flags : (count : ℕ) (flags : List Bool) (word : ℕ) → length flags ≡ count → word ≡ mask_l flags → bits_from_least count word ≡ flags
bits_of_flags count flags word long same = ap₂ bits_from_least (sym long) same ∙ bits_of_mask flags

-- the bits of a number are those of its low part and then those of its high part
pub bits_from_least_split : (low high n : ℕ) → bits_from_least (low + high) n ≡ bits_from_least low n ++ bits_from_least high (n / 2 ^ low)
unfolding bits_from_least
bits_from_least_split zero high n = ap₂ bits_from_least (zero-add high) (sym (div-one n))
bits_from_least_split (suc low) high n =
    let shifted : n / 2 / 2 ^ low ≡ n / 2 ^ suc low = div-div-eq-div-mul n 2 (2 ^ low) ∙ ap (λ k. n / k) (mul_comm 2 (2 ^ low) ∙ sym (pow-suc 2 low)) in
    ap (λ k. bits_from_least k n) {y = suc (low + high)} (omega arith) ∙ bits_from_least_more (low + high) n
    ∙ ap (λ l. (n % 2 == 1) ∷ l) (bits_from_least_split low high (n / 2) ∙ ap (λ k. bits_from_least low (n / 2) ++ bits_from_least high k) shifted)
    ∙ sym (ap (λ l. l ++ bits_from_least high (n / 2 ^ suc low)) (bits_from_least_more low n))

-- the low part has the same low bits
pub bit_of_low : (count n i : ℕ) → i < count → bit_at (n % 2 ^ count) i ≡ bit_at n i
bit_of_low count n i lt =
    sym (bit_at_cat_low (n / 2 ^ count) count (n % 2 ^ count) i lt) ∙ ap (λ k. bit_at k i) {y = n} (omega (arith, mul_comm (n / 2 ^ count) (2 ^ count), pow_pos count))

pub bits_of_low : (count n : ℕ) → bits_from_least count (n % 2 ^ count) ≡ bits_from_least count n
unfolding bits_from_least
bits_of_low count n = same_on_range (λ i. bit_at (n % 2 ^ count) i == 1) (λ i. bit_at n i == 1) 0 count (λ i _ lt. ap (λ k. k == 1) (bit_of_low count n i (omega arith)))

-- the digits of a number in base 2 ^ width have its bits
pub bits_of_digits : (width count n : ℕ) → flat_map (bits_from_least width) (digits_l (2 ^ width) count n) ≡ bits_from_least (count * width) n
unfolding bits_from_least
bits_of_digits width zero n = sym (ap (λ k. bits_from_least k n) (zero-mul width))
bits_of_digits width (suc count) n =
    ap₂ ◌++◌ (bits_of_low width n) (bits_of_digits width count (n / 2 ^ width)) ∙ sym (bits_from_least_split width (count * width) n)
    ∙ ap (λ k. bits_from_least k n) (omega (arith, suc-mul count width))

-- a number has the bits of its digits in base 2 ^ width
pub bits_of_number : (width : ℕ) (digits : List ℕ) → Each1 (λ digit. digit < 2 ^ width) digits → bits_from_least (length digits * width) (number_l (2 ^ width) digits) ≡ flat_map (bits_from_least width) digits
unfolding bits_from_least
bits_of_number width [] small = ap (λ k. bits_from_least k 0) (zero-mul width)
bits_of_number width (digit ∷ digits) small =
    let rest = number_l (2 ^ width) digits in
    let n = digit + 2 ^ width * rest in
    ap (λ k. bits_from_least k n) (omega (arith, suc-mul (length digits) width)) ∙ bits_from_least_split width (length digits * width) n
    ∙ ap₂ ◌++◌ (sym (bits_of_low width n) ∙ ap (bits_from_least width) (add-mul-mod_self_left digit (2 ^ width) rest ∙ mod-eq_of_lt small.0))
    (ap (bits_from_least (length digits * width)) {y = rest} (omega (arith, add-mul-div_left digit rest {y = 2 ^ width} (pow_pos width), div-eq_of_lt small.0)) ∙ bits_of_number width digits small.1)

pub length-bits_of_numbers : (width : ℕ) (numbers : List ℕ) → length (flat_map (bits_from_least width) numbers) ≡ width * length numbers
length-bits_of_numbers width [] = omega (arith, mul-zero width)
length-bits_of_numbers width (n ∷ numbers) =
    omega (arith, length-append (bits_from_least width n) (flat_map (bits_from_least width) numbers), length-bits_from_least width n, length-bits_of_numbers width numbers, mul-suc width (length numbers))

-- a bit of a list of numbers, each in this many bits
pub bit_in_numbers : (width : ℕ) (numbers : List ℕ) (row at bit : ℕ) → at < length numbers → bit < width → row ≡ width * at + bit
    → get_or (flat_map (bits_from_least width) numbers) row false ≡ (bit_at (get_or numbers at 0) bit == 1)
unfolding bits_from_least
bit_in_numbers width numbers row at bit lt below is =
    let n = get_or numbers at 0 in
    let before = length-bits_of_numbers width (take at numbers) ∙ ap (λ k. width * k) {y = at} (omega (arith, length-take at numbers)) in
    ap (λ i. get_or (flat_map (bits_from_least width) numbers) i false) (is ∙ ap (λ k. k + bit) (sym before))
    ∙ get_or-flat_map (bits_from_least width) numbers at bit 0 false lt (omega (arith, length-bits_from_least width n)) ∙ get_or-map-range_with_len (λ i. bit_at n i == 1) 0 width bit bit false below (omega arith)

-- the lane of a row in a plane that is kept as bytes
pub lane_of_bytes : (bytes : List ℕ) (row : ℕ) → row < 8 * length bytes → get_or (lanes_of_bytes bytes) row false ≡ (bit_at (get_or bytes (row / 8) 0) (row % 8) == 1)
unfolding lanes_of_bytes
lane_of_bytes bytes row lt = bit_in_numbers 8 bytes row (row / 8) (row % 8) (omega arith) (omega arith) (omega arith)
