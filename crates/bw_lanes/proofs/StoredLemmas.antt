-- Lanes and the bytes that they are kept in undo each other.
use Rattle.std.proofs.Common.{◌≡◌, ◌∙◌, refl, sym, ap, ap₂, ℕ, zero, suc, ◌+◌, ◌*◌, ◌/◌, ◌%◌, ◌^◌}
use Rattle.std.proofs.Common.{◌<◌, Bool, cond, ◌==◌, List, [], ◌∷◌, ◌++◌, length, take, drop, Fits}
use Rattle.std.proofs.Common.{w8, w64, arith, flat_map, mod-lt}
use Rattle.std.proofs.Math.Seq.{drop-append_seam, take-append_seam}
use Rattle.std.proofs.Math.Nat.{two-pow-succ}
use Rattle.std.proofs.lemmas.List.{take-append-drop, length-take, length-drop, nil_from_length}
use Rattle.std.proofs.lemmas.Simd.{below_from_Fits}
use lib.Lanes.{Each1, mask_l, number_l, digits_l}
use Rattle.bw_lanes.specs.Lanes.{bits_from_least, lanes_of_bytes, lanes_of_words, number_of_bits}
use Rattle.bw_lanes.specs.Lanes.{bytes_from, bytes_of_lanes}
use Rattle.bw_lanes.proofs.BitLemmas.{length-bits_from_least, bits_from_least_more, bits_of_flags}
use Rattle.bw_lanes.proofs.BitLemmas.{bits_of_digits, bits_of_number, of_bit}

number_of_bits-mask : (bits : List Bool) → number_of_bits bits ≡ mask_l bits
number_of_bits-mask [] = refl
number_of_bits-mask (bit ∷ bits) = ap (λ n. cond bit 1 0 + 2 * n) (number_of_bits-mask bits)

number_of_bits_from_least : (count n : ℕ) → n < 2 ^ count → number_of_bits (bits_from_least count n) ≡ n
unfolding bits_from_least
number_of_bits_from_least zero n small = omega (arith, small)
number_of_bits_from_least (suc count) n small =
    ap number_of_bits (bits_from_least_more count n) ∙ ap (λ k. cond (n % 2 == 1) 1 0 + 2 * k) (number_of_bits_from_least count (n / 2) (omega (arith, two-pow-succ count)))
    ∙ omega (arith, of_bit (λ b. cond (b == 1) 1 0 ≡ b) refl refl (n % 2) (omega arith))

lanes_of_bytes_from : (count : ℕ) (lanes : List Bool) → length lanes ≡ 8 * count → lanes_of_bytes (bytes_from count lanes) ≡ lanes
unfolding lanes_of_bytes
lanes_of_bytes_from zero lanes long = sym (nil_from_length lanes (omega (arith, long)))
lanes_of_bytes_from (suc count) lanes long =
    ap₂ ◌++◌ (bits_of_flags 8 (take 8 lanes) _ (omega (arith, length-take 8 lanes, long)) (number_of_bits-mask (take 8 lanes)))
    (lanes_of_bytes_from count (drop 8 lanes) (omega (arith, length-drop 8 lanes, long)))
    ∙ take-append-drop 8 lanes

bytes_from_lanes : (bytes : List ℕ) → Each1 (λ byte. byte < 2 ^ 8) bytes → bytes_from (length bytes) (lanes_of_bytes bytes) ≡ bytes
unfolding lanes_of_bytes
bytes_from_lanes [] small = refl
bytes_from_lanes (byte ∷ bytes) small =
    let front = bits_from_least 8 byte in
    let eight = length-bits_from_least 8 byte in
    ap₂ ◌∷◌ (ap (λ k. number_of_bits (take k (front ++ lanes_of_bytes bytes))) (sym eight) ∙ ap number_of_bits (take-append_seam front (lanes_of_bytes bytes)) ∙ number_of_bits_from_least 8 byte small.0)
    (ap (λ k. bytes_from (length bytes) (drop k (front ++ lanes_of_bytes bytes))) (sym eight) ∙ ap (bytes_from (length bytes)) (drop-append_seam front (lanes_of_bytes bytes)) ∙ bytes_from_lanes bytes small.1)

pub lanes_of_bytes_of_lanes : (lanes : List Bool) → length lanes ≡ 512 → lanes_of_bytes (bytes_of_lanes lanes) ≡ lanes
unfolding bytes_of_lanes
lanes_of_bytes_of_lanes lanes long = lanes_of_bytes_from 64 lanes long

pub length-bytes_of_lanes : (lanes : List Bool) → length (bytes_of_lanes lanes) ≡ 64
unfolding bytes_of_lanes
length-bytes_of_lanes lanes = refl

pub bytes_of_lanes_of_bytes : (bytes : List ℕ) → length bytes ≡ 64 → Each1 (λ byte. byte < 2 ^ 8) bytes → bytes_of_lanes (lanes_of_bytes bytes) ≡ bytes
unfolding bytes_of_lanes
bytes_of_lanes_of_bytes bytes long small = ap (λ k. bytes_from k (lanes_of_bytes bytes)) (sym long) ∙ bytes_from_lanes bytes small

digits_fit : (p count n : ℕ) → 0 < p → Each1 (λ digit. digit < p) (digits_l p count n)
digits_fit p zero n some = tt
digits_fit p (suc count) n some = (mod-lt n some, digits_fit p count (n / p) some)

-- numbers of this many bits, recoded as numbers of another number of bits
recoded : (width other count : ℕ) (numbers : List ℕ) → Each1 (λ n. n < 2 ^ other) numbers → count * width ≡ length numbers * other
    → flat_map (bits_from_least width) (digits_l (2 ^ width) count (number_l (2 ^ other) numbers)) ≡ flat_map (bits_from_least other) numbers
recoded width other count numbers small same =
    let n = number_l (2 ^ other) numbers in
    bits_of_digits width count n ∙ ap (λ k. bits_from_least k n) same ∙ bits_of_number other numbers small

pub words_recoded : (bytes : List ℕ) → length bytes ≡ 64 → Each1 (Fits w8) bytes → lanes_of_words (digits_l (2 ^ 64) 8 (number_l (2 ^ 8) bytes)) ≡ lanes_of_bytes bytes
unfolding lanes_of_words lanes_of_bytes
words_recoded bytes long fit = recoded 64 8 8 bytes (below_from_Fits w8 bytes fit) (omega (arith, long))

pub bytes_recoded : (words : List ℕ) → length words ≡ 8 → Each1 (Fits w64) words → digits_l (2 ^ 8) 64 (number_l (2 ^ 64) words) ≡ bytes_of_lanes (lanes_of_words words)
unfolding lanes_of_words lanes_of_bytes
bytes_recoded words long small =
    let n = number_l (2 ^ 64) words in
    sym (bytes_of_lanes_of_bytes (digits_l 256 64 n) refl (digits_fit 256 64 n (omega arith)))
    ∙ ap bytes_of_lanes (recoded 8 64 64 words (below_from_Fits w64 words small) (omega (arith, long)))
