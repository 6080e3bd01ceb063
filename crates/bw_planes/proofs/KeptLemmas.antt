-- Planes keep codes: the planes of codes spell these, and numbers that planes spell have these
-- planes.
use Rattle.std.proofs.Common.{◌≡◌, ◌∙◌, refl, sym, ap, ap₂, ℕ, zero, suc, ◌+◌, ◌-◌, ◌*◌, ◌/◌, ◌%◌}
use Rattle.std.proofs.Common.{◌^◌, ◌<◌, ◌≤◌, Bool, true, false, cond, ◌==◌, List, ◌++◌, map, length}
use Rattle.std.proofs.Common.{take, drop, get_or, length-append, add-one, arith}
use Rattle.std.specs.Int.{bit_at}
use Rattle.std.specs.List.{range_with_len, All}
use Rattle.std.proofs.Math.Nat.{div-eq_of_lt, mod-eq_of_lt, mod-lt, add-mod_left}
use Rattle.std.proofs.Math.Pow.{mod-mod-pow}
use Rattle.std.proofs.Math.Seq.{take-append_seam, drop-append-add, drop-drop}
use Rattle.std.proofs.lemmas.Nat.{mod-pow-add, div-mul-add, pow_pos}
use Rattle.std.proofs.lemmas.Nat.Bits.{bit_at-lt}
use Rattle.std.proofs.lemmas.List.{take-append-drop, drop_all, length-map, length-take, length-drop}
use Rattle.std.proofs.lemmas.List.{get_or-map}
use Rattle.std.proofs.lemmas.List.Elements.{All-take, All-drop}
use Rattle.std.proofs.lemmas.List.FromFn.{fill_by_all, length-map-range_with_len}
use Rattle.std.proofs.lemmas.Simd.{map-map}
use Rattle.bw_lanes.specs.Lanes.{bytes_of_lanes, lanes_of_bytes}
use Rattle.bw_lanes.proofs.StoredLemmas.{lanes_of_bytes_of_lanes, bytes_of_lanes_of_bytes}
use Rattle.bw_lanes.proofs.StoredLemmas.{length-bytes_of_lanes}
use Rattle.bw_lanes.proofs.WordLemmas.{length-lanes_of_bytes}
use Rattle.bw_model.specs.Code.{has_bit}
use Rattle.bw_model.specs.Groups.{group_size}
use Rattle.bw_model.specs.Variable.{Assignment, binary_number}
use Rattle.bw_model.proofs.BitsLemmas.{bit_denotes}
use Rattle.bw_model.proofs.VariableLemmas.{binary_number-lt}
use Rattle.bw_segment.specs.Packing.{IsPacking}
use Rattle.bw_segment.proofs.SoundLemmas.{each_below}
use Rattle.bw_planes.specs.Planes.{plane_lanes, row_bits, planes_bytes, planes_codes, plane_packing}

-- a number's low bits, one more
pub low_more : (n bit : ℕ) → n % 2 ^ (bit + 1) ≡ cond (has_bit n bit) (2 ^ bit) 0 + n % 2 ^ bit
low_more n bit =
    let next : bit + 1 ≡ 1 + bit = omega arith in
    ap (λ k. n % 2 ^ k) next ∙ mod-pow-add n 1 bit
    ∙ ap (λ k. k + n % 2 ^ bit) (sym (bit_denotes (bit_at n bit) (2 ^ bit) (bit_at-lt n bit)))

-- a bit of the low bits
pub low_bit : (n count bit : ℕ) → bit < count → has_bit (n % 2 ^ count) bit ≡ has_bit n bit
low_bit n count bit lt =
    let rest = count - suc bit in
    let split : count ≡ rest + 1 + bit = omega arith in
    let high : n % 2 ^ count / 2 ^ bit ≡ n / 2 ^ bit % 2 ^ (rest + 1) =
    ap (λ k. n % 2 ^ k / 2 ^ bit) split ∙ ap (λ m. m / 2 ^ bit) (mod-pow-add n (rest + 1) bit)
    ∙ div-mul-add (n / 2 ^ bit % 2 ^ (rest + 1)) (2 ^ bit) (n % 2 ^ bit) (mod-lt n (pow_pos bit)) in
    ap (λ m. m % 2 == 1) high ∙ ap (λ k. k == 1) (mod-mod-pow (n / 2 ^ bit) rest 1)

-- the bit above smaller numbers, and what stands below it
above_low : (b : Bool) (p s : ℕ) → s < p → (cond b p 0 + s) / p ≡ cond b 1 0
above_low true p s lt = let one : p + s ≡ 1 * p + s = omega arith in ap (λ n. n / p) one ∙ div-mul-add 1 p s lt
above_low false p s lt = let none : 0 + s ≡ s = omega arith in ap (λ n. n / p) none ∙ div-eq_of_lt lt

below_high : (b : Bool) (p s : ℕ) → s < p → (cond b p 0 + s) % p ≡ s
below_high true p s lt = add-mod_left p s ∙ mod-eq_of_lt lt
below_high false p s lt = let none : 0 + s ≡ s = omega arith in ap (λ n. n % p) none ∙ mod-eq_of_lt lt

-- a bit of the number that variables spell
bit_of_spelled : (bits : Assignment) (first count k : ℕ) → k < count
    → has_bit (binary_number bits first count) (count - suc k) ≡ bits (first + k)
bit_of_spelled bits first zero k lt = absurd (omega arith)
bit_of_spelled bits first (suc count) zero lt =
    let top : suc count - 1 ≡ count = omega arith in
    let here : first ≡ first + 0 = omega arith in
    ap (has_bit (binary_number bits first (suc count))) top
    ∙ ap (λ q. q % 2 == 1)
    (above_low (bits first) (2 ^ count) (binary_number bits (suc first) count) (binary_number-lt bits (suc first) count))
    ∙ shown (bits first) ∙ ap bits here
  where
    shown : (b : Bool) → (cond b 1 0 % 2 == 1) ≡ b
    shown true = refl
    shown false = refl
bit_of_spelled bits first (suc count) (suc k) lt =
    let bit = count - suc k in
    let same : suc count - suc (suc k) ≡ bit = omega arith in
    let next : suc first + k ≡ first + suc k = omega arith in
    let low = below_high (bits first) (2 ^ count) (binary_number bits (suc first) count)
    (binary_number-lt bits (suc first) count) in
    ap (has_bit (binary_number bits first (suc count))) same
    ∙ sym (low_bit (binary_number bits first (suc count)) count bit (omega arith)) ∙ ap (λ n. has_bit n bit) low
    ∙ bit_of_spelled bits (suc first) count k (omega arith) ∙ ap bits next

-- variables that have the low bits of a number, this many, from the top one, spell these
spelled_low : (bits : Assignment) (n first count : ℕ)
    → ((k : ℕ) → k < count → bits (first + k) ≡ has_bit n (count - suc k)) → binary_number bits first count ≡ n % 2 ^ count
spelled_low bits n first zero each = omega arith
spelled_low bits n first (suc count) each =
    let here : first + 0 ≡ first = omega arith in
    let top : suc count - 1 ≡ count = omega arith in
    let bit = sym (ap bits here) ∙ each 0 (omega arith) ∙ ap (has_bit n) top in
    ap₂ (λ b s. cond b (2 ^ count) 0 + s) bit
    (spelled_low bits n (suc first) count
    (λ k lt.
    let next : suc first + k ≡ first + suc k = omega arith in
    let same : suc count - suc (suc k) ≡ count - suc k = omega arith in
    ap bits next ∙ each (suc k) (omega arith) ∙ ap (has_bit n) same))
    ∙ sym (low_more n count) ∙ ap (λ k. n % 2 ^ k) (add-one count)

length-planes_bytes : (width : ℕ) (codes : List ℕ) → length (planes_bytes width codes) ≡ 64 * width
length-planes_bytes zero codes = refl
length-planes_bytes (suc bits) codes =
    let plane = bytes_of_lanes (map (λ code. has_bit code bits) codes) in
    omega (
      arith,
      length-append plane (planes_bytes bits codes),
      length-bytes_of_lanes (map (λ code. has_bit code bits) codes),
      length-planes_bytes bits codes,
    )

-- a plane of codes
plane_of_bytes : (width k : ℕ) (codes : List ℕ) → length codes ≡ 512 → k < width
    → plane_lanes (planes_bytes width codes) k ≡ map (λ code. has_bit code (width - suc k)) codes
plane_of_bytes zero k codes long lt = absurd (omega arith)
plane_of_bytes (suc bits) zero codes long lt =
    let lanes = map (λ code. has_bit code bits) codes in
    let top : bits ≡ suc bits - 1 = omega arith in
    ap (λ n. lanes_of_bytes (take n (bytes_of_lanes lanes ++ planes_bytes bits codes)))
    (sym (length-bytes_of_lanes lanes))
    ∙ ap lanes_of_bytes (take-append_seam (bytes_of_lanes lanes) (planes_bytes bits codes))
    ∙ lanes_of_bytes_of_lanes lanes (length-map codes (λ code. has_bit code bits) ∙ long)
    ∙ ap (λ b. map (λ code. has_bit code b) codes) top
plane_of_bytes (suc bits) (suc k) codes long lt =
    let lanes = map (λ code. has_bit code bits) codes in
    let place : 64 * suc k ≡ length (bytes_of_lanes lanes) + 64 * k = omega (arith, length-bytes_of_lanes lanes) in
    let same : bits - suc k ≡ suc bits - suc (suc k) = omega arith in
    ap (λ n. lanes_of_bytes (take 64 (drop n (bytes_of_lanes lanes ++ planes_bytes bits codes)))) place
    ∙ ap (λ l. lanes_of_bytes (take 64 l)) (drop-append-add (bytes_of_lanes lanes) (planes_bytes bits codes) (64 * k))
    ∙ plane_of_bytes bits k codes long (omega arith) ∙ ap (λ b. map (λ code. has_bit code b) codes) same

-- the numbers that the planes of codes spell
codes_of_text : (width : ℕ) (codes : List ℕ) → length codes ≡ group_size → All (λ code. code < 2 ^ width) codes
    → planes_codes width (planes_bytes width codes) ≡ codes
unfolding planes_codes group_size
codes_of_text width codes long small =
    let text = planes_bytes width codes in
    sym (fill_by_all (λ row. binary_number (row_bits text row) 0 width) codes 512 0 long
    (λ row lt.
    let there : row < length codes = omega (arith, long) in
    sym (spelled_low (row_bits text row) (get_or codes row 0) 0 width
    (λ k below.
    let here : 0 + k ≡ k = omega arith in
    ap (row_bits text row) here ∙ ap (λ l. get_or l row false) (plane_of_bytes width k codes long below)
    ∙ get_or-map (λ code. has_bit code (width - suc k)) codes row 0 false there)
    ∙ mod-eq_of_lt (small row 0 there))))

length-plane : (bytes : List ℕ) (k : ℕ) → 64 * suc k ≤ length bytes → length (plane_lanes bytes k) ≡ 512
length-plane bytes k le =
    omega (
      arith,
      length-lanes_of_bytes (take 64 (drop (64 * k) bytes)),
      length-take 64 (drop (64 * k) bytes),
      length-drop (64 * k) bytes,
    )

-- the lanes of a plane are the bits of the numbers
pub plane_of_codes : (width bit : ℕ) (bytes : List ℕ) → length bytes ≡ 64 * width → bit < width
    → plane_lanes bytes (width - suc bit) ≡ map (λ code. has_bit code bit) (planes_codes width bytes)
unfolding planes_codes group_size
plane_of_codes width bit bytes long lt =
    let k = width - suc bit in
    let rows = range_with_len 0 512 in
    let same : bit ≡ width - suc k = omega arith in
    let here : 0 + k ≡ k = omega arith in
    fill_by_all (λ row. row_bits bytes row k) (plane_lanes bytes k) 512 false
    (length-plane bytes k (omega (arith, long))) (λ row below. refl)
    ∙ sym (map-map (λ code. has_bit code bit) (λ row. binary_number (row_bits bytes row) 0 width) rows
    ∙ (λ i. map (λ row. (ap (has_bit (binary_number (row_bits bytes row) 0 width)) same
    ∙ bit_of_spelled (row_bits bytes row) 0 width k (omega arith) ∙ ap (row_bits bytes row) here) i) rows))

-- the planes of the numbers that planes spell, of this many low bits
text_of_codes : (width : ℕ) (bytes : List ℕ) → length bytes ≡ 64 * width → All (λ byte. byte < 2 ^ 8) bytes
    → (bits : ℕ) → bits ≤ width → planes_bytes bits (planes_codes width bytes) ≡ drop (64 * (width - bits)) bytes
text_of_codes width bytes long small zero le = sym (drop_all (64 * (width - 0)) bytes (omega (arith, long)))
text_of_codes width bytes long small (suc bits) le =
    let k = width - suc bits in
    let here = drop (64 * k) bytes in
    let next : 64 * (width - bits) ≡ 64 * k + 64 = omega arith in
    let size : length (take 64 here) ≡ 64 = omega (arith, length-take 64 here, length-drop (64 * k) bytes, long) in
    let kept = bytes_of_lanes_of_bytes (take 64 here) size
    (each_below (take 64 here)
    (All-take (λ byte. byte < 2 ^ 8) 64 here (All-drop (λ byte. byte < 2 ^ 8) (64 * k) bytes small))) in
    ap₂ ◌++◌ (ap bytes_of_lanes (sym (plane_of_codes width bits bytes long (omega arith))) ∙ kept)
    (text_of_codes width bytes long small bits (omega arith) ∙ ap (λ n. drop n bytes) next
    ∙ sym (drop-drop 64 (64 * k) bytes))
    ∙ take-append-drop 64 here

pub length-planes_codes : (width : ℕ) (bytes : List ℕ) → length (planes_codes width bytes) ≡ group_size
unfolding planes_codes
length-planes_codes width bytes = length-map-range_with_len (λ row. binary_number (row_bits bytes row) 0 width) 0 group_size

pub planes_keep_codes : IsPacking plane_packing
planes_keep_codes = record {
  bytes_length = λ width codes long. length-planes_bytes width codes;
  codes_length = λ width bytes long. length-planes_codes width bytes;
  text_spells = codes_of_text;
  codes_spelled = λ width bytes long small.
      let none : 64 * (width - width) ≡ 0 = omega arith in
      text_of_codes width bytes long small width (omega arith) ∙ ap (λ n. drop n bytes) none;
}
