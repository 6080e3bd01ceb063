-- Slices keep codes: the slices of codes spell them, and what slices spell has these slices.
use Rattle.std.proofs.Common.{◌≡◌, ◌∙◌, refl, sym, ap, ap₂, ℕ, zero, suc, ◌+◌, ◌-◌, ◌*◌, ◌/◌, ◌%◌}
use Rattle.std.proofs.Common.{◌^◌, ◌<◌, ◌≤◌, List, [], ◌∷◌, ◌++◌, map, length, take, drop, get_or}
use Rattle.std.proofs.Common.{length-append, arith}
use Rattle.std.specs.List.{range_with_len, All}
use Rattle.std.proofs.Math.Nat.{div-one, div-div-eq-div-mul, div-eq_of_lt}
use Rattle.std.proofs.Math.Pow.{pow_mono}
use Rattle.std.proofs.Math.Seq.{take-append_seam, drop-append-add, drop-drop}
use Rattle.std.proofs.lemmas.Nat.{pow-add, shr-shr}
use Rattle.std.proofs.lemmas.List.{take-append-drop, drop_all, length-map, length-take, length-drop}
use Rattle.std.proofs.lemmas.List.{get_or-map, get_or-take, get_or-drop}
use Rattle.std.proofs.lemmas.List.FromFn.{fill_by_all, length-map-range_with_len}
use Rattle.std.proofs.lemmas.Simd.{map-map}
use Rattle.bw_model.specs.Groups.{group_size}
use Rattle.bw_model.specs.StoredCodes.{byte_of}
use Rattle.bw_segment.specs.Packing.{IsPacking}
use Rattle.bw_slices.specs.Slices.{number_from, slices_bytes, slices_codes, slice_packing}

-- a number down to a byte, by the bytes before it
pub next_byte : (n bit : ℕ) → n / 2 ^ bit ≡ 256 * (n / 2 ^ (bit + 8)) + n / 2 ^ bit % 256
next_byte n bit = let above = shr-shr n bit 8 in omega (arith, above)

-- the bytes of a number spell it, the most significant first
number_of_bytes : (byte : ℕ → ℕ) (slices n : ℕ) → n < 2 ^ (8 * slices)
    → ((place : ℕ) → place < slices → byte place ≡ byte_of (slices - suc place) n) → (count : ℕ) → count ≤ slices
    → number_from byte count ≡ n / 2 ^ (8 * (slices - count))
number_of_bytes byte slices n small each zero le =
    let all : slices - 0 ≡ slices = omega arith in sym (ap (λ k. n / 2 ^ (8 * k)) all ∙ div-eq_of_lt small)
number_of_bytes byte slices n small each (suc count) le =
    let rest = slices - suc count in
    let before : 8 * (slices - count) ≡ 8 * rest + 8 = omega arith in
    ap₂ (λ a b. 256 * a + b) (number_of_bytes byte slices n small each count (omega arith) ∙ ap (λ k. n / 2 ^ k) before)
    (each count le) ∙ sym (next_byte n (8 * rest))

-- and the number that bytes spell has these bytes
pub number_of_front : (byte : ℕ → ℕ) (count rest : ℕ) → ((place : ℕ) → byte place < 256)
    → number_from byte (count + rest) / 2 ^ (8 * rest) ≡ number_from byte count
number_of_front byte count zero small =
    let same : count + 0 ≡ count = omega arith in
    ap (λ k. number_from byte k / 1) same ∙ div-one (number_from byte count)
number_of_front byte count (suc rest) small =
    let next : count + suc rest ≡ suc (count + rest) = omega arith in
    let more : 8 * suc rest ≡ 8 + 8 * rest = omega arith in
    let low = small (count + rest) in
    let high : (256 * number_from byte (count + rest) + byte (count + rest)) / 256
    ≡ number_from byte (count + rest) = omega arith in
    ap₂ (λ k p. number_from byte k / 2 ^ p) next more
    ∙ ap (λ p. number_from byte (suc (count + rest)) / p) (pow-add 2 8 (8 * rest))
    ∙ sym (div-div-eq-div-mul (number_from byte (suc (count + rest))) 256 (2 ^ (8 * rest)))
    ∙ ap (λ n. n / 2 ^ (8 * rest)) high ∙ number_of_front byte count rest small

pub byte_of_number : (byte : ℕ → ℕ) (count k : ℕ) → ((place : ℕ) → byte place < 256) → k < count
    → byte_of (count - suc k) (number_from byte count) ≡ byte k
byte_of_number byte count k small lt =
    let whole : suc k + (count - suc k) ≡ count = omega arith in
    let low = small k in
    let last : (256 * number_from byte k + byte k) % 256 ≡ byte k = omega arith in
    ap (λ n. number_from byte n / 2 ^ (8 * (count - suc k)) % 256) (sym whole)
    ∙ ap (λ n. n % 256) (number_of_front byte (suc k) (count - suc k) small) ∙ last

-- the byte of a row in each slice
abbrev pub bytes_in : List ℕ → ℕ → ℕ → ℕ
bytes_in bytes row place = get_or bytes (512 * place + row) 0

-- a slice by its rows
slice_is : (bytes : List ℕ) (place : ℕ) → 512 * suc place ≤ length bytes
    → take 512 (drop (512 * place) bytes) ≡ map (λ row. bytes_in bytes row place) (range_with_len 0 512)
slice_is bytes place le =
    fill_by_all (λ row. bytes_in bytes row place) (take 512 (drop (512 * place) bytes)) 512 0
    (omega (arith, length-take 512 (drop (512 * place) bytes), length-drop (512 * place) bytes))
    (λ row lt. get_or-take 512 (drop (512 * place) bytes) row 0 lt ∙ get_or-drop (512 * place) bytes row 0)

length-slices_bytes : (slices : ℕ) (codes : List ℕ) → length codes ≡ 512
    → length (slices_bytes slices codes) ≡ 512 * slices
length-slices_bytes zero codes long = refl
length-slices_bytes (suc slices) codes long =
    omega (
      arith,
      length-append (map (byte_of slices) codes) (slices_bytes slices codes),
      length-map codes (byte_of slices),
      length-slices_bytes slices codes long,
      long,
    )

-- a slice of codes
slice_of_text : (slices k : ℕ) (codes : List ℕ) → length codes ≡ 512 → k < slices
    → take 512 (drop (512 * k) (slices_bytes slices codes)) ≡ map (byte_of (slices - suc k)) codes
slice_of_text zero k codes long lt = absurd (omega arith)
slice_of_text (suc slices) zero codes long lt =
    let top = map (byte_of slices) codes in
    let size : length top ≡ 512 = length-map codes (byte_of slices) ∙ long in
    let here : slices ≡ suc slices - 1 = omega arith in
    ap (λ n. take n (top ++ slices_bytes slices codes)) (sym size) ∙ take-append_seam top (slices_bytes slices codes)
    ∙ ap (λ s. map (byte_of s) codes) here
slice_of_text (suc slices) (suc k) codes long lt =
    let top = map (byte_of slices) codes in
    let place : 512 * suc k ≡ length top + 512 * k = omega (arith, length-map codes (byte_of slices), long) in
    let same : slices - suc k ≡ suc slices - suc (suc k) = omega arith in
    ap (λ n. take 512 (drop n (top ++ slices_bytes slices codes))) place
    ∙ ap (take 512) (drop-append-add top (slices_bytes slices codes) (512 * k))
    ∙ slice_of_text slices k codes long (omega arith) ∙ ap (λ s. map (byte_of s) codes) same

-- the numbers that the slices of codes spell
codes_of_text : (slices : ℕ) (codes : List ℕ) → length codes ≡ group_size
    → ((row : ℕ) → row < 512 → get_or codes row 0 < 2 ^ (8 * slices))
    → slices_codes slices (slices_bytes slices codes) ≡ codes
unfolding slices_codes group_size
codes_of_text slices codes long small =
    let text = slices_bytes slices codes in
    sym (fill_by_all (λ row. number_from (bytes_in text row) slices) codes 512 0 long
    (λ row lt.
    let code = get_or codes row 0 in
    let none : slices - slices ≡ 0 = omega arith in
    sym (number_of_bytes (bytes_in text row) slices code (small row lt)
    (λ k below.
    sym (get_or-take 512 (drop (512 * k) text) row 0 lt ∙ get_or-drop (512 * k) text row 0)
    ∙ ap (λ l. get_or l row 0) (slice_of_text slices k codes long below)
    ∙ get_or-map (byte_of (slices - suc k)) codes row 0 0 (omega (arith, long)))
    slices (omega arith) ∙ ap (λ k. code / 2 ^ (8 * k)) none ∙ div-one code)))

-- the slices of the numbers that slices spell
pub slice_of_codes : (slices k : ℕ) (bytes : List ℕ) → 512 * slices ≤ length bytes
    → ((at : ℕ) → get_or bytes at 0 < 256) → k < slices
    → map (byte_of (slices - suc k)) (slices_codes slices bytes) ≡ take 512 (drop (512 * k) bytes)
unfolding slices_codes group_size
slice_of_codes slices k bytes long small lt =
    map-map (byte_of (slices - suc k)) (λ row. number_from (bytes_in bytes row) slices) (range_with_len 0 512)
    ∙ (λ i. map (λ row. byte_of_number (bytes_in bytes row) slices k (λ place. small (512 * place + row)) lt i)
    (range_with_len 0 512)) ∙ sym (slice_is bytes k (omega (arith, long)))

text_of_codes : (slices : ℕ) (bytes : List ℕ) → length bytes ≡ 512 * slices → ((at : ℕ) → get_or bytes at 0 < 256)
    → (count : ℕ) → count ≤ slices
    → slices_bytes count (slices_codes slices bytes) ≡ drop (512 * (slices - count)) bytes
text_of_codes slices bytes long small zero le = sym (drop_all (512 * (slices - 0)) bytes (omega (arith, long)))
text_of_codes slices bytes long small (suc count) le =
    let k = slices - suc count in
    let slice : count ≡ slices - suc k = omega arith in
    let next : 512 * (slices - count) ≡ 512 * k + 512 = omega arith in
    ap₂ ◌++◌ (ap (λ s. map (byte_of s) (slices_codes slices bytes)) slice
    ∙ slice_of_codes slices k bytes (omega (arith, long)) small (omega arith))
    (text_of_codes slices bytes long small count (omega arith) ∙ ap (λ n. drop n bytes) next
    ∙ sym (drop-drop 512 (512 * k) bytes))
    ∙ take-append-drop 512 (drop (512 * k) bytes)

each_small : (bytes : List ℕ) → All (λ byte. byte < 2 ^ 8) bytes → (at : ℕ) → get_or bytes at 0 < 256
each_small [] small at = omega arith
each_small (byte ∷ bytes) small zero = small 0 0 (omega arith)
each_small (byte ∷ bytes) small (suc at) = each_small bytes (λ k d lt. small (suc k) d (omega arith)) at

pub length-slices_codes : (slices : ℕ) (bytes : List ℕ) → length (slices_codes slices bytes) ≡ 512
unfolding slices_codes group_size
length-slices_codes slices bytes = length-map-range_with_len (λ row. number_from (bytes_in bytes row) slices) 0 512

pub slices_keep_codes : IsPacking slice_packing
unfolding group_size
slices_keep_codes = record {
  bytes_length = λ width codes long. length-slices_bytes ((width + 7) / 8) codes long;
  codes_length = λ width bytes long. length-slices_codes ((width + 7) / 8) bytes;
  text_spells = λ width codes long small.
      codes_of_text ((width + 7) / 8) codes long
      (λ row lt.
      let wide = pow_mono {i = width} {j = 8 * ((width + 7) / 8)} (omega arith) in
      omega (arith, small row 0 (omega (arith, long)), wide));
  codes_spelled = λ width bytes long small.
      let slices = (width + 7) / 8 in
      let none : 512 * (slices - slices) ≡ 0 = omega arith in
      text_of_codes slices bytes long (each_small bytes small) slices (omega arith) ∙ ap (λ n. drop n bytes) none;
}
