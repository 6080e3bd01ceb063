-- Bytes of codes made of their bits, from the top one down, in many lanes at once.
use Rattle.std.proofs.Common.{◌≡◌, ◌∙◌, sym, ap, ap₂, ℕ, suc, ◌+◌, ◌-◌, ◌*◌, ◌/◌, ◌%◌, ◌^◌, ◌<◌}
use Rattle.std.proofs.Common.{min, Bool, ◌==◌, List, map, length, replicate, add-one, arith, mod-lt}
use Rattle.std.proofs.Common.{pow_mono}
use Rattle.std.proofs.lemmas.Bool.Decides.{nat_tests}
use Rattle.std.proofs.lemmas.Nat.{shr-shr, mod-pow-add, pow_pos}
use Rattle.std.proofs.lemmas.Simd.{zip2_of_maps, splat_is_map}
use lib.Lanes.{zip2}
use Rattle.bw_lanes.specs.Shifted.{with_bit}
use Rattle.bw_model.specs.Code.{has_bit}
use Rattle.bw_model.specs.StoredCodes.{byte_of}
use Rattle.bw_planes.specs.Planes.{planes_codes}
use Rattle.bw_planes.proofs.CodeLemmas.{codes_long}
use Rattle.bw_planes.proofs.CompareLemmas.{of_byte}

-- this many bits of codes from one on
abbrev pub bits_from : ℕ → ℕ → List ℕ → List ℕ
bits_from bit count codes = map (λ code. code / 2 ^ bit % 2 ^ count) codes

-- before a bit is shifted in there is none
pub no_bits : (bit : ℕ) (codes : List ℕ) → length codes ≡ 512 → replicate 512 0 ≡ bits_from bit 0 codes
no_bits bit codes long = splat_is_map codes 512 0 long ∙ (λ i. map (λ code. none code i) codes)
  where
    none : (code : ℕ) → 0 ≡ code / 2 ^ bit % 2 ^ 0
    none code = omega arith

-- one bit more
one_more : (n count : ℕ) → count < 8 → with_bit (n / 2 % 2 ^ count) (n % 2 == 1) ≡ n % 2 ^ (count + 1)
one_more n count few =
    let low = mod-lt n (pow_pos (count + 1)) in
    let most = pow_mono {i = count + 1} {j = 8} (omega arith) in
    let split = mod-pow-add n count 1 in
    grind (arith, nat_tests, split, low, most)

pub bit_more : (end place : ℕ) (codes held : List ℕ) (plane : List Bool) → place < end → place < 8 → held ≡ bits_from (end - place) place codes
    → plane ≡ map (λ code. has_bit code (end - 1 - place)) codes → zip2 with_bit held plane ≡ bits_from (end - (place + 1)) (place + 1) codes
bit_more end place codes held plane lt few before is =
    let bit = end - 1 - place in
    let above : end - place ≡ suc bit = omega arith in
    let next : bit ≡ end - (place + 1) = omega arith in
    zip2_of_maps with_bit (λ code. code / 2 ^ suc bit % 2 ^ place) (λ code. has_bit code bit) codes (before ∙ ap (λ k. bits_from k place codes) above) is
    ∙ (λ i. map (λ code. each code bit i) codes) ∙ ap (λ k. bits_from k (place + 1) codes) next
  where
    each : (code bit : ℕ) → with_bit (code / 2 ^ suc bit % 2 ^ place) (has_bit code bit) ≡ code / 2 ^ bit % 2 ^ (place + 1)
    each code bit =
        let high : code / 2 ^ suc bit ≡ code / 2 ^ bit / 2 = sym (shr-shr code bit 1 ∙ ap (λ k. code / 2 ^ k) (add-one bit)) in
        ap (λ k. with_bit (k % 2 ^ place) (has_bit code bit)) high ∙ one_more (code / 2 ^ bit) place few

-- all of a byte's bits
pub byte_whole : (width slice count place : ℕ) (bytes held : List ℕ) → 8 * slice < width → count ≡ min (width - 8 * slice) 8 → place ≡ count
    → held ≡ bits_from (8 * slice + count - place) place (planes_codes width bytes) → held ≡ map (byte_of slice) (planes_codes width bytes)
byte_whole width slice count place bytes held there is all before =
    let low : 8 * slice + count - place ≡ 8 * slice = omega (arith, all) in
    before ∙ ap₂ (λ bit digits. bits_from bit digits (planes_codes width bytes)) low all ∙ of_byte (λ n. n) width slice count bytes there is

pub ruleset byte_steps = (no_bits, bit_more, byte_whole, codes_long)
