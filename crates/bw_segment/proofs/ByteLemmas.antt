-- Codes made of their bytes, from the most significant down, in many lanes at once.
use Rattle.std.proofs.Common.{◌≡◌, ◌∙◌, sym, ap, ap₂, ℕ, suc, ◌+◌, ◌-◌, ◌*◌, ◌/◌, ◌%◌, ◌^◌, ◌<◌}
use Rattle.std.proofs.Common.{◌≤◌, List, [], ◌∷◌, map, refl, bit_or, arith, div-one, mod-eq_of_lt}
use Rattle.std.proofs.Common.{pow_mono, shr_lt}
use Rattle.std.specs.List.{AllByRecursion}
use Rattle.std.proofs.lemmas.Nat.{shr-shr, shr_le, or_shifted}
use lib.Lanes.{zip2}
use Rattle.bw_model.specs.StoredCodes.{byte_of}

-- a code with a byte shifted into it
abbrev pub with_byte : ℕ → ℕ → ℕ
with_byte code byte = (256 * code + byte) % 2 ^ 64

-- as it is computed
pub byte_shifted : (code byte : ℕ) → byte < 256 → bit_or (code * 2 ^ 8 % 2 ^ 64) byte ≡ with_byte code byte
byte_shifted code byte small =
    ap (λ k. bit_or k byte) {y = code % 2 ^ 56 * 2 ^ 8} (omega arith) ∙ or_shifted (code % 2 ^ 56) 8 byte small ∙ omega arith

-- what stands in codes from a byte on
abbrev pub codes_from : ℕ → List ℕ → List ℕ
codes_from slice codes = map (λ code. code / 2 ^ (8 * slice)) codes

-- the byte above which there is nothing
tops : (width slice : ℕ) (codes : List ℕ) → width ≤ 8 * slice + 8 → AllByRecursion (λ code. code < 2 ^ width) codes → map (byte_of slice) codes ≡ codes_from slice codes
tops width slice [] le small = refl
tops width slice (code ∷ codes) le small =
    let wide = pow_mono {i = width} {j = 8 + 8 * slice} (omega arith) in
    ap₂ ◌∷◌ (mod-eq_of_lt (shr_lt 8 (8 * slice) (omega (arith, small.0, wide)))) (tops width slice codes le small.1)

pub top_byte : (width slice : ℕ) (codes bytes : List ℕ) → width ≤ 8 * slice + 8 → AllByRecursion (λ code. code < 2 ^ width) codes → bytes ≡ map (byte_of slice) codes → bytes ≡ codes_from slice codes
top_byte width slice codes bytes le small is = is ∙ tops width slice codes le small

-- one byte more
with_bytes : (width slice : ℕ) (codes : List ℕ) → width ≤ 64 → AllByRecursion (λ code. code < 2 ^ width) codes → zip2 with_byte (codes_from (suc slice) codes) (map (byte_of slice) codes) ≡ codes_from slice codes
with_bytes width slice [] few small = refl
with_bytes width slice (code ∷ codes) few small =
    let rest = code / 2 ^ (8 * slice) in
    let most = pow_mono {i = width} {j = 64} few in
    let fits : rest < 2 ^ 64 = omega (arith, shr_le code (8 * slice), small.0, most) in
    ap₂ ◌∷◌ (ap (λ k. with_byte (code / 2 ^ k) (rest % 256)) {x = 8 * suc slice} {y = 8 * slice + 8} (omega arith) ∙ ap (λ k. with_byte k (rest % 256)) (sym (shr-shr code (8 * slice) 8))
    ∙ ap (λ k. k % 2 ^ 64) {x = 256 * (rest / 256) + rest % 256} {y = rest} (omega arith) ∙ mod-eq_of_lt fits)
    (with_bytes width slice codes few small.1)

pub byte_more : (width slices place : ℕ) (codes held bytes : List ℕ) → place < slices → width ≤ 64 → AllByRecursion (λ code. code < 2 ^ width) codes → held ≡ codes_from (slices - place) codes
    → bytes ≡ map (byte_of (slices - 1 - place)) codes → zip2 with_byte held bytes ≡ codes_from (slices - (place + 1)) codes
byte_more width slices place codes held bytes lt few small before is =
    let slice = slices - 1 - place in
    ap₂ (zip2 with_byte) (before ∙ ap (λ k. codes_from k codes) {x = slices - place} {y = suc slice} (omega arith)) is
    ∙ with_bytes width slice codes few small ∙ ap (λ k. codes_from k codes) {x = slice} {y = slices - (place + 1)} (omega arith)

-- from byte 0 on there are the codes
pub codes_whole : (slice : ℕ) (codes : List ℕ) → slice ≡ 0 → codes_from slice codes ≡ codes
codes_whole slice [] least = refl
codes_whole slice (code ∷ codes) least = ap₂ ◌∷◌ (ap (λ k. code / 2 ^ (8 * k)) least ∙ div-one code) (codes_whole slice codes least)
