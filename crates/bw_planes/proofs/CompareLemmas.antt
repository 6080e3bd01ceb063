-- Some bits of codes, compared bit by bit with a constant: from the top bit down, or from the least
-- one up.
use Rattle.std.proofs.Common.{◌≡◌, ◌∙◌, refl, sym, ap, ap₂, subst, ℕ, ◌+◌, ◌-◌, ◌*◌, ◌/◌, ◌%◌, ◌^◌}
use Rattle.std.proofs.Common.{◌<◌, Bool, true, false, not, cond, ltb, eqb, ◌==◌, ◌&&◌, ◌||◌, List}
use Rattle.std.proofs.Common.{map, length, bit_and, replicate, min, inl, inr, arith, pow_mono}
use Rattle.std.proofs.Common.{shr_lt, div-add-mod', shr-shr, pow_pos, lt-ltb, le-ltb}
use Rattle.std.proofs.Math.Nat.{div-eq_of_lt, mod-eq_of_lt, mod-lt}
use Rattle.std.proofs.lemmas.Bool.{cases_lt}
use Rattle.std.proofs.lemmas.Bool.Decides.{nat_tests}
use Rattle.std.proofs.lemmas.Nat.Bits.{shr_and_one}
use Rattle.std.proofs.lemmas.Simd.{map-map, zip2_of_maps, splat_is_map}
use lib.Lanes.{zip2}
use Rattle.bw_lanes.specs.Lanes.{lanes_of_words}
use Rattle.bw_lanes.proofs.WordLemmas.{mapped_right, ones_are_one, zeros_are_zero}
use Rattle.bw_model.specs.Code.{has_bit}
use Rattle.bw_model.specs.StoredCodes.{byte_of}
use Rattle.bw_planes.specs.Planes.{planes_codes}
use Rattle.bw_planes.proofs.KeptLemmas.{low_more}
use Rattle.bw_planes.proofs.CodeLemmas.{codes_agree, codes_long}

pub zip2_map_right : {A B C D : Type 0} (f : A → C → D) (g : B → C) (xs : List A) (ys : List B) → zip2 f xs (map g ys) ≡ zip2 (λ x y. f x (g y)) xs ys
zip2_map_right = mapped_right

-- the same in every lane
pub everywhere : (codes : List ℕ) (test : ℕ → Bool) (b : Bool) (lanes : List Bool) → length codes ≡ 512 → lanes ≡ replicate 512 b → ((code : ℕ) → b ≡ test code) → lanes ≡ map test codes
everywhere codes test b lanes long is same = is ∙ splat_is_map codes 512 b long ∙ (λ i. map (λ code. same code i) codes)

-- a bit of what stands in a code from another one on
bit_from : (code low bit : ℕ) → has_bit code (low + bit) ≡ has_bit (code / 2 ^ low) bit
bit_from code low bit = ap (λ n. n % 2 == 1) (sym (shr-shr code low bit))

-- a constant that has a 1 above this many bits is above every number of these
pub above_all : (n count c : ℕ) → (c / 2 ^ count ≡ 0 → ⊥) → n % 2 ^ count < c
above_all n count c some = elim (cases_lt c (2 ^ count)) [
  | inl less ↦ absurd (some (div-eq_of_lt less))
  | inr not_less ↦ omega (arith, mod-lt n (pow_pos count))
]

-- a byte of a code is below a multiple of 8 if the eighths are
eighths : (n c : ℕ) → c % 8 ≡ 0 → ltb (n / 2 ^ 3 % 2 ^ 5) (c / 8) ≡ ltb (n % 2 ^ 8) c
eighths n c multiple = elim (cases_lt (n % 2 ^ 8) c) [
  | inl less ↦ lt-ltb _ _ (omega (arith, less, multiple)) ∙ sym (lt-ltb _ _ less)
  | inr not_less ↦ le-ltb _ _ (omega (arith, not_less, multiple)) ∙ sym (le-ltb _ _ not_less)
]

pub by_eighths : (low count c eighth : ℕ) → count ≡ 8 → c % 8 ≡ 0 → eighth ≡ c / 8 → (code : ℕ) → ltb (code / 2 ^ (low + 3) % 2 ^ 5) eighth ≡ ltb (code / 2 ^ low % 2 ^ count) c
by_eighths low count c eighth whole multiple is code =
    ap₂ (λ k e. ltb (k % 2 ^ 5) e) (sym (shr-shr code low 3)) is ∙ eighths (code / 2 ^ low) c multiple ∙ ap (λ k. ltb (code / 2 ^ low % 2 ^ k) c) (sym whole)

-- A test of numbers by their highest bit and those below it: in codes, with one bit more.
abbrev pub IsByBit : (ℕ → ℕ → Bool) → (Bool → Bool → Bool → Bool) → Type 0
IsByBit test step = (s t p : ℕ) (b one : Bool) → s < p → t < p → step one (test s t) b ≡ test (cond b p 0 + s) (cond one p 0 + t)

at_least_by_bit : IsByBit (λ s t. not (ltb s t)) (λ one a p. cond one (a && p) (a || p))
at_least_by_bit s t p b one ls lt = grind (arith, nat_tests, ls, lt)

equal_by_bit : IsByBit eqb (λ one e p. e && cond one p (not p))
equal_by_bit s t p b one ls lt = grind (arith, nat_tests, ls, lt)

-- how this many bits of codes, from one on, stand to those of a constant
unfoldable pub compared_in : (ℕ → ℕ → Bool) → ℕ → ℕ → ℕ → List ℕ → List Bool
compared_in test low bits c codes = map (λ code. test (code / 2 ^ low % 2 ^ bits) (c % 2 ^ bits)) codes

pub compared_none : (test : ℕ → ℕ → Bool) (low c : ℕ) (codes : List ℕ) → true ≡ test 0 0 → length codes ≡ 512 → compared_in test low 0 c codes ≡ lanes_of_words (replicate 8 (2 ^ 64 - 1))
unfolding compared_in
compared_none test low c codes same long = sym (everywhere codes (λ code. test (code / 2 ^ low % 2 ^ 0) (c % 2 ^ 0)) true _ long ones_are_one none)
  where
    none : (code : ℕ) → true ≡ test (code / 2 ^ low % 2 ^ 0) (c % 2 ^ 0)
    none code =
        let no_bits : 0 ≡ code / 2 ^ low % 2 ^ 0 = omega arith in
        let nothing : 0 ≡ c % 2 ^ 0 = omega arith in
        same ∙ ap₂ test no_bits nothing

compared_more : (test : ℕ → ℕ → Bool) (step : Bool → Bool → Bool → Bool) → IsByBit test step → (low bits c : ℕ) (codes : List ℕ)
    → compared_in test low (bits + 1) c codes ≡ zip2 (step (bit_and (c / 2 ^ bits) 1 == 1)) (compared_in test low bits c codes) (map (λ code. has_bit code (low + bits)) codes)
unfolding compared_in
compared_more test step by_bit low bits c codes =
    sym ((λ i. zip2 (step (shr_and_one c bits i == 1)) (map (λ code. test (code / 2 ^ low % 2 ^ bits) (c % 2 ^ bits)) codes) (map (λ code. has_bit code (low + bits)) codes))
    ∙ zip2_of_maps (step (has_bit c bits)) (λ code. test (code / 2 ^ low % 2 ^ bits) (c % 2 ^ bits)) (λ code. has_bit code (low + bits)) codes refl refl ∙ (λ i. map (λ code. more code i) codes))
  where
    more : (code : ℕ) → step (has_bit c bits) (test (code / 2 ^ low % 2 ^ bits) (c % 2 ^ bits)) (has_bit code (low + bits)) ≡ test (code / 2 ^ low % 2 ^ (bits + 1)) (c % 2 ^ (bits + 1))
    more code =
        let n = code / 2 ^ low in
        ap (step (has_bit c bits) (test (n % 2 ^ bits) (c % 2 ^ bits))) (bit_from code low bits)
        ∙ by_bit (n % 2 ^ bits) (c % 2 ^ bits) (2 ^ bits) (has_bit n bits) (has_bit c bits) (mod-lt n (pow_pos bits)) (mod-lt c (pow_pos bits)) ∙ sym (ap₂ test (low_more n bits) (low_more c bits))

pub at_least_more : (low bits c : ℕ) (codes : List ℕ) → compared_in (λ s t. not (ltb s t)) low (bits + 1) c codes
    ≡ zip2 (λ a p. cond (bit_and (c / 2 ^ bits) 1 == 1) (a && p) (a || p)) (compared_in (λ s t. not (ltb s t)) low bits c codes) (map (λ code. has_bit code (low + bits)) codes)
at_least_more = compared_more (λ s t. not (ltb s t)) (λ one a p. cond one (a && p) (a || p)) at_least_by_bit

pub equal_more : (low bits c : ℕ) (codes : List ℕ) → compared_in eqb low (bits + 1) c codes
    ≡ zip2 (λ e p. e && cond (bit_and (c / 2 ^ bits) 1 == 1) p (not p)) (compared_in eqb low bits c codes) (map (λ code. has_bit code (low + bits)) codes)
equal_more = compared_more eqb (λ one e p. e && cond one p (not p)) equal_by_bit

-- with a constant that has no higher bit
pub compared_all : (test : ℕ → ℕ → Bool) (low bits count c : ℕ) (codes : List ℕ) → bits ≡ count → c / 2 ^ count ≡ 0
    → compared_in test low bits c codes ≡ map (λ code. test (code / 2 ^ low % 2 ^ count) c) codes
unfolding compared_in
compared_all test low bits count c codes same none =
    let whole : c % 2 ^ count ≡ c = omega (arith, div-add-mod' c (2 ^ count), ap (λ q. q * 2 ^ count) none) in
    ap (λ k. map (λ code. test (code / 2 ^ low % 2 ^ k) (c % 2 ^ k)) codes) same ∙ ap (λ m. map (λ code. test (code / 2 ^ low % 2 ^ count) m) codes) whole

pub ruleset comparison = (compared_none, at_least_more, equal_more, compared_all, codes_long)

-- the bits of a byte of a number of this many digits are this byte
byte_bits : (code width slice count : ℕ) → code < 2 ^ width → 8 * slice < width → count ≡ min (width - 8 * slice) 8 → code / 2 ^ (8 * slice) % 2 ^ count ≡ byte_of slice code
byte_bits code width slice count small there is = elim (cases_lt (width - 8 * slice) 8) [
  | inl fewer ↦
      let split : width ≡ count + 8 * slice = omega (arith, is) in
      let high : code / 2 ^ (8 * slice) < 2 ^ count = shr_lt count (8 * slice) (subst (λ k. code < 2 ^ k) split small) in
      let wide = pow_mono {i = count} {j = 8} (omega (arith, is)) in
      mod-eq_of_lt high ∙ sym (mod-eq_of_lt (omega (arith, high, wide)))
  | inr eight ↦ let all : count ≡ 8 = omega (arith, is) in ap (λ k. code / 2 ^ (8 * slice) % 2 ^ k) all
]

pub of_byte : {A : Type 0} (f : ℕ → A) (width slice count : ℕ) (bytes : List ℕ) → 8 * slice < width → count ≡ min (width - 8 * slice) 8
    → map (λ code. f (code / 2 ^ (8 * slice) % 2 ^ count)) (planes_codes width bytes) ≡ map (λ code. f (byte_of slice code)) (planes_codes width bytes)
of_byte f width slice count bytes there is = codes_agree _ _ width bytes (λ code small. ap f (byte_bits code width slice count small there is))

-- negated comparisons
pub above_or_not : (n most : ℕ) → not (ltb n (most + 1)) ≡ ltb most n
above_or_not n most = grind (arith, nat_tests)

not_not : (b : Bool) → not (not b) ≡ b
not_not b = grind (arith, nat_tests)

pub negated : (test : ℕ → Bool) (codes : List ℕ) → map not (map (λ code. not (test code)) codes) ≡ map test codes
negated test codes = map-map not (λ code. not (test code)) codes ∙ (λ i. map (λ code. not_not (test code) i) codes)

-- in which lanes the lowest bits, this many, aren't all 0
unfoldable pub used_in : ℕ → List ℕ → List Bool
used_in bits codes = map (λ code. not (code % 2 ^ bits == 0)) codes

pub used_none : (codes : List ℕ) → length codes ≡ 512 → used_in 0 codes ≡ lanes_of_words (replicate 8 0)
unfolding used_in
used_none codes long = sym (everywhere codes (λ code. not (code % 2 ^ 0 == 0)) false _ long zeros_are_zero none)
  where
    none : (n : ℕ) → false ≡ not (n % 2 ^ 0 == 0)
    none n = let no_bits : n % 2 ^ 0 ≡ 0 = omega arith in sym (ap (λ k. not (k == 0)) no_bits)

pub used_more : (bit : ℕ) (codes : List ℕ) → used_in (bit + 1) codes ≡ zip2 (λ x y. x || y) (used_in bit codes) (map (λ code. has_bit code bit) codes)
unfolding used_in
used_more bit codes =
    sym (zip2_of_maps (λ x y. x || y) (λ code. not (code % 2 ^ bit == 0)) (λ code. has_bit code bit) codes refl refl
    ∙ (λ i. map (λ code. (one_more (code % 2 ^ bit) (2 ^ bit) (has_bit code bit) (pow_pos bit) ∙ ap (λ n. not (n == 0)) (sym (low_more code bit))) i) codes))
  where
    one_more : (s p : ℕ) (b : Bool) → 0 < p → (not (eqb s 0) || b) ≡ not (eqb (cond b p 0 + s) 0)
    one_more s p b some = grind (arith, nat_tests, some)

pub used_all : (bits width : ℕ) (bytes : List ℕ) → bits ≡ width → used_in bits (planes_codes width bytes) ≡ map (λ code. not (code == 0)) (planes_codes width bytes)
unfolding used_in
used_all bits width bytes all =
    codes_agree _ _ width bytes (λ code small. ap (λ k. not (code % 2 ^ k == 0)) all ∙ ap (λ n. not (n == 0)) (mod-eq_of_lt small))

pub ruleset used_steps = (used_none, used_more, used_all, codes_long)
