-- The ones at the lower end of a number, which change no comparison of others with it.
use Rattle.std.proofs.Common.{◌≡◌, ◌∙◌, sym, ap, inl, inr, ℕ, zero, suc, ◌+◌, ◌*◌, ◌/◌, ◌%◌, ◌^◌}
use Rattle.std.proofs.Common.{◌<◌, ◌≤◌, ltb, w64, arith, pow_mono, shr_lt}
use Rattle.std.specs.Int.{bit_at, trailing_ones}
use Rattle.std.proofs.Math.Nat.{mod-eq_of_lt, mod-lt, mul-le-mul_right, two-pow-succ}
use Rattle.std.proofs.lemmas.Bool.{cases_lt, le-ltb, lt-ltb}
use Rattle.std.proofs.lemmas.Nat.{div-add-mod', mod-pow-add, pow_pos}
use Rattle.std.proofs.lemmas.Nat.Bits.{bit_at-trailing_ones}
use Rattle.bw_segment.proofs.DescentLemmas.{below}

ones_below : (n low : ℕ) → ((i : ℕ) → i < low → bit_at n i ≡ 1) → (k : ℕ) → k ≤ low → n % 2 ^ k + 1 ≡ 2 ^ k
ones_below n low set zero le = omega arith
ones_below n low set (suc k) le =
    let cut = ap (λ j. n % 2 ^ j) {x = suc k} {y = 1 + k} (omega arith) ∙ mod-pow-add n 1 k ∙ ap (λ b. b * 2 ^ k + n % 2 ^ k) (set k (omega arith)) in
    omega (arith, cut, ones_below n low set k (omega arith), two-pow-succ k)

-- they are no more than the number's digits
pub lowest_ones : (n k width : ℕ) → n < 2 ^ width → width ≤ 63 → k ≤ trailing_ones w64 n → (n % 2 ^ k + 1 ≡ 2 ^ k) × (k ≤ width)
lowest_ones n k width small few le =
    let most = pow_mono {i = width} {j = 63} few in
    let ones = ones_below n (trailing_ones w64 n) (bit_at-trailing_ones w64 n (omega (arith, small, most))).2 k le in (
      ones,
      elim (cases_lt width k) [
        | inl more ↦
            let wide = pow_mono {i = suc width} {j = k} (omega arith) in
            absurd (omega (arith, wide, two-pow-succ width, mod-eq_of_lt {n = n} {m = 2 ^ k} (omega (arith, small, wide, two-pow-succ width)), small, ones))
        | inr within ↦ within
      ],
    )

pub without_ones : (n k digits width : ℕ) → n < 2 ^ width → width ≤ digits + k → n / 2 ^ k < 2 ^ digits
without_ones n k digits width small le = let wide = pow_mono {i = width} {j = digits + k} le in shr_lt digits k (omega (arith, small, wide))

-- what stands above them tells alone
pub above_ones : (most n k : ℕ) → most % 2 ^ k + 1 ≡ 2 ^ k → ltb (most / 2 ^ k) (n / 2 ^ k) ≡ ltb most n
above_ones most n k ones = elim (cases_lt (most / 2 ^ k) (n / 2 ^ k)) [
  | inl lt ↦ lt-ltb (most / 2 ^ k) (n / 2 ^ k) lt ∙ sym (lt-ltb most n (below most n (2 ^ k) (pow_pos k) lt))
  | inr le ↦
      let high = mul-le-mul_right {m = n / 2 ^ k} {n = most / 2 ^ k} (2 ^ k) le in
      le-ltb (most / 2 ^ k) (n / 2 ^ k) le ∙ sym (le-ltb most n (omega (arith, high, div-add-mod' n (2 ^ k), div-add-mod' most (2 ^ k), mod-lt n (pow_pos k), ones)))
]
