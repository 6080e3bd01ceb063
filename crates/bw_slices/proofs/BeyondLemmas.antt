-- The highest bytes of codes, which tell in nearly all segments that none is beyond another one.
use Rattle.std.proofs.Common.{◌≡◌, ◌∙◌, refl, sym, ap, subst, inl, inr, ℕ, ◌+◌, ◌-◌, ◌*◌, ◌/◌, ◌^◌}
use Rattle.std.proofs.Common.{◌<◌, ◌≤◌, Bool, true, false, not, cond, ltb, ◌||◌, List, [], ◌∷◌, arith}
use Rattle.std.proofs.Common.{le-ltb, lt-ltb, ltb-true, ltb-false, pow_pos}
use Rattle.std.specs.List.{list_any}
use Rattle.std.proofs.Math.Bool.{not-not}
use Rattle.std.proofs.Math.Nat.{div_self}
use Rattle.std.proofs.lemmas.Bool.{cases_lt, or_parts}
use Rattle.std.proofs.lemmas.Nat.{pow-add}
use Rattle.bw_segment.specs.Selected.{is_beyond}
use Rattle.bw_segment.proofs.DescentLemmas.{below}

-- not above the number before another one is below that one
pub not_above : (n c : ℕ) → (c ≡ 0 → ⊥) → not (ltb (c - 1) n) ≡ ltb n c
not_above n c some = elim (cases_lt n c) [
  | inl less ↦ ap not (le-ltb (c - 1) n (omega (arith, less))) ∙ sym (lt-ltb n c less)
  | inr past ↦ ap not (lt-ltb (c - 1) n (positive past)) ∙ sym (le-ltb n c past)
]
  where
    positive : c ≤ n → c - 1 < n
    positive le = elim (cases_lt 0 c) [
      | inl more ↦ omega (arith, more, le)
      | inr none ↦ absurd (some (omega (arith, none)))
    ]

-- a number has the digits of which it has none above
pub no_more : (n width : ℕ) → n / 2 ^ width ≡ 0 → n < 2 ^ width
no_more n width none = below n (2 ^ width) (2 ^ width) (pow_pos width) (omega (arith, none, div_self (pow_pos width)))

pub whole_fits : (n slices low : ℕ) → n < 2 ^ (8 * (slices + low)) → n + 1 ≤ 2 ^ (8 * low) * 2 ^ (8 * slices)
whole_fits n slices low small =
    let all : 8 * (slices + low) ≡ 8 * low + 8 * slices = omega arith in
    let fits = subst (λ k. n < 2 ^ k) all small in
    omega (arith, fits, pow-add 2 (8 * low) (8 * slices))

-- a code without its lowest bytes, this many, doesn't show that it isn't beyond another one
abbrev pub is_near : Bool → ℕ → ℕ → ℕ → Bool
is_near greatest low other code = cond greatest (not (ltb (code / 2 ^ (8 * low)) ((other + 1) / 2 ^ (8 * low)))) (ltb (code / 2 ^ (8 * low)) ((other - 1) / 2 ^ (8 * low) + 1))

apart : (greatest : Bool) (low other code : ℕ) → is_near greatest low other code ≡ false → is_beyond greatest other code ≡ false
apart true low other code far =
    let lower = ltb-true (code / 2 ^ (8 * low)) ((other + 1) / 2 ^ (8 * low)) (sym (not-not _) ∙ ap not far) in
    let lt : code < other + 1 = below code (other + 1) (2 ^ (8 * low)) (pow_pos (8 * low)) lower in
    le-ltb other code (omega (arith, lt))
apart false low other code far =
    let higher = ltb-false (code / 2 ^ (8 * low)) ((other - 1) / 2 ^ (8 * low) + 1) far in
    let lt : other - 1 < code = below (other - 1) code (2 ^ (8 * low)) (pow_pos (8 * low)) (omega (arith, higher)) in
    le-ltb code other (omega (arith, lt))

-- no code is beyond another one if the highest bytes show it of each
pub none_beyond : (greatest : Bool) (low other : ℕ) (codes : List ℕ) → list_any (is_near greatest low other) codes ≡ false → list_any (is_beyond greatest other) codes ≡ false
none_beyond greatest low other [] far = refl
none_beyond greatest low other (code ∷ codes) far =
    let parts = or_parts (is_near greatest low other code) _ far in
    ap (λ b. b || list_any (is_beyond greatest other) codes) (apart greatest low other code parts.0) ∙ none_beyond greatest low other codes parts.1
