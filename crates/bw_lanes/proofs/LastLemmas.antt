-- The lanes of a word from its top on.
use Rattle.std.proofs.Common.{◌≡◌, ◌∙◌, ℕ, suc, ◌+◌, ◌-◌, ◌*◌, ◌/◌, ◌%◌, ◌^◌, ◌<◌, ◌≤◌, ◌==◌, true}
use Rattle.std.proofs.Common.{false, List, length, get_or, sym, ap, arith, inl, inr, eq-zero-or-pos}
use Rattle.std.proofs.lemmas.Nat.{leading_top, pow_pos}
use Rattle.std.proofs.lemmas.Nat.Bits.{bit_at-zero, bit_at_above, bit_at_cat_high}
use Rattle.std.specs.Int.{bit_at}
use Rattle.std.specs.Int.Count.{count_leading_zeros, leading_of_zero}
use Rattle.bw_lanes.specs.Lanes.{lanes_of_words}
use Rattle.bw_lanes.proofs.BitLemmas.{bit_of_low}
use Rattle.bw_lanes.proofs.WordLemmas.{lane_at}

-- a bit of a number that is shifted up, within 64 bits
bit_shifted : (word s bit : ℕ) → bit + s < 64 → bit_at (word * 2 ^ s % 2 ^ 64) (bit + s) ≡ bit_at word bit
bit_shifted word s bit within =
    bit_of_low 64 (word * 2 ^ s) (bit + s) within ∙ ap (λ n. bit_at n (bit + s)) {y = word * 2 ^ s + 0} (omega arith)
    ∙ bit_at_cat_high word s 0 (bit + s) (pow_pos s) (omega arith) ∙ ap (bit_at word) (omega arith)

top_bit : (n j : ℕ) → 2 ^ j ≤ n → n < 2 ^ suc j → bit_at n j ≡ 1
top_bit n j from to =
    ap (λ k. bit_at k j) {x = n} (omega arith) ∙ bit_at_cat_high 1 j (n - 2 ^ j) j (omega arith) (omega arith) ∙ ap (bit_at 1) {y = 0} (omega arith)

-- the bits of a number from its leading zeros on, and the one below these
leading : (a place : ℕ) → a < 2 ^ 64 → (64 ≤ place + count_leading_zeros 64 a → bit_at a place ≡ 0) × (place + count_leading_zeros 64 a ≡ 63 → bit_at a place ≡ 1)
leading a place fits = elim (eq-zero-or-pos a) [
  | inl none ↦ (λ _. ap (λ n. bit_at n place) none ∙ bit_at-zero place, λ is. absurd (omega (arith, ap (count_leading_zeros 64) none, leading_of_zero 64)))
  | inr some ↦
      let top = leading_top 64 a some fits in
      (λ above. bit_at_above a (suc top.0) place top.3 (omega (arith, top.1)), λ is. ap (bit_at a) (omega (arith, top.1)) ∙ top_bit a top.0 top.2 top.3)
]

-- a lane of the word that has a top one, if the lanes above that one are shifted out
lane_shifted : (words : List ℕ) (top lane : ℕ) → length words ≡ 8 → top < 512 → 64 * (top / 64) ≤ lane → lane ≤ top
    → get_or (lanes_of_words words) lane false ≡ (bit_at (get_or words (top / 64) 0 * 2 ^ (63 - top % 64) % 2 ^ 64) (63 - (top - lane)) == 1)
lane_shifted words top lane eight few from to =
    lane_at words lane (omega arith) ∙ ap (λ w. bit_at (get_or words w 0) (lane % 64) == 1) (omega arith)
    ∙ ap (λ n. n == 1) (sym (bit_shifted (get_or words (top / 64) 0) (63 - top % 64) (lane % 64) (omega arith)) ∙ ap (bit_at (get_or words (top / 64) 0 * 2 ^ (63 - top % 64) % 2 ^ 64)) (omega arith))

pub lane_clear : (words : List ℕ) (top lane : ℕ) → length words ≡ 8 → top < 512 → 64 * (top / 64) ≤ lane → lane ≤ top
    → top < lane + count_leading_zeros 64 (get_or words (top / 64) 0 * 2 ^ (63 - top % 64) % 2 ^ 64) → get_or (lanes_of_words words) lane false ≡ false
lane_clear words top lane eight few from to above = lane_shifted words top lane eight few from to ∙ ap (λ n. n == 1) ((leading _ _ (omega arith)).0 (omega arith))

pub lane_set : (words : List ℕ) (top : ℕ) → length words ≡ 8 → top < 512 → count_leading_zeros 64 (get_or words (top / 64) 0 * 2 ^ (63 - top % 64) % 2 ^ 64) ≤ top % 64
    → get_or (lanes_of_words words) (top - count_leading_zeros 64 (get_or words (top / 64) 0 * 2 ^ (63 - top % 64) % 2 ^ 64)) false ≡ true
lane_set words top eight few le = lane_shifted words top _ eight few (omega arith) (omega arith) ∙ ap (λ n. n == 1) ((leading _ _ (omega arith)).1 (omega arith))

-- a word of 0 has no lane
pub no_lane : (words : List ℕ) (top lane : ℕ) → length words ≡ 8 → top < 512 → get_or words (top / 64) 0 ≡ 0 → 64 * (top / 64) ≤ lane → lane ≤ top → get_or (lanes_of_words words) lane false ≡ false
no_lane words top lane eight few none from to =
    lane_at words lane (omega arith) ∙ ap (λ w. bit_at (get_or words w 0) (lane % 64) == 1) {y = top / 64} (omega arith) ∙ ap (λ n. bit_at n (lane % 64) == 1) none
    ∙ ap (λ n. n == 1) (bit_at-zero (lane % 64))

pub ruleset lanes_below = (lane_clear, lane_set)
