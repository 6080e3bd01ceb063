-- The lanes of planes that are joined.
use Rattle.std.proofs.Common.{◌≡◌, ◌∙◌, ap, ℕ, ◌<◌, Bool, false, not, ◌&&◌, ◌||◌, List, map, length}
use Rattle.std.proofs.Common.{get_or, arith}
use Rattle.std.proofs.lemmas.List.{get_or-map}
use Rattle.std.proofs.lemmas.Simd.{get_or-zip2, length-zip2}
use Rattle.std.proofs.Common.{set, length-set, w64, ◌/◌, ◌%◌, ◌≢◌, ◌==◌, bit_and, bit_or, ◌*◌, ◌^◌}
use Rattle.std.proofs.Common.{inl, inr, sym, true, refl}
use Rattle.std.specs.Int.{bit_at, bit_not}
use Rattle.std.proofs.lemmas.Bool.{cases_eq}
use Rattle.std.proofs.lemmas.List.{get_or-set_other, get_or-set_same}
use Rattle.std.proofs.lemmas.Nat.Bits.{bit_at_clear_other, bit_at_clear_same, bit_at_set_other}
use Rattle.std.proofs.lemmas.Nat.Bits.{bit_at_set_same, shr_and_one}
use lib.Lanes.{zip2}
use Rattle.bw_lanes.specs.Lanes.{lanes_of_words}
use Rattle.bw_lanes.proofs.WordLemmas.{lane_of_words, length-lanes_of_words}

-- the lane of two planes that are joined lane by lane
at_joined : (f : Bool → Bool → Bool) (a b : List ℕ) (joined : List Bool) (lane : ℕ) → length a ≡ 8 → length b ≡ 8 → lane < 512 → joined ≡ zip2 f (lanes_of_words a) (lanes_of_words b)
    → get_or joined lane false ≡ f (get_or (lanes_of_words a) lane false) (get_or (lanes_of_words b) lane false)
at_joined f a b joined lane here there within is =
    ap (λ l. get_or l lane false) is
    ∙ get_or-zip2 f (lanes_of_words a) (lanes_of_words b) lane false false false (omega (arith, length-lanes_of_words a, here)) (omega (arith, length-lanes_of_words b, there))

pub at_both : (a b : List ℕ) (joined : List Bool) (lane : ℕ) → length a ≡ 8 → length b ≡ 8 → lane < 512 → joined ≡ zip2 (λ x y. x && y) (lanes_of_words a) (lanes_of_words b)
    → get_or joined lane false ≡ (get_or (lanes_of_words a) lane false && get_or (lanes_of_words b) lane false)
at_both a b joined lane here there within is = at_joined (λ x y. x && y) a b joined lane here there within is

pub long_both : (a b : List ℕ) (joined : List Bool) → length a ≡ 8 → length b ≡ 8 → joined ≡ zip2 (λ x y. x && y) (lanes_of_words a) (lanes_of_words b) → length joined ≡ 512
long_both a b joined here there is =
    ap length is ∙ length-zip2 (λ x y. x && y) (lanes_of_words a) (lanes_of_words b) (omega (arith, length-lanes_of_words a, length-lanes_of_words b, here, there))
    ∙ omega (arith, length-lanes_of_words a, here)

pub at_either : (a b : List ℕ) (joined : List Bool) (lane : ℕ) → length a ≡ 8 → length b ≡ 8 → lane < 512 → joined ≡ zip2 (λ x y. x || y) (lanes_of_words a) (lanes_of_words b)
    → get_or joined lane false ≡ (get_or (lanes_of_words a) lane false || get_or (lanes_of_words b) lane false)
at_either a b joined lane here there within is = at_joined (λ x y. x || y) a b joined lane here there within is

pub at_other : (a : List ℕ) (other : List Bool) (lane : ℕ) → length a ≡ 8 → lane < 512 → other ≡ map not (lanes_of_words a)
    → get_or other lane false ≡ not (get_or (lanes_of_words a) lane false)
at_other a other lane here within is =
    ap (λ l. get_or l lane false) is ∙ get_or-map not (lanes_of_words a) lane false false (omega (arith, length-lanes_of_words a, here))

-- the lane of a bit of a word
lane_bit : (words : List ℕ) (row : ℕ) → row < 64 * length words → get_or (lanes_of_words words) row false ≡ (bit_at (get_or words (row / 64) 0) (row % 64) == 1)
lane_bit words row lt = lane_of_words words row lt ∙ ap (λ b. b == 1) (shr_and_one (get_or words (row / 64) 0) (row % 64))

-- a lane whose word is another one
lane_at_word : (words : List ℕ) (at word : ℕ) → length words ≡ 8 → at < 512 → get_or (lanes_of_words (set words (at / 64) word)) at false ≡ (bit_at word (at % 64) == 1)
lane_at_word words at word long lt =
    lane_bit (set words (at / 64) word) at (omega (arith, length-set words (at / 64) word, long))
    ∙ ap (λ w. bit_at w (at % 64) == 1) (get_or-set_same words (at / 64) word 0 (omega (arith, long)))

lane_elsewhere : (words : List ℕ) (at other word : ℕ) → length words ≡ 8 → at < 512 → other < 512 → other ≢ at
    → ((i : ℕ) → i < 64 → i ≢ at % 64 → bit_at word i ≡ bit_at (get_or words (at / 64) 0) i)
    → get_or (lanes_of_words (set words (at / 64) word)) other false ≡ get_or (lanes_of_words words) other false
lane_elsewhere words at other word long lt within apart same =
    lane_bit (set words (at / 64) word) other (omega (arith, length-set words (at / 64) word, long))
    ∙ elim (cases_eq (other / 64) (at / 64)) [
      | inl here ↦
          let far : other % 64 ≢ at % 64 = λ e. apart (omega arith) in
          rw here (ap (λ w. bit_at w (other % 64) == 1) (get_or-set_same words (at / 64) word 0 (omega (arith, long))) ∙ ap (λ b. b == 1) (same (other % 64) (omega arith) far))
      | inr there ↦ ap (λ w. bit_at w (other % 64) == 1) (get_or-set_other words (at / 64) (other / 64) word 0 there)
    ]
    ∙ sym (lane_bit words other (omega (arith, long)))

-- a lane that is made 1, or 0, and the others
pub made_one : (words : List ℕ) (at : ℕ) → length words ≡ 8 → at < 512
    → get_or (lanes_of_words (set words (at / 64) (bit_or (get_or words (at / 64) 0) (1 * 2 ^ (at % 64) % 2 ^ 64)))) at false ≡ true
made_one words at long lt =
    lane_at_word words at _ long lt ∙ ap (λ b. b == 1) (bit_at_set_same w64 (get_or words (at / 64) 0) (at % 64) (omega arith))

pub others_of_one : (words : List ℕ) (at other : ℕ) → length words ≡ 8 → at < 512 → other < 512 → other ≢ at
    → get_or (lanes_of_words (set words (at / 64) (bit_or (get_or words (at / 64) 0) (1 * 2 ^ (at % 64) % 2 ^ 64)))) other false ≡ get_or (lanes_of_words words) other false
others_of_one words at other long lt within apart =
    lane_elsewhere words at other _ long lt within apart (λ i low far. bit_at_set_other w64 (get_or words (at / 64) 0) (at % 64) (omega arith) i far)

pub made_zero : (words : List ℕ) (at : ℕ) → length words ≡ 8 → at < 512
    → get_or (lanes_of_words (set words (at / 64) (bit_and (get_or words (at / 64) 0) (bit_not w64 (1 * 2 ^ (at % 64) % 2 ^ 64))))) at false ≡ false
made_zero words at long lt =
    lane_at_word words at _ long lt ∙ ap (λ b. b == 1) (bit_at_clear_same w64 (get_or words (at / 64) 0) (at % 64) (omega arith))

pub others_of_zero : (words : List ℕ) (at other : ℕ) → length words ≡ 8 → at < 512 → other < 512 → other ≢ at
    → get_or (lanes_of_words (set words (at / 64) (bit_and (get_or words (at / 64) 0) (bit_not w64 (1 * 2 ^ (at % 64) % 2 ^ 64))))) other false ≡ get_or (lanes_of_words words) other false
others_of_zero words at other long lt within apart =
    lane_elsewhere words at other _ long lt within apart (λ i low far. bit_at_clear_other w64 (get_or words (at / 64) 0) (at % 64) (omega arith) i low far)
