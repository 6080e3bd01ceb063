-- The highest bytes of codes in few lanes, which tell that none of these codes is beyond another.
use Rattle.std.proofs.Common.{◌≡◌, ◌∙◌, refl, ap, ℕ, suc, ◌+◌, ◌*◌, ◌/◌, ◌^◌, ◌<◌, ◌≤◌, Bool, true}
use Rattle.std.proofs.Common.{false, not, ◌||◌, List, [], ◌∷◌, length, get_or, arith, inl, inr}
use Rattle.std.proofs.Common.{mod-eq_of_lt, le-ltb, ltb-true, pow_pos, sym, w64, ◌⊎◌, ◌==◌, ◌%◌}
use Rattle.std.specs.Int.{bit_at}
use Rattle.std.specs.List.{list_any}
use Rattle.std.proofs.lemmas.Bool.{cases_eq, cases_lt, eqb-true, not-false}
use Rattle.std.proofs.lemmas.List.{get_or_past}
use Rattle.std.proofs.lemmas.Nat.Bits.{bit_at_clear_other, bit_at-zero}
use Rattle.bw_lanes.specs.Lanes.{lanes_of_words}
use Rattle.bw_lanes.proofs.WordLemmas.{lane_at, length-lanes_of_words}
use Rattle.bw_model.specs.Selection.{selected_items}
use Rattle.bw_model.specs.StoredCodes.{byte_of}
use Rattle.bw_segment.specs.Selected.{is_beyond}
use Rattle.bw_segment.proofs.DescentLemmas.{below}
use Rattle.bw_segment.proofs.LowLemmas.{without_ones}
use Rattle.bw_slices.proofs.CodeLemmas.{without}

-- In the lanes before an end, the byte is on the other side of the top one.
abbrev pub AreFar : Bool → ℕ → List Bool → List ℕ → ℕ → Type 0
AreFar greatest top lanes bytes end = (lane : ℕ) → lane < end → get_or lanes lane false ≡ true → is_beyond (not greatest) top (get_or bytes lane 0) ≡ true

-- So it is in the rows of a word.
abbrev pub AreFarInWord : Bool → ℕ → List ℕ → ℕ → ℕ → Type 0
AreFarInWord greatest top bytes word rows = (row : ℕ) → row < 64 → bit_at rows row ≡ 1 → is_beyond (not greatest) top (get_or bytes (64 * word + row) 0) ≡ true

-- Those of the rows that aren't left were looked at.
abbrev pub AreFarButLeft : Bool → ℕ → List ℕ → ℕ → ℕ → ℕ → Type 0
AreFarButLeft greatest top bytes word rows left =
    (row : ℕ) → row < 64 → bit_at rows row ≡ 1 → (bit_at left row ≡ 1) ⊎ (is_beyond (not greatest) top (get_or bytes (64 * word + row) 0) ≡ true)

module _ (greatest : Bool) (top : ℕ) (bytes : List ℕ) where
  pub far_more : (words : List ℕ) (word : ℕ) → length words ≡ 8 → word < 8 → AreFarInWord greatest top bytes word (get_or words word 0) → AreFar greatest top (lanes_of_words words) bytes (64 * word)
      → AreFar greatest top (lanes_of_words words) bytes (64 * (word + 1))
  far_more words word eight lt far before lane within set = elim (cases_lt lane (64 * word)) [
    | inl less ↦ before lane less set
    | inr past ↦
        let one : bit_at (get_or words word 0) (lane % 64) ≡ 1 =
        eqb-true _ _ (ap (λ w. bit_at (get_or words w 0) (lane % 64) == 1) {x = word} {y = lane / 64} (omega (arith, within, past)) ∙ sym (lane_at words lane (omega (arith, within))) ∙ set) in
        ap (λ k. is_beyond (not greatest) top (get_or bytes k 0)) {x = lane} {y = 64 * word + lane % 64} (omega (arith, within, past)) ∙ far (lane % 64) (omega arith) one
  ]

  pub far_but : (word rows left row : ℕ) → row < 64 → not (is_beyond (not greatest) top (get_or bytes (64 * word + row) 0)) ≡ false → AreFarButLeft greatest top bytes word rows left
      → AreFarButLeft greatest top bytes word rows (without left row)
  far_but word rows left row lt far before other within set = elim (before other within set) [
    | inr is ↦ inr is
    | inl bit ↦ elim (cases_eq other row) [
      | inl same ↦ inr (ap (λ k. is_beyond (not greatest) top (get_or bytes (64 * word + k) 0)) same ∙ not-false (is_beyond (not greatest) top (get_or bytes (64 * word + row) 0)) far)
      | inr apart ↦ inl (bit_at_clear_other w64 left row lt other within apart ∙ bit)
    ]
  ]

  pub far_at_end : (word rows left : ℕ) → left ≡ 0 → AreFarButLeft greatest top bytes word rows left → AreFarInWord greatest top bytes word rows
  far_at_end word rows left none before row lt set = elim (before row lt set) [
    | inr is ↦ is
    | inl bit ↦ absurd (omega (arith, bit, ap (λ n. bit_at n row) none, bit_at-zero row))
  ]

  pub all_far : (words : List ℕ) (word : ℕ) → length words ≡ 8 → 8 ≤ word → AreFar greatest top (lanes_of_words words) bytes (64 * word) → (lane : ℕ) → get_or (lanes_of_words words) lane false ≡ true
      → is_beyond (not greatest) top (get_or bytes lane 0) ≡ true
  all_far words word eight le before lane set = elim (cases_lt lane 512) [
    | inl within ↦ before lane (omega (arith, within, le)) set
    | inr past ↦ absurd (cc (get_or_past (lanes_of_words words) lane false (omega (arith, past, length-lanes_of_words words, eight)), set))
  ]

-- a code is not beyond another where its highest byte is on the other side of that one's
pub far_apart : (greatest : Bool) (width slice other code : ℕ) → width ≤ 8 + 8 * slice → code < 2 ^ width → is_beyond (not greatest) (other / 2 ^ (8 * slice)) (byte_of slice code) ≡ true → is_beyond greatest other code ≡ false
far_apart true width slice other code whole small far =
    let same = mod-eq_of_lt (without_ones code (8 * slice) 8 width small whole) in
    let lt : code < other = below code other (2 ^ (8 * slice)) (pow_pos (8 * slice)) (omega (arith, same, ltb-true _ _ far)) in
    le-ltb other code (omega (arith, lt))
far_apart false width slice other code whole small far =
    let same = mod-eq_of_lt (without_ones code (8 * slice) 8 width small whole) in
    let lt : other < code = below other code (2 ^ (8 * slice)) (pow_pos (8 * slice)) (omega (arith, same, ltb-true _ _ far)) in
    le-ltb code other (omega (arith, lt))

-- none of the items in the lanes passes a test that it passes in none of these lanes
pub none_selected : (test : ℕ → Bool) (lanes : List Bool) (items : List ℕ) → ((lane : ℕ) → lane < length items → get_or lanes lane false ≡ true → test (get_or items lane 0) ≡ false) → list_any test (selected_items lanes items) ≡ false
none_selected test [] items each = refl
none_selected test (lane ∷ lanes) [] each = refl
none_selected test (true ∷ lanes) (item ∷ items) each =
    ap (λ b. b || list_any test (selected_items lanes items)) (each 0 (omega arith) refl) ∙ none_selected test lanes items (λ lane lt set. each (suc lane) (omega (arith, lt)) set)
none_selected test (false ∷ lanes) (item ∷ items) each = none_selected test lanes items (λ lane lt set. each (suc lane) (omega (arith, lt)) set)
