-- The positions of bits that are 1, and the records at them.
use Rattle.std.proofs.Common.{◌≡◌, ◌∙◌, ℕ, zero, suc, ◌+◌, ◌-◌, ◌*◌, ◌≤◌, Bool, true, false, List}
use Rattle.std.proofs.Common.{[], ◌∷◌, ◌++◌, refl, sym, ap, map, take, drop, length, get_or}
use Rattle.std.proofs.Common.{take-take, arith, append_assoc, subst}
use Rattle.std.proofs.lemmas.List.{get_or-take, take_all, map-append}
use Rattle.std.proofs.lemmas.Grind.{flat_map-append}
use Rattle.std.proofs.lemmas.Nat.{mul-le}
use Rattle.bw_lanes.specs.Lanes.{lanes_of_words}
use Rattle.bw_lanes.specs.Last.{AreClear, IsLast}
use Rattle.bw_lanes.proofs.WordLemmas.{length-lanes_of_words}
use Rattle.bw_model.specs.Selection.{positions_from, positions_of}
use Rattle.bw_answer.specs.Answer.{csv_text, record_text}
use Rattle.bw_answer.specs.LaneFields.{positions_between}

-- no position, one, and one that isn't there
pub positions_none : (number : ℕ) (bits : List Bool) → positions_between number number bits ≡ []
positions_none number bits = ap (positions_from number) (nothing number bits)
  where
    nothing : (n : ℕ) (bits : List Bool) → drop n (take n bits) ≡ []
    nothing zero bits = refl
    nothing (suc n) [] = refl
    nothing (suc n) (bit ∷ bits) = nothing n bits

found : (n k : ℕ) (bits : List Bool) → get_or bits k false ≡ true → positions_from n (drop k bits) ≡ n ∷ positions_from (suc n) (drop (suc k) bits)
found n zero (true ∷ bits) e = refl
found n (suc k) (bit ∷ bits) e = found n k bits e
found n _ _ e = absurd (cc e)

passed : (n k : ℕ) (bits : List Bool) → get_or bits k false ≡ false → positions_from n (drop k bits) ≡ positions_from (suc n) (drop (suc k) bits)
passed n zero (true ∷ bits) e = absurd (cc e)
passed n (suc k) (bit ∷ bits) e = passed n k bits e
passed n _ _ e = refl

-- lanes that are 0 are passed
clear_by : (k here past : ℕ) (bits : List Bool) → here + k ≤ past → AreClear bits here (here + k) → positions_between here past bits ≡ positions_between (here + k) past bits
clear_by zero here past bits within clear = let same : here ≡ here + 0 = omega arith in ap (λ n. positions_between n past bits) same
clear_by (suc k) here past bits within clear =
    let bit : get_or (take past bits) here false ≡ false = get_or-take past bits here false (omega (arith, within)) ∙ clear here (omega arith) (omega arith) in
    let next : suc here + k ≡ here + suc k = omega arith in
    passed here here (take past bits) bit ∙ clear_by k (suc here) past bits (omega (arith, within)) (λ lane from to. clear lane (omega (arith, from)) (omega (arith, to)))
    ∙ ap (λ n. positions_between n past bits) next

pub positions_passed : (here number past : ℕ) (bits : List Bool) → here ≤ number → number ≤ past → AreClear bits here number → positions_between here past bits ≡ positions_between number past bits
positions_passed here number past bits from to clear =
    let all : here + (number - here) ≡ number = omega (arith, from) in
    clear_by (number - here) here past bits (omega (arith, from, to)) (subst (AreClear bits here) (sym all) clear) ∙ ap (λ n. positions_between n past bits) all

-- the record of the last lane that is selected of some, in front of those of the lanes after these
pub record_last : (fields : ℕ → List (List ℕ)) (first number past last : ℕ) (bits : List Bool) (text later : List ℕ) → number ≤ past → IsLast bits first number last
    → later ≡ csv_text (map fields (positions_between number past bits)) → text ≡ record_text (fields last) ++ later
    → text ≡ csv_text (map fields (positions_between last past bits))
unfolding csv_text
record_last fields first number past last bits text later within is written put =
    let bit : get_or (take past bits) last false ≡ true = get_or-take past bits last false (omega (arith, is.to, within)) ∙ is.set in
    let more : positions_between last past bits ≡ last ∷ positions_between number past bits =
    found last last (take past bits) bit ∙ ap (λ (l : List ℕ). last ∷ l) (positions_passed (suc last) number past bits is.to within is.clear) in
    put ∙ ap (λ (l : List ℕ). record_text (fields last) ++ l) written ∙ sym (ap (λ (l : List ℕ). csv_text (map fields l)) more)

-- positions up to one, and from there on
split : (n k : ℕ) (bits : List Bool) → positions_from n bits ≡ positions_from n (take k bits) ++ positions_from (n + k) (drop k bits)
split n zero bits = let same : n ≡ n + 0 = omega arith in ap (λ m. positions_from m bits) same
split n (suc k) [] = refl
split n (suc k) (true ∷ bits) = let same : suc n + k ≡ n + suc k = omega arith in ap (λ (l : List ℕ). n ∷ l) (split (suc n) k bits ∙ ap (λ m. positions_from (suc n) (take k bits) ++ positions_from m (drop k bits)) same)
split n (suc k) (false ∷ bits) = let same : suc n + k ≡ n + suc k = omega arith in split (suc n) k bits ∙ ap (λ m. positions_from (suc n) (take k bits) ++ positions_from m (drop k bits)) same

pub records_more : (fields : ℕ → List (List ℕ)) (first past : ℕ) (bits : List Bool) (before text put now : List ℕ) → first ≤ past
    → text ≡ before ++ csv_text (map fields (positions_between 0 first bits)) → put ≡ csv_text (map fields (positions_between first past bits))
    → now ≡ text ++ put → now ≡ before ++ csv_text (map fields (positions_between 0 past bits))
unfolding csv_text
records_more fields first past bits before text put now within so_far written added =
    let some = positions_between 0 first bits in
    let rest = positions_between first past bits in
    let zero_more : 0 + first ≡ first = omega arith in
    let all : positions_between 0 past bits ≡ some ++ rest = split 0 first (take past bits) ∙ ap (λ n. positions_from 0 (take first (take past bits)) ++ positions_from n (drop first (take past bits))) zero_more ∙ ap (λ (l : List Bool). positions_from 0 l ++ rest) (take-take first past bits within) in
    added ∙ rw (so_far, written) (append_assoc before (csv_text (map fields some)) (csv_text (map fields rest)))
    ∙ ap (λ (l : List ℕ). before ++ l) (sym (ap (λ (l : List ℕ). csv_text (map fields l)) all ∙ ap csv_text (map-append fields some rest) ∙ flat_map-append record_text (map fields some) (map fields rest)))

-- all of a plane's
pub all_positions : (words : List ℕ) (past : ℕ) → length words ≡ 8 → 512 ≤ past → positions_between 0 past (lanes_of_words words) ≡ positions_of (lanes_of_words words)
all_positions words past long all = ap (positions_from 0) (take_all past (lanes_of_words words) (omega (arith, length-lanes_of_words words, long)))

-- room for fewer records, once one is written
pub room_left : (record_ k records start now : ℕ) → k + 1 ≤ records → record_ * records ≤ start → start ≤ now + record_ → record_ * k ≤ now
room_left record_ k records start now fewer room put =
    let long : record_ * (k + 1) ≤ record_ * records = mul-le record_ (k + 1) record_ records (omega arith) fewer in
    let apart : record_ * (k + 1) ≡ record_ * k + record_ = omega arith in
    omega (arith, long, apart, room, put)
