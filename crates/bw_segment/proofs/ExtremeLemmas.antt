-- What is chosen of the codes in the lanes that are selected, from the last lane down.
use Rattle.std.proofs.Common.{◌≡◌, ◌∙◌, refl, sym, ap, ap₂, ℕ, zero, suc, ◌+◌, ◌-◌, ◌<◌, ◌≤◌, Bool}
use Rattle.std.proofs.Common.{true, false, List, [], ◌∷◌, length, drop, get_or, arith, ◌^◌, All}
use Rattle.std.proofs.Common.{IfSome, Option, Some, None}
use Rattle.std.specs.List.{fold, reduce}
use Rattle.std.proofs.Math.Pow.{pow_mono}
use Rattle.std.proofs.lemmas.List.{drop_all}
use Rattle.bw_lanes.specs.Last.{AreClear, IsLast}
use Rattle.bw_model.specs.Selection.{selected_items}
use Rattle.bw_segment.proofs.DescentLemmas.{choice, of_both}

none_of : (lanes : List Bool) → selected_items {A = ℕ} lanes [] ≡ []
none_of [] = refl
none_of (lane ∷ lanes) = refl

-- lanes that are 0 are passed
passed : (k : ℕ) (lanes : List Bool) (codes : List ℕ) → get_or lanes k false ≡ false → selected_items (drop k lanes) (drop k codes) ≡ selected_items (drop (suc k) lanes) (drop (suc k) codes)
passed zero [] codes e = refl
passed (suc k) [] codes e = refl
passed zero (true ∷ lanes) codes e = absurd (cc e)
passed zero (false ∷ lanes) [] e = sym (none_of lanes)
passed zero (false ∷ lanes) (code ∷ codes) e = refl
passed (suc k) (lane ∷ lanes) [] e = none_of (drop k lanes) ∙ sym (none_of (drop (suc k) lanes))
passed (suc k) (lane ∷ lanes) (code ∷ codes) e = passed k lanes codes e

clear_by : (k here end : ℕ) (lanes : List Bool) (codes : List ℕ) → here + k ≡ end → AreClear lanes here end → selected_items (drop here lanes) (drop here codes) ≡ selected_items (drop end lanes) (drop end codes)
clear_by zero here end lanes codes is clear = ap (λ n. selected_items (drop n lanes) (drop n codes)) {x = here} {y = end} (omega arith)
clear_by (suc k) here end lanes codes is clear =
    passed here lanes codes (clear here (omega arith) (omega arith)) ∙ clear_by k (suc here) end lanes codes (omega arith) (λ lane from to. clear lane (omega (arith, from)) to)

pub clear_passed : (here end : ℕ) (lanes : List Bool) (codes : List ℕ) → here ≤ end → AreClear lanes here end → selected_items (drop here lanes) (drop here codes) ≡ selected_items (drop end lanes) (drop end codes)
clear_passed here end lanes codes le clear = clear_by (end - here) here end lanes codes (omega (arith, le)) clear

found : (k : ℕ) (lanes : List Bool) (codes : List ℕ) → get_or lanes k false ≡ true → k < length codes → selected_items (drop k lanes) (drop k codes) ≡ get_or codes k 0 ∷ selected_items (drop (suc k) lanes) (drop (suc k) codes)
found k [] codes e lt = absurd (cc e)
found k (lane ∷ lanes) [] e lt = absurd (omega (arith, lt))
found zero (true ∷ lanes) (code ∷ codes) e lt = refl
found zero (false ∷ lanes) (code ∷ codes) e lt = absurd (cc e)
found (suc k) (lane ∷ lanes) (code ∷ codes) e lt = found k lanes codes e (omega (arith, lt))

-- what is chosen of an item and others
abbrev pub with_code : (ℕ → ℕ → ℕ) → ℕ → Option ℕ → ℕ
with_code f code None = code
with_code f code (Some other) = f code other

grouped : (greatest : Bool) (a b c : ℕ) → choice greatest (choice greatest a b) c ≡ choice greatest a (choice greatest b c)
grouped true a b c = omega arith
grouped false a b c = omega arith

chosen_first : (greatest : Bool) (code : ℕ) (codes : List ℕ) → reduce (choice greatest) (code ∷ codes) ≡ Some (with_code (choice greatest) code (reduce (choice greatest) codes))
chosen_first greatest code [] = refl
chosen_first greatest code (c ∷ codes) = ap Some (shift code c codes)
  where
    shift : (a b : ℕ) (cs : List ℕ) → fold (choice greatest) (choice greatest a b) cs ≡ choice greatest a (fold (choice greatest) b cs)
    shift a b [] = refl
    shift a b (c ∷ cs) = ap (λ k. fold (choice greatest) k cs) (grouped greatest a b c) ∙ shift a (choice greatest b c) cs

-- What is chosen of the codes in the lanes from an end on, the greatest or the least, and that it
-- has at most 63 digits.
pub record IsChosen (greatest : Bool) (lanes : List Bool) (codes : List ℕ) (end : ℕ) (so_far : Option ℕ) : Type 0 where
  pub within : end ≤ 512
  pub chosen : so_far ≡ reduce (choice greatest) (selected_items (drop end lanes) (drop end codes))
  pub bound : IfSome so_far (λ code. code < 2 ^ 63)

module _ (greatest : Bool) (lanes : List Bool) (codes : List ℕ) where
  -- past the last lane none is selected
  pub none_chosen : length lanes ≤ 512 → IsChosen greatest lanes codes 512 None
  none_chosen few = record { within = omega arith; chosen = sym (ap (λ l. reduce (choice greatest) (selected_items l (drop 512 codes))) (drop_all 512 lanes few)); bound = tt }

  with_small : (code : ℕ) (so_far : Option ℕ) → code < 2 ^ 63 → IfSome so_far (λ other. other < 2 ^ 63) → with_code (choice greatest) code so_far < 2 ^ 63
  with_small code None lt bound = lt
  with_small code (Some other) lt bound = of_both (λ n. n < 2 ^ 63) greatest code other lt bound

  -- the last lane of those before an end that is selected, with those from the end on
  pub chosen_more : (width end lane code : ℕ) (so_far : Option ℕ) → width ≤ 63 → length codes ≡ 512 → All (λ n. n < 2 ^ width) codes → code ≡ get_or codes lane 0 → IsLast lanes 0 end lane
      → IsChosen greatest lanes codes end so_far → IsChosen greatest lanes codes lane (Some (with_code (choice greatest) code so_far))
  chosen_more width end lane code so_far narrow long below is last before =
      let there : lane < length codes = omega (arith, last.to, before.within, long) in
      record {
        within = omega (arith, last.to, before.within);
        chosen = ap₂ (λ n o. Some (with_code (choice greatest) n o)) is (before.chosen ∙ ap (reduce (choice greatest)) (sym (clear_passed (suc lane) end lanes codes last.to last.clear)))
            ∙ sym (ap (reduce (choice greatest)) (found lane lanes codes last.set there) ∙ chosen_first greatest (get_or codes lane 0) (selected_items (drop (suc lane) lanes) (drop (suc lane) codes)));
        bound = with_small code so_far (omega (arith, is, below lane 0 there, pow_mono {i = width} {j = 63} narrow)) before.bound;
      }

  -- no lane is left
  pub all_chosen : (end : ℕ) (so_far : Option ℕ) → IsChosen greatest lanes codes end so_far → AreClear lanes 0 end → so_far ≡ reduce (choice greatest) (selected_items lanes codes)
  all_chosen end so_far before clear = before.chosen ∙ sym (ap (reduce (choice greatest)) (clear_passed 0 end lanes codes (omega arith) clear))
