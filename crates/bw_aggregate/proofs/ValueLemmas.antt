-- Totals of values that codes stand for, of some rows and others, and how large they are.
use Rattle.std.proofs.Common.{◌≡◌, ◌∙◌, refl, sym, ap, ℕ, ℤ, suc, pos, ◌+◌, ◌<◌, ◌≤◌, ◌+ℤ◌, ◌*ℤ◌}
use Rattle.std.proofs.Common.{Bool, true, false, ltb, ltb-false, ◌||◌, min, max, List, [], ◌∷◌, map}
use Rattle.std.proofs.Common.{length, Some, None, sum, arith}
use Rattle.std.specs.Option.{option_map}
use Rattle.std.specs.List.{fold, list_any, reduce}
use Rattle.std.specs.Int.{int_min, int_max}
use Rattle.std.proofs.lemmas.List.Sums.{sum_by-cons}
use Rattle.std.proofs.lemmas.Int.{ints, clamps}
use Rattle.bw_model.specs.Total.{combine_totals}
use Rattle.bw_model.specs.declared.query.Item.TheVariants.{Max, Min}
use Rattle.bw_segment.specs.Selected.{is_beyond}
use lib.IntN.{suc_ℤ-*ℤ, zero-*ℤ, *ℤ_comm}

-- a choice among values is that of the chosen code
fold_map : (f : ℕ → ℕ → ℕ) (g : ℤ → ℤ → ℤ) (value : ℕ → ℤ) → ((a b : ℕ) → g (value a) (value b) ≡ value (f a b)) → (a : ℕ) (codes : List ℕ) → fold g (value a) (map value codes) ≡ value (fold f a codes)
fold_map f g value same a [] = refl
fold_map f g value same a (code ∷ codes) = ap (λ z. fold g z (map value codes)) (same a code) ∙ fold_map f g value same (f a code) codes

reduce_map : (f : ℕ → ℕ → ℕ) (g : ℤ → ℤ → ℤ) (value : ℕ → ℤ) → ((a b : ℕ) → g (value a) (value b) ≡ value (f a b)) → (codes : List ℕ) → reduce g (map value codes) ≡ option_map value (reduce f codes)
reduce_map f g value same [] = refl
reduce_map f g value same (code ∷ codes) = ap Some (fold_map f g value same code codes)

min_of_sums : (lo : ℤ) (a b : ℕ) → int_min (lo +ℤ pos a) (lo +ℤ pos b) ≡ lo +ℤ pos (min a b)
min_of_sums lo a b = omega (arith, ints, clamps)

max_of_sums : (lo : ℤ) (a b : ℕ) → int_max (lo +ℤ pos a) (lo +ℤ pos b) ≡ lo +ℤ pos (max a b)
max_of_sums lo a b = omega (arith, ints, clamps)

pub least_value : (lo : ℤ) (value : ℕ → ℤ) (codes : List ℕ) → ((code : ℕ) → value code ≡ lo +ℤ pos code) → reduce int_min (map value codes) ≡ option_map (λ code. lo +ℤ pos code) (reduce min codes)
least_value lo value codes is =
    (λ i. reduce int_min (map (λ code. is code i) codes)) ∙ reduce_map min int_min (λ code. lo +ℤ pos code) (min_of_sums lo) codes

pub greatest_value : (lo : ℤ) (value : ℕ → ℤ) (codes : List ℕ) → ((code : ℕ) → value code ≡ lo +ℤ pos code) → reduce int_max (map value codes) ≡ option_map (λ code. lo +ℤ pos code) (reduce max codes)
greatest_value lo value codes is =
    (λ i. reduce int_max (map (λ code. is code i) codes)) ∙ reduce_map max int_max (λ code. lo +ℤ pos code) (max_of_sums lo) codes

-- the sum of values, by the sum of their codes
fold_sum : (lo a : ℤ) (codes : List ℕ) → fold (λ a b. a +ℤ b) a (map (λ code. lo +ℤ pos code) codes) ≡ a +ℤ (pos (length codes) *ℤ lo +ℤ pos (sum codes))
fold_sum lo a [] = let none = zero-*ℤ lo in none_more (pos 0 *ℤ lo) none
  where
    none_more : (x : ℤ) → x ≡ pos 0 → a ≡ a +ℤ (x +ℤ pos 0)
    none_more x e = omega (arith, ints, e)
fold_sum lo a (code ∷ codes) =
    fold_sum lo (a +ℤ (lo +ℤ pos code)) codes ∙ one_more (pos (length codes) *ℤ lo) (pos (suc (length codes)) *ℤ lo) (sum codes) (sum (code ∷ codes)) (suc_ℤ-*ℤ (pos (length codes)) lo) (sum_by-cons (λ n. n) code codes)
  where
    one_more : (x y : ℤ) (s t : ℕ) → y ≡ x +ℤ lo → t ≡ code + s → (a +ℤ (lo +ℤ pos code)) +ℤ (x +ℤ pos s) ≡ a +ℤ (y +ℤ pos t)
    one_more x y s t e f = omega (arith, ints, e, f)

pub sum_of_none : (value : ℕ → ℤ) (codes : List ℕ) → length codes ≡ 0 → None ≡ reduce (λ a b. a +ℤ b) (map value codes)
sum_of_none value [] none = refl
sum_of_none value (code ∷ codes) none = absurd (omega (arith, none))

pub sum_of_some : (lo : ℤ) (value : ℕ → ℤ) (number : ℕ) (codes : List ℕ) → ((code : ℕ) → value code ≡ lo +ℤ pos code) → number ≡ length codes → 0 < number
    → Some (lo *ℤ pos number +ℤ pos (sum codes)) ≡ reduce (λ a b. a +ℤ b) (map value codes)
sum_of_some lo value number [] is same some = absurd (omega (arith, same, some))
sum_of_some lo value number (code ∷ codes) is same some =
    let product : lo *ℤ pos number ≡ pos (length codes) *ℤ lo +ℤ lo = *ℤ_comm lo (pos number) ∙ ap (λ k. pos k *ℤ lo) same ∙ suc_ℤ-*ℤ (pos (length codes)) lo in
    ap Some (put (lo *ℤ pos number) (pos (length codes) *ℤ lo) (sum codes) (sum (code ∷ codes)) product (sum_by-cons (λ n. n) code codes) ∙ sym (fold_sum lo (lo +ℤ pos code) codes))
    ∙ (λ i. reduce (λ a b. a +ℤ b) (map (λ code. sym (is code) i) (code ∷ codes)))
  where
    put : (x y : ℤ) (s t : ℕ) → x ≡ y +ℤ lo → t ≡ code + s → x +ℤ pos t ≡ (lo +ℤ pos code) +ℤ (y +ℤ pos s)
    put x y s t e f = omega (arith, ints, e, f)

-- neither of two is true
pub neither : (a b : Bool) → (a || b) ≡ false → (a ≡ false) × (b ≡ false)
neither false b e = (refl, e)
neither true b e = absurd (cc e)

-- a minimum or a maximum of codes, none of which is beyond another code
least_above : (code first : ℕ) (codes : List ℕ) → code ≤ first → list_any (is_beyond false code) codes ≡ false → code ≤ fold min first codes
least_above code first [] le none = le
least_above code first (c ∷ codes) le none =
    let parts = neither (ltb c code) _ none in
    least_above code (min first c) codes (omega (arith, le, ltb-false c code parts.0)) parts.1

greatest_below : (code first : ℕ) (codes : List ℕ) → first ≤ code → list_any (is_beyond true code) codes ≡ false → fold max first codes ≤ code
greatest_below code first [] le none = le
greatest_below code first (c ∷ codes) le none =
    let parts = neither (ltb code c) _ none in
    greatest_below code (max first c) codes (omega (arith, le, ltb-false code c parts.0)) parts.1

-- codes of which none is beyond that of a total leave the total as it is
pub least_kept : (lo : ℤ) (value : ℕ → ℤ) (col code : ℕ) (codes : List ℕ) → ((other : ℕ) → value other ≡ lo +ℤ pos other) → list_any (is_beyond false code) codes ≡ false
    → combine_totals (Min col) (Some (lo +ℤ pos code)) None ≡ combine_totals (Min col) (Some (lo +ℤ pos code)) (reduce int_min (map value codes))
least_kept lo value col code codes is none = kept codes none ∙ ap (combine_totals (Min col) (Some (lo +ℤ pos code))) (sym (least_value lo value codes is))
  where
    kept : (codes : List ℕ) → list_any (is_beyond false code) codes ≡ false → Some (lo +ℤ pos code) ≡ combine_totals (Min col) (Some (lo +ℤ pos code)) (option_map (λ c. lo +ℤ pos c) (reduce min codes))
    kept [] none = refl
    kept (c ∷ codes) none =
        let parts = neither (ltb c code) _ none in
        let above = least_above code c codes (omega (arith, ltb-false c code parts.0)) parts.1 in ap Some (omega (arith, ints, clamps, above))

pub greatest_kept : (lo : ℤ) (value : ℕ → ℤ) (col code : ℕ) (codes : List ℕ) → ((other : ℕ) → value other ≡ lo +ℤ pos other) → list_any (is_beyond true code) codes ≡ false
    → combine_totals (Max col) (Some (lo +ℤ pos code)) None ≡ combine_totals (Max col) (Some (lo +ℤ pos code)) (reduce int_max (map value codes))
greatest_kept lo value col code codes is none = kept codes none ∙ ap (combine_totals (Max col) (Some (lo +ℤ pos code))) (sym (greatest_value lo value codes is))
  where
    kept : (codes : List ℕ) → list_any (is_beyond true code) codes ≡ false → Some (lo +ℤ pos code) ≡ combine_totals (Max col) (Some (lo +ℤ pos code)) (option_map (λ c. lo +ℤ pos c) (reduce max codes))
    kept [] none = refl
    kept (c ∷ codes) none =
        let parts = neither (ltb code c) _ none in
        let under = greatest_below code c codes (omega (arith, ltb-false code c parts.0)) parts.1 in ap Some (omega (arith, ints, clamps, under))
