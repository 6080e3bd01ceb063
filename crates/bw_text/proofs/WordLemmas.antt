-- The only one of some words.
use Rattle.std.proofs.Common.{◌≡◌, ℕ, Bool, true, false, List, [], ◌∷◌, filter, length, refl, cond}
use Rattle.std.proofs.Common.{arith, None, Some, find}
use Rattle.bw_text.specs.Lines.{only_of}

alone : (x : List ℕ) (xs : List (List ℕ)) → length (x ∷ xs) ≡ 1 → Some x ≡ only_of (x ∷ xs)
alone x [] e = refl
alone x (y ∷ ys) e = absurd (omega arith)

-- if only one word passes a test, it's the first that does
pub first_kept : (p : List ℕ → Bool) (xs : List (List ℕ)) → length (filter p xs) ≡ 1 → find p xs ≡ only_of (filter p xs)
first_kept p [] e = refl
first_kept p (x ∷ xs) e =
    (elim (p x) as (λ b. length (cond b (x ∷ filter p xs) (filter p xs)) ≡ 1 → cond b (Some x) (find p xs) ≡ only_of (cond b (x ∷ filter p xs) (filter p xs))) [
      | true ↦ λ one. alone x (filter p xs) one
      | false ↦ λ one. first_kept p xs one
    ]) e

-- of no words, or several, there is no only one
pub none_alone : (xs : List (List ℕ)) → (length xs ≡ 1 → ⊥) → None ≡ only_of xs
none_alone (x ∷ []) other = absurd (other refl)
none_alone _ other = refl
