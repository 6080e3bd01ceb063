-- Totals that are changed all at once.
use Rattle.std.proofs.Common.{◌≡◌, ℕ, zero, suc, ◌<◌, ◌≤◌, List, [], ◌∷◌, ◌++◌, map, refl, arith}
use Rattle.std.proofs.Common.{length, get_or, take, drop}
use Rattle.std.proofs.lemmas.List.{append-nil, drop_all, take_all}
use Rattle.bw_rowwise.specs.Accumulator.{Tally}

-- while f is written over the elements of a list, the one at hand is as it was
pub untouched : {X : Type 0} (f : X → X) (xs : List X) (i : ℕ) (d : X) → i < length xs → get_or (map f (take i xs) ++ drop i xs) i d ≡ get_or xs i d
untouched f [] i d h = absurd (omega arith)
untouched f (x ∷ xs) zero d h = refl
untouched f (x ∷ xs) (suc i) d h = untouched f xs i d (omega arith)

-- and at the end each element is
pub all_added : (f : Tally → Tally) (xs ys : List Tally) (i : ℕ) → length xs ≤ i → ys ≡ map f (take i xs) ++ drop i xs → ys ≡ map f xs
all_added f xs ys i past e = rw (e, take_all i xs past, drop_all i xs past) (append-nil (map f xs))
