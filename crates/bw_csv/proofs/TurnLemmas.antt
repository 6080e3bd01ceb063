-- The records of a text don't depend on how many turns are left to read them, if there are enough.
use Rattle.std.proofs.Common.{◌≡◌, ◌∙◌, ℕ, zero, suc, ◌+◌, ◌<◌, List, [], ◌∷◌, ◌++◌, length, Option}
use Rattle.std.proofs.Common.{Some, None, refl, sym, ap, arith, inl, inr, ◌⊎◌}
use Rattle.std.proofs.lemmas.Bool.{cond_both}
use Rattle.csv.specs.Machine.{Read, next_record, step, is_end, ends_at_end, fields_after, field_after}
use Rattle.csv.specs.Reading.{records_from, records_next}
use Rattle.csv.specs.declared.parser.Config.{Config}
use Rattle.csv.specs.declared.parser.State.{State}
use Rattle.csv.specs.declared.parser.State.TheVariants as st

-- what a read leaves is shorter, or the text is at its end
abbrev pub Eats : Read → ℕ → Type 0
Eats p n = (length p.2 < n) ⊎ ((p.1 ≡ st.StartRecord) × (p.2 ≡ []))

more_eaten : (p : Read) (n : ℕ) → Eats p n → Eats p (suc n)
more_eaten p n (inl shorter) = inl (omega arith)
more_eaten p n (inr end) = inr end

pub next-eats : (cfg : Config) (s : State) (fields : List (List ℕ)) (field xs : List ℕ) (p : Read) → next_record cfg s fields field xs ≡ Some p → Eats p (length xs)
unfolding next_record
next-eats cfg s fields field [] p e = cond_both (ends_at_end s) _ _ (λ (r : Option Read). r ≡ Some p → Eats p 0)
    (λ h found. let same : ◌≡◌ {A = Read} (fields ++ field ∷ [], st.StartRecord, []) p = cc in
    inr (ap (λ (q : Read). q.1) (sym same), ap (λ (q : Read). q.2) (sym same))) (λ h none. absurd (cc none)) e
next-eats cfg s fields field (c ∷ rest) p e =
    let a = (step cfg s c).1 in
    cond_both (is_end a) _ _ (λ (r : Option Read). r ≡ Some p → Eats p (suc (length rest)))
    (λ h found. let same : ◌≡◌ {A = Read} (fields_after a fields field, (step cfg s c).0, rest) p = cc in
    inl (let left : length rest ≡ length p.2 = ap (λ (q : Read). length q.2) same in omega arith))
    (λ h found. more_eaten p (length rest) (next-eats cfg (step cfg s c).0 (fields_after a fields field) (field_after a c field) rest p found)) e

-- at the end of a text there is no record
records_from-end : (cfg : Config) (n : ℕ) → records_from cfg n st.StartRecord [] ≡ []
unfolding records_from next_record
records_from-end cfg zero = refl
records_from-end cfg (suc n) = refl

-- the records of a text don't depend on how many turns are left, if there are enough
abbrev SameTurns : Config → ℕ → Type 0
SameTurns cfg n = (m : ℕ) (s : State) (xs : List ℕ) → length xs < n → length xs < m → records_from cfg n s xs ≡ records_from cfg m s xs

turns-after : (cfg : Config) (n m : ℕ) (p : Read) (size : ℕ) → SameTurns cfg n → size < suc n → size < suc m → Eats p size → records_from cfg n p.1 p.2 ≡ records_from cfg m p.1 p.2
turns-after cfg n m p size same a b (inl shorter) = same m p.1 p.2 (omega arith) (omega arith)
turns-after cfg n m p size same a b (inr end) = rw (end.0, end.1) (records_from-end cfg n ∙ sym (records_from-end cfg m))

turns-next : (cfg : Config) (n m : ℕ) (s : State) (xs : List ℕ) (o : Option Read) → next_record cfg s [] [] xs ≡ o → SameTurns cfg n → length xs < suc n → length xs < suc m
    → records_next (records_from cfg n) o ≡ records_next (records_from cfg m) o
turns-next cfg n m s xs None e same a b = refl
turns-next cfg n m s xs (Some p) e same a b =
    ap (λ (rest : List (List (List ℕ))). p.0 ∷ rest) (turns-after cfg n m p (length xs) same a b (next-eats cfg s [] [] xs p e))

turns_same : (cfg : Config) (n m : ℕ) (s : State) (xs : List ℕ) → length xs < n → length xs < m → records_from cfg n s xs ≡ records_from cfg m s xs
unfolding records_from
turns_same cfg (suc n) (suc m) s xs a b = turns-next cfg n m s xs (next_record cfg s [] [] xs) refl (turns_same cfg n) a b
turns_same cfg _ _ s xs a b = absurd (omega arith)

-- as many turns as there are bytes before a read are enough for the bytes after it
pub turns-rest : (cfg : Config) (p : Read) (n : ℕ) → Eats p n → records_from cfg n p.1 p.2 ≡ records_from cfg (length p.2 + 1) p.1 p.2
turns-rest cfg p n (inl shorter) = turns_same cfg n (length p.2 + 1) p.1 p.2 shorter (omega arith)
turns-rest cfg p n (inr end) = rw (end.0, end.1) (records_from-end cfg n ∙ sym (records_from-end cfg 1))
