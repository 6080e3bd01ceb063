-- The least and the greatest of numbers, found from the top digit down.
use Rattle.std.proofs.Common.{◌≡◌, ◌∙◌, refl, sym, ap, ap₂, subst, ◌⊎◌, inl, inr, ℕ, suc, ◌+◌, ◌*◌}
use Rattle.std.proofs.Common.{◌/◌, ◌^◌, ◌<◌, min, max, Bool, true, false, not, cond, List, [], ◌∷◌}
use Rattle.std.proofs.Common.{filter, fold, Some, None, add-one, shr-shr, pow_pos, arith}
use Rattle.std.specs.List.{reduce, AllByRecursion}
use Rattle.std.specs.Int.{bit_at}
use Rattle.std.proofs.Math.Nat.{div-mul-le_self, div-eq_of_lt}
use Rattle.std.proofs.lemmas.Nat.{le-div}
use Rattle.std.proofs.lemmas.Nat.Bits.{bit_at-lt}
use Rattle.std.proofs.lemmas.Bool.{cases_lt}
use Rattle.std.proofs.lemmas.Bool.Decides.{nat_tests}
use Rattle.std.proofs.lemmas.Grind.{pow_more}
use Rattle.bw_model.specs.Code.{has_bit}
use Rattle.bw_model.proofs.BitsLemmas.{bit_denotes}
use Rattle.bw_segment.proofs.SelectedLemmas.{is_none}

-- what passes a test
pub all_kept : (P Q : ℕ → Type 0) (test : ℕ → Bool) → ((x : ℕ) → P x → test x ≡ true → Q x) → (xs : List ℕ) → AllByRecursion P xs → AllByRecursion Q (filter test xs)
all_kept P Q test next [] all = tt
all_kept P Q test next (x ∷ xs) all = put (all_kept P Q test next xs all.1) (test x) refl
  where
    put : AllByRecursion Q (filter test xs) → (b : Bool) → test x ≡ b → AllByRecursion Q (cond b (x ∷ filter test xs) (filter test xs))
    put later true is = (next x all.0 is, later)
    put later false is = later

-- nothing passes a test
pub all_fail : (P Q : ℕ → Type 0) (test : ℕ → Bool) → ((x : ℕ) → P x → test x ≡ false → Q x) → (xs : List ℕ) → AllByRecursion P xs → is_none (filter test xs) ≡ true → AllByRecursion Q xs
all_fail P Q test next [] all none = tt
all_fail P Q test next (x ∷ xs) all none = put (all_fail P Q test next xs all.1) (test x) refl none
  where
    put : (is_none (filter test xs) ≡ true → AllByRecursion Q xs) → (b : Bool) → test x ≡ b → is_none (cond b (x ∷ filter test xs) (filter test xs)) ≡ true → AllByRecursion Q (x ∷ xs)
    put later true is none = cc
    put later false is none = (next x all.0 is, later none)

-- the greater or the lesser of two numbers
abbrev pub choice : Bool → ℕ → ℕ → ℕ
choice greatest = cond greatest max min

pub one_of : (g : Bool) (a b : ℕ) → (choice g a b ≡ a) ⊎ (choice g a b ≡ b)
one_of true a b = elim (cases_lt a b) [ inl lt ↦ inr (omega arith) | inr le ↦ inl (omega arith) ]
one_of false a b = elim (cases_lt a b) [ inl lt ↦ inl (omega arith) | inr le ↦ inr (omega arith) ]

-- what two numbers have, the choice between them has
pub of_both : (P : ℕ → Type 0) (g : Bool) (a b : ℕ) → P a → P b → P (choice g a b)
of_both P g a b pa pb = elim (one_of g a b) [ inl is ↦ subst P (sym is) pa | inr is ↦ subst P (sym is) pb ]

-- of two numbers of which one alone passes a test the choice is that one
abbrev pub Chooses : Bool → (ℕ → Bool) → (ℕ → Type 0) → Type 0
Chooses g test P = (a b : ℕ) → P a → P b → test a ≡ true → test b ≡ false → (choice g a b ≡ a) × (choice g b a ≡ a)

-- so if one passes, those that fail make no difference
one_kept : (f : ℕ → ℕ → ℕ) (test : ℕ → Bool) (a : ℕ) → is_none (filter test (a ∷ [])) ≡ false → reduce f (filter test (a ∷ [])) ≡ Some a
one_kept f test a some = grind arith

pair_kept : (f : ℕ → ℕ → ℕ) (test : ℕ → Bool) (a x : ℕ) (xs : List ℕ) → (test a ≡ true → test x ≡ false → f a x ≡ a)
    → (test a ≡ false → test x ≡ true → f a x ≡ x) → (f a x ≡ a) ⊎ (f a x ≡ x)
    → (reduce f (filter test (a ∷ x ∷ xs)) ≡ reduce f (filter test (f a x ∷ xs))) × (is_none (filter test (a ∷ x ∷ xs)) ≡ is_none (filter test (f a x ∷ xs)))
pair_kept f test a x xs first second one = (grind arith, grind arith)

some_kept : (g : Bool) (test : ℕ → Bool) (P : ℕ → Type 0) → Chooses g test P → (a : ℕ) (xs : List ℕ) → AllByRecursion P (a ∷ xs) → is_none (filter test (a ∷ xs)) ≡ false
    → reduce (choice g) (filter test (a ∷ xs)) ≡ Some (fold (choice g) a xs)
some_kept g test P chooses a [] all some = one_kept (choice g) test a some
some_kept g test P chooses a (x ∷ xs) all some =
    let px = all.1.0 in
    let pair = pair_kept (choice g) test a x xs (λ ta tx. (chooses a x all.0 px ta tx).0) (λ ta tx. (chooses x a px all.0 tx ta).1) (one_of g a x) in
    pair.0 ∙ some_kept g test P chooses (choice g a x) xs (of_both P g a x all.0 px, all.1.1) (sym pair.1 ∙ some)

pub reduce_kept : (g : Bool) (test : ℕ → Bool) (P : ℕ → Type 0) → Chooses g test P → (xs : List ℕ) → AllByRecursion P xs → is_none (filter test xs) ≡ false
    → reduce (choice g) (filter test xs) ≡ reduce (choice g) xs
reduce_kept g test P chooses [] all some = refl
reduce_kept g test P chooses (x ∷ xs) all some = some_kept g test P chooses x xs all some

-- a choice among numbers that are all the same
fold_same : (g : Bool) (n a : ℕ) (xs : List ℕ) → AllByRecursion (λ x. x / 2 ^ 0 ≡ n) (a ∷ xs) → fold (choice g) a xs ≡ n
fold_same g n a [] all = let is = all.0 in omega (arith, is)
fold_same g n a (x ∷ xs) all = fold_same g n (choice g a x) xs (of_both (λ k. k / 2 ^ 0 ≡ n) g a x all.0 all.1.0, all.1.1)

-- a number from a bit on
pub high_more : (n bit : ℕ) → n / 2 ^ bit ≡ 2 * (n / 2 ^ suc bit) + cond (has_bit n bit) 1 0
high_more n bit =
    omega (arith, shr-shr n bit 1 ∙ ap (λ k. n / 2 ^ k) (add-one bit), bit_denotes (bit_at n bit) 1 (bit_at-lt n bit))

-- the smaller of two heads is of the smaller number
pub below : (a b k : ℕ) → 0 < k → a / k < b / k → a < b
below a b k some lt = elim (cases_lt a b) [
  | inl less ↦ less
  | inr le ↦ let low = div-mul-le_self b k in absurd (omega (arith, le-div (b / k) a k some (omega (arith, low))))
]

-- the numbers with the bit that is sought: towards the greatest a 1, and towards the least a 0
abbrev pub sought : Bool → ℕ → ℕ → Bool
sought g bit n = cond g (has_bit n bit) (not (has_bit n bit))

bit_sought : (g b c : Bool) → cond g b (not b) ≡ c → b ≡ cond c g (not g)
bit_sought g b c is = grind (arith, nat_tests)

head_of : (g : Bool) (n bit head : ℕ) (c : Bool) → n / 2 ^ suc bit ≡ head → sought g bit n ≡ c → n / 2 ^ bit ≡ 2 * head + cond (cond c g (not g)) 1 0
head_of g n bit head c before is = high_more n bit ∙ ap₂ (λ k b. 2 * k + cond b 1 0) before (bit_sought g (has_bit n bit) c is)

chooses : (g : Bool) (bit head : ℕ) → Chooses g (sought g bit) (λ n. n / 2 ^ suc bit ≡ head)
chooses true bit head a b pa pb ta tb =
    let lt = below b a (2 ^ bit) (pow_pos bit) (omega (arith, head_of true a bit head true pa ta, head_of true b bit head false pb tb)) in
    (omega arith, omega arith)
chooses false bit head a b pa pb ta tb =
    let lt = below a b (2 ^ bit) (pow_pos bit) (omega (arith, head_of false a bit head true pa ta, head_of false b bit head false pb tb)) in
    (omega arith, omega arith)

-- The numbers that are left have the same top bits, those from `bit` on, which spell `head` in so
-- many places, and what is chosen among them is what is chosen among all.
pub record IsDescended (g : Bool) (all left : List ℕ) (bit places head : ℕ) : Type 0 where
  pub nonempty : is_none left ≡ false
  pub heads : AllByRecursion (λ n. n / 2 ^ bit ≡ head) left
  pub chosen : reduce (choice g) left ≡ reduce (choice g) all
  pub small : head < 2 ^ places

next_small : (head places : ℕ) (b : Bool) → head < 2 ^ places → 2 * head + cond b 1 0 < 2 ^ (places + 1)
next_small head places b lt = grind (arith, nat_tests, pow_more 2 places, lt)

-- one bit further down: those with the bit that is sought are left, or all if none has it
pub next_descended : (g : Bool) (all left : List ℕ) (bit places head : ℕ) (some : Bool) → is_none (filter (sought g bit) left) ≡ not some
    → IsDescended g all left (suc bit) places head
    → IsDescended g all (cond some (filter (sought g bit) left) left) bit (places + 1) (2 * head + cond (cond some g (not g)) 1 0)
next_descended g all left bit places head true found so_far = record {
  nonempty = found;
  heads = all_kept (λ n. n / 2 ^ suc bit ≡ head) (λ n. n / 2 ^ bit ≡ 2 * head + cond g 1 0) (sought g bit) (λ n. head_of g n bit head true) left so_far.heads;
  chosen = reduce_kept g (sought g bit) (λ n. n / 2 ^ suc bit ≡ head) (chooses g bit head) left so_far.heads found ∙ so_far.chosen;
  small = next_small head places g so_far.small;
}
next_descended g all left bit places head false none so_far = record {
  nonempty = so_far.nonempty;
  heads = all_fail (λ n. n / 2 ^ suc bit ≡ head) (λ n. n / 2 ^ bit ≡ 2 * head + cond (not g) 1 0) (sought g bit) (λ n. head_of g n bit head false) left so_far.heads none;
  chosen = so_far.chosen;
  small = next_small head places (not g) so_far.small;
}

-- before the first bit nothing is known, and after the last one all that are left are the same
-- number
pub descent_begins : (g : Bool) (all : List ℕ) (width : ℕ) → AllByRecursion (λ n. n < 2 ^ width) all → is_none all ≡ false → IsDescended g all all width 0 0
descent_begins g all width small some = record { nonempty = some; heads = each all small; chosen = refl; small = omega arith }
  where
    each : (ns : List ℕ) → AllByRecursion (λ n. n < 2 ^ width) ns → AllByRecursion (λ n. n / 2 ^ width ≡ 0) ns
    each [] small = tt
    each (n ∷ ns) small = (div-eq_of_lt small.0, each ns small.1)

pub descent_ends : (g : Bool) (all left : List ℕ) (places head : ℕ) → IsDescended g all left 0 places head → Some head ≡ reduce (choice g) all
descent_ends g all [] places head so_far = let some = so_far.nonempty in cc
descent_ends g all (n ∷ left) places head so_far = sym (ap Some (fold_same g head n left so_far.heads)) ∙ so_far.chosen

pub none_chosen : (f : ℕ → ℕ → ℕ) (all : List ℕ) → is_none all ≡ true → None ≡ reduce f all
none_chosen f [] none = refl
none_chosen f (n ∷ all) none = cc

-- the same under other names
pub descended_as : (g : Bool) (all left other : List ℕ) (bit bit' places head head' : ℕ) → left ≡ other → bit ≡ bit' → head ≡ head' → IsDescended g all left bit places head → IsDescended g all other bit' places head'
descended_as g all left other bit bit' places head head' same_left same_bit same_head so_far =
    subst (λ l. IsDescended g all l bit' places head') same_left (subst (λ b. IsDescended g all left b places head') same_bit (subst (λ h. IsDescended g all left bit places h) same_head so_far))
