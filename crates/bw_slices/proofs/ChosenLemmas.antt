-- The greatest and the least of numbers, byte by byte from the most significant down.
use Rattle.std.proofs.Common.{◌≡◌, ◌∙◌, refl, sym, ap, subst, ◌⊎◌, inl, inr, ℕ, ◌+◌, ◌*◌, ◌/◌, ◌%◌}
use Rattle.std.proofs.Common.{◌^◌, ◌<◌, Bool, true, false, cond, ◌==◌, List, [], ◌∷◌, map, filter}
use Rattle.std.proofs.Common.{Some, arith, fold, pow_pos}
use Rattle.std.specs.List.{reduce, AllByRecursion}
use Rattle.std.proofs.lemmas.Bool.{eqb-true, eqb-false, eq-eqb}
use Rattle.std.proofs.lemmas.Bool.Decides.{nat_tests}
use Rattle.bw_lanes.specs.Selected.{bytes_selected}
use Rattle.bw_model.specs.Selection.{selected_items}
use Rattle.bw_segment.proofs.SelectedLemmas.{is_none}
use Rattle.bw_segment.proofs.DescentLemmas.{choice, one_of, of_both, Chooses, IsDescended}
use Rattle.bw_segment.proofs.DescentLemmas.{descended_as, all_kept, reduce_kept, below}
use Rattle.bw_model.specs.StoredCodes.{byte_of}
use Rattle.bw_slices.proofs.KeptLemmas.{next_byte}
use Rattle.bw_slices.proofs.CodeLemmas.{next_small}

-- the byte that stands for none
abbrev pub blank : Bool → ℕ
blank greatest = cond greatest 0 255

pub blank_small : (g : Bool) → blank g < 256
blank_small g = grind (arith, nat_tests)

unchanged : (g : Bool) (a : ℕ) → a < 256 → (choice g a (blank g) ≡ a) × (choice g (blank g) a ≡ a)
unchanged true a small = (omega arith, omega arith)
unchanged false a small = (omega arith, omega arith)

chosen_has : (P : ℕ → Type 0) (g : Bool) (a : ℕ) (ns : List ℕ) → P a → AllByRecursion P ns → P (fold (choice g) a ns)
chosen_has P g a [] first all = first
chosen_has P g a (n ∷ ns) first all = chosen_has P g (choice g a n) ns (of_both P g a n first all.0) all.1

pub chosen_below : (g : Bool) (k code : ℕ) (ns : List ℕ) → AllByRecursion (λ n. n < k) ns → Some code ≡ reduce (choice g) ns → code < k
chosen_below g k code [] small is = cc
chosen_below g k code (n ∷ ns) small is = let same : code ≡ fold (choice g) n ns = cc in omega (arith, same, chosen_has (λ n. n < k) g n ns small.0 small.1)

-- the bytes that are selected are those of the numbers that are selected
pub chosen_selected : (g : Bool) (bit a : ℕ) (lanes : List Bool) (ns : List ℕ) → a < 256 → fold (choice g) a (bytes_selected (blank g) lanes (map (λ n. n / 2 ^ bit % 256) ns)) ≡ fold (choice g) a (map (λ n. n / 2 ^ bit % 256) (selected_items lanes ns))
chosen_selected g bit a [] ns small = refl
chosen_selected g bit a (lane ∷ lanes) [] small = refl
chosen_selected g bit a (true ∷ lanes) (n ∷ ns) small = chosen_selected g bit (choice g a (n / 2 ^ bit % 256)) lanes ns (of_both (λ k. k < 256) g a (n / 2 ^ bit % 256) small (omega arith))
chosen_selected g bit a (false ∷ lanes) (n ∷ ns) small =
    ap (λ k. fold (choice g) k (bytes_selected (blank g) lanes (map (λ n. n / 2 ^ bit % 256) ns))) (unchanged g a small).0 ∙ chosen_selected g bit a lanes ns small

-- The byte c is chosen among those of numbers: some number has it, and none has one that were
-- chosen before it.
module _ (g : Bool) (byte : ℕ → ℕ) (c : ℕ) where
  one_more : (n : ℕ) (ns : List ℕ) → is_none (filter (λ n. byte n == c) ns) ≡ false → is_none (filter (λ n. byte n == c) (n ∷ ns)) ≡ false
  one_more n ns has = put (byte n == c)
    where
      put : (b : Bool) → is_none (cond b (n ∷ filter (λ n. byte n == c) ns) (filter (λ n. byte n == c) ns)) ≡ false
      put true = refl
      put false = has

  first_has : (n : ℕ) (ns : List ℕ) → c ≡ byte n → is_none (filter (λ n. byte n == c) (n ∷ ns)) ≡ false
  first_has n ns is = ap (λ b. is_none (cond b (n ∷ filter (λ n. byte n == c) ns) (filter (λ n. byte n == c) ns))) (eq-eqb (byte n) c (sym is))

  found_from : (a : ℕ) (ns : List ℕ) → c ≡ fold (choice g) a (map byte ns) → (c ≡ a) ⊎ (is_none (filter (λ n. byte n == c) ns) ≡ false)
  found_from a [] is = inl is
  found_from a (n ∷ ns) is = elim (found_from (choice g a (byte n)) ns is) [
    | inl same ↦ elim (one_of g a (byte n)) [ inl old ↦ inl (same ∙ old) | inr new ↦ inr (first_has n ns (same ∙ new)) ]
    | inr has ↦ inr (one_more n ns has)
  ]

  found : (ns : List ℕ) → ((n : ℕ) → byte n < 256) → c ≡ fold (choice g) (blank g) (map byte ns) → is_none ns ≡ false → is_none (filter (λ n. byte n == c) ns) ≡ false
  found [] small is some = cc
  found (n ∷ ns) small is some = elim (found_from (choice g (blank g) (byte n)) ns is) [ inl same ↦ first_has n ns (same ∙ (unchanged g (byte n) (small n)).1) | inr has ↦ one_more n ns has ]

  apart : (g : Bool) (a b : ℕ) → choice g c (choice g a b) ≡ c → (choice g c a ≡ c) × (choice g c b ≡ c)
  apart true a b is = (omega arith, omega arith)
  apart false a b is = (omega arith, omega arith)

  chosen_first : (a : ℕ) (ns : List ℕ) → c ≡ fold (choice g) a (map byte ns) → (choice g c a ≡ c) × AllByRecursion (λ n. choice g c (byte n) ≡ c) ns
  chosen_first a [] is = (ap (choice g c) (sym is) ∙ of_both (λ k. k ≡ c) g c c refl refl, tt)
  chosen_first a (n ∷ ns) is =
      let later = chosen_first (choice g a (byte n)) ns is in
      let both = apart g a (byte n) later.0 in
      (both.0, (both.1, later.1))

-- of two numbers with the same bytes before it, the one with the byte that is chosen is chosen
lower : (bit head x y : ℕ) → x / 2 ^ (bit + 8) ≡ head → y / 2 ^ (bit + 8) ≡ head → x / 2 ^ bit % 256 < y / 2 ^ bit % 256 → x < y
lower bit head x y hx hy lt = below x y (2 ^ bit) (pow_pos bit) (omega (arith, next_byte x bit, next_byte y bit))

nearer : (g : Bool) (a b bit head byte : ℕ) → a / 2 ^ (bit + 8) ≡ head → b / 2 ^ (bit + 8) ≡ head → choice g byte (b / 2 ^ bit % 256) ≡ byte → a / 2 ^ bit % 256 ≡ byte → (b / 2 ^ bit % 256 ≡ byte → ⊥)
    → (choice g a b ≡ a) × (choice g b a ≡ a)
nearer true a b bit head byte same alike is has other = let lt = lower bit head b a alike same (omega arith) in (omega arith, omega arith)
nearer false a b bit head byte same alike is has other = let lt = lower bit head a b same alike (omega arith) in (omega arith, omega arith)

chooses : (g : Bool) (bit head byte : ℕ) → Chooses g (λ n. n / 2 ^ bit % 256 == byte) (λ n. (n / 2 ^ (bit + 8) ≡ head) × (choice g byte (n / 2 ^ bit % 256) ≡ byte))
chooses g bit head byte a b pa pb ta tb = nearer g a b bit head byte pa.0 pb.0 pb.1 (eqb-true (a / 2 ^ bit % 256) byte ta) (eqb-false (b / 2 ^ bit % 256) byte tb)

both_hold : (P Q : ℕ → Type 0) (ns : List ℕ) → AllByRecursion P ns → AllByRecursion Q ns → AllByRecursion (λ n. P n × Q n) ns
both_hold P Q [] p q = tt
both_hold P Q (n ∷ ns) p q = ((p.0, q.0), both_hold P Q ns p.1 q.1)

-- one byte further down: those with the byte that is chosen are left
next_byte_chosen : (g : Bool) (all left : List ℕ) (bit places head byte : ℕ) → byte < 256 → byte ≡ fold (choice g) (blank g) (map (λ n. n / 2 ^ bit % 256) left)
    → IsDescended g all left (bit + 8) places head → IsDescended g all (filter (λ n. n / 2 ^ bit % 256 == byte) left) bit (places + 8) (256 * head + byte)
next_byte_chosen g all left bit places head byte fits is so_far =
    let digit = λ (n : ℕ). n / 2 ^ bit % 256 in
    let some = found g digit byte left (λ n. omega arith) is so_far.nonempty in
    let both = both_hold (λ n. n / 2 ^ (bit + 8) ≡ head) (λ n. choice g byte (digit n) ≡ byte) left so_far.heads (chosen_first g digit byte (blank g) left is).1 in
    record {
      nonempty = some;
      heads = all_kept (λ n. (n / 2 ^ (bit + 8) ≡ head) × (choice g byte (digit n) ≡ byte)) (λ n. n / 2 ^ bit ≡ 256 * head + byte) (λ n. digit n == byte)
          (λ n before has. let same = before.0 in omega (arith, next_byte n bit, same, eqb-true (digit n) byte has)) left both;
      chosen = reduce_kept g (λ n. digit n == byte) (λ n. (n / 2 ^ (bit + 8) ≡ head) × (choice g byte (digit n) ≡ byte)) (chooses g bit head byte) left both some ∙ so_far.chosen;
      small = next_small head byte places so_far.small fits;
    }

-- the same under other names
pub next_chosen : (g : Bool) (all left other : List ℕ) (slice high low places more head byte value : ℕ) → high ≡ 8 * slice + 8 → low ≡ 8 * slice → more ≡ places + 8 → value ≡ byte
    → other ≡ filter (λ n. byte_of slice n == byte) left → byte < 256 → byte ≡ fold (choice g) (blank g) (map (byte_of slice) left) → IsDescended g all left high places head
    → IsDescended g all other low more (256 * head + value)
next_chosen g all left other slice high low places more head byte value above here next same are fits is so_far =
    let before = descended_as g all left left high (8 * slice + 8) places head head refl above refl so_far in
    subst (λ p. IsDescended g all other low p (256 * head + value)) (sym next) (descended_as g all _ other (8 * slice) low (places + 8) (256 * head + byte) _ (sym are) (sym here)
    (ap (λ k. 256 * head + k) (sym same)) (next_byte_chosen g all left (8 * slice) places head byte fits is before))
