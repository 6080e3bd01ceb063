-- Bytes that a sink took, or a source gave, in several steps.
use Rattle.std.proofs.Common.{◌≡◌, ℕ, ◌+◌, ◌-◌, ◌≤◌, List, ◌++◌, Option, sym, ap, ◌∙◌, subst}
use Rattle.std.proofs.Common.{length, take, drop, length-append, length-drop}
use Rattle.std.proofs.Math.Seq.{take-add, take-length}
use Rattle.std.specs.Io.KnownBytes.{Appends, Consumes}
use Rattle.std.proofs.KnownBytes.{Appends-trans, Consumes-trans}

-- what stands from m on is the rest
take-drop_rest : (m : ℕ) (text : List ℕ) → take (length text - m) (drop m text) ≡ drop m text
take-drop_rest m text = ap (λ k. take k (drop m text)) (sym (length-drop m text)) ∙ take-length (drop m text)

-- a text's front was written, and then the front of its rest
pub more_taken : (a b c : Option (List ℕ)) (text : List ℕ) (m n : ℕ) → Appends a b (take m text)
    → Appends b c (take n (take (length text - m) (drop m text))) → Appends a c (take (m + n) text)
more_taken a b c text m n p q =
    let rest : Appends b c (take n (drop m text)) = rw take-drop_rest at q in
    subst (Appends a c) (sym (take-add m n text)) (Appends-trans a b c _ _ p rest)

-- what came in two steps was taken
pub took_more : (most : ℕ) (a b c : Option (List ℕ)) (bs cs : List ℕ) → Consumes a b bs → Consumes b c cs
    → length bs + length cs ≤ most → (bytes : List ℕ) × Consumes a c bytes × (length bytes ≤ most)
took_more most a b c bs cs p q h = (bs ++ cs, Consumes-trans a b c bs cs p q, simp length-append h)
