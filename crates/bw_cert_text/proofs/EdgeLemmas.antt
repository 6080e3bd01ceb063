-- The pairs of a line, one pair at a time.
use Rattle.std.proofs.Common.{◌≡◌, ◌∙◌, refl, sym, ap, ℕ, ◌-◌, ◌≤◌, List, [], ◌∷◌, ◌++◌, map, take}
use Rattle.std.proofs.Common.{drop, length, get_or, option_map, Option, Some, None, Bor}
use Rattle.std.proofs.Common.{append_assoc, arith, append-nil, take_all}
use Rattle.bw_text.specs.Number.{natural_of}
use Rattle.bw_cert_text.specs.declared.lines.EdgeProducts.{EdgeProducts}
use Rattle.bw_cert_text.specs.LineText.{edges_in}
use Rattle.bw_cert_text.specs.Operand.{◌>?◌}

abbrev texts : List (Bor (List ℕ)) → List (List ℕ)
texts words = map (λ word. word.now) words

-- pairs that were read, and then more of them
abbrev followed_by : List EdgeProducts → Option (List EdgeProducts) → Option (List EdgeProducts)
followed_by edges more = option_map (λ (more : List EdgeProducts). edges ++ more) more

pub edges-first : (words : List (Bor (List ℕ))) (d : Bor (List ℕ)) (edges : List EdgeProducts) (whole : Option (List EdgeProducts)) → whole ≡ followed_by edges (edges_in (texts words)) →
    2 ≤ length words → natural_of (get_or words 0 d).now ≡ None → whole ≡ None
unfolding edges_in
edges-first (i ∷ j ∷ words) d edges whole told le none = rw none at told
edges-first _ d edges whole told le none = absurd (omega (arith, le))

pub edges-second : (words : List (Bor (List ℕ))) (d : Bor (List ℕ)) (edges : List EdgeProducts) (whole : Option (List EdgeProducts)) (n : ℕ) → whole ≡ followed_by edges (edges_in (texts words)) →
    2 ≤ length words → natural_of (get_or words 0 d).now ≡ Some n → natural_of (get_or words 1 d).now ≡ None → whole ≡ None
unfolding edges_in
edges-second (i ∷ j ∷ words) d edges whole n told le some none = rw (some, none) at told
edges-second _ d edges whole n told le some none = absurd (omega (arith, le))

longer : (edges : List EdgeProducts) (edge : EdgeProducts) (more : Option (List EdgeProducts)) → followed_by edges (more >? λ rest. Some (edge ∷ rest)) ≡ followed_by (edges ++ edge ∷ []) more
longer edges edge None = refl
longer edges edge (Some rest) = ap Some (sym (append_assoc edges (edge ∷ []) rest))

pub edges-next : (words : List (Bor (List ℕ))) (d : Bor (List ℕ)) (edges new : List EdgeProducts) (whole : Option (List EdgeProducts)) (n m : ℕ) → whole ≡ followed_by edges (edges_in (texts words)) →
    2 ≤ length words → natural_of (get_or words 0 d).now ≡ Some n → natural_of (get_or words 1 d).now ≡ Some m → new ≡ edges ++ record { differs = n; within = m } ∷ [] →
    whole ≡ followed_by new (edges_in (texts (take (length words - 2) (drop 2 words))))
unfolding edges_in
edges-next (i ∷ j ∷ words) d edges new whole n m told le first second is =
    let short : length words ≤ length (i ∷ j ∷ words) - 2 = omega arith in
    rw (is, take_all (length (i ∷ j ∷ words) - 2) words short)
    (rw (first, second) at told ∙ longer edges (record { differs = n; within = m }) (edges_in (texts words)))
edges-next _ d edges new whole n m told le first second is = absurd (omega (arith, le))

pub edges-all : (words : List (Bor (List ℕ))) (edges : List EdgeProducts) (whole : Option (List EdgeProducts)) → whole ≡ followed_by edges (edges_in (texts words)) → length words ≡ 0 → Some edges ≡ whole
unfolding edges_in
edges-all [] edges whole told e = sym (told ∙ ap Some (append-nil edges))
edges-all (i ∷ words) edges whole told e = absurd (omega (arith, e))

pub edges-half : (words : List (Bor (List ℕ))) (edges : List EdgeProducts) (whole : Option (List EdgeProducts)) → whole ≡ followed_by edges (edges_in (texts words)) → length words ≡ 1 → whole ≡ None
unfolding edges_in
edges-half (i ∷ []) edges whole told e = told
edges-half _ edges whole told e = absurd (omega (arith, e))
