-- Edges by their targets, and one more.
use Rattle.std.proofs.Common.{◌≡◌, ◌∙◌, refl, sym, ap, ℕ, zero, suc, ◌+◌, ◌<◌, Bool, true, false}
use Rattle.std.proofs.Common.{cond, List, [], ◌∷◌, ◌++◌, length, append-nil, get_or, replicate}
use Rattle.std.proofs.Common.{arith, eqb, set, length-set, get_or-set_same, get_or-set_other}
use Rattle.std.proofs.lemmas.Bool.{eqb-true, eqb-false}
use Rattle.bw_cert_rules.specs.declared.edge.Edge.{Edge}
use Rattle.bw_cert_rules.specs.Join.{edges_into}
use Rattle.bw_cert_rules.specs.Edges.{Holds}

pub edges_into-append : (place : ℕ) (edges : List Edge) (edge : Edge) → edges_into place (edges ++ edge ∷ []) ≡ edges_into place edges ++ cond (eqb edge.target place) (edge ∷ []) []
unfolding edges_into
edges_into-append place [] edge = refl
edges_into-append place (e ∷ edges) edge = at (eqb e.target place) (edges_into-append place edges edge)
  where
    more : List Edge
    more = cond (eqb edge.target place) (edge ∷ []) []

    at : (here : Bool) → edges_into place (edges ++ edge ∷ []) ≡ edges_into place edges ++ more → cond here (e ∷ edges_into place (edges ++ edge ∷ [])) (edges_into place (edges ++ edge ∷ [])) ≡ cond here (e ∷ edges_into place edges) (edges_into place edges) ++ more
    at true rest = ap (λ (es : List Edge). e ∷ es) rest
    at false rest = rest

pub holds_more : (by_target : List (List Edge)) (edges : List Edge) (edge : Edge) → edge.target < length by_target → Holds by_target edges →
    Holds (set by_target edge.target (get_or by_target edge.target [] ++ edge ∷ [])) (edges ++ edge ∷ [])
holds_more by_target edges edge there holds place within = at (eqb edge.target place) refl
  where
    now : List Edge
    now = get_or by_target edge.target [] ++ edge ∷ []

    at : (here : Bool) → eqb edge.target place ≡ here → get_or (set by_target edge.target now) place [] ≡ edges_into place (edges ++ edge ∷ [])
    at true is =
        let same : edge.target ≡ place = eqb-true edge.target place is in
        ap (λ p. get_or (set by_target edge.target now) p []) (sym same)
        ∙ get_or-set_same by_target edge.target now [] there
        ∙ ap (λ es. es ++ edge ∷ []) (holds edge.target there)
        ∙ ap (λ p. edges_into p edges ++ edge ∷ []) same
        ∙ ap (λ b. edges_into place edges ++ cond b (edge ∷ []) []) (sym is)
        ∙ sym (edges_into-append place edges edge)
    at false is =
        get_or-set_other by_target edge.target place now [] (λ same. eqb-false edge.target place is (sym same))
        ∙ holds place (omega (arith, within, length-set by_target edge.target now))
        ∙ sym (append-nil (edges_into place edges))
        ∙ ap (λ b. edges_into place edges ++ cond b (edge ∷ []) []) (sym is)
        ∙ sym (edges_into-append place edges edge)

-- no edges, by this many targets
pub none_by_target : (count : ℕ) → Holds (replicate count []) []
unfolding edges_into
none_by_target (suc count) (suc place) within = none_by_target count place (omega (arith, within))
none_by_target _ _ within = refl

pub replicate-more : {A : Type 0} (count : ℕ) (x : A) → replicate count x ++ x ∷ [] ≡ replicate (suc count) x
replicate-more zero x = refl
replicate-more {A = A} (suc count) x = ap (λ (xs : List A). x ∷ xs) (replicate-more count x)

pub suc-is : (n : ℕ) → suc n ≡ n + 1
suc-is n = omega arith
