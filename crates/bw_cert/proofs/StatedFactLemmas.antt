-- One line after another.
use Rattle.std.proofs.Common.{◌≡◌, ◌∙◌, sym, ap, ℕ, suc, ◌+◌, ◌<◌, ◌≤◌, List, ◌∷◌, drop, length}
use Rattle.std.proofs.Common.{get_or, Result, Ok, add-one, drop-cons}
use Rattle.std.proofs.lemmas.List.{drop_all}
use Rattle.bw_model.specs.declared.fault.Fault.{Fault}
use Rattle.bw_model.specs.Fault.{◌>>=◌}
use Rattle.bw_diagram.specs.Facts.{Facts}
use Rattle.bw_cert.specs.StatedFacts.{with_lines}

drop_here : {A : Type 0} (xs : List A) (i : ℕ) (x : A) → i < length xs → x ≡ get_or xs i x → drop i xs ≡ x ∷ drop (i + 1) xs
drop_here {A = A} xs i x lt is = rw (add-one, drop-cons xs i x lt) (ap (λ (y : A). y ∷ drop (suc i) xs) (sym is))

pub with_step : {Line : Type 0} (add : Facts → Line → Result Facts Fault) (facts : Facts) (lines : List Line) (i : ℕ) (line : Line) → i < length lines → line ≡ get_or lines i line →
    (r : Result Facts Fault) → add facts line ≡ r → with_lines add facts (drop i lines) ≡ (r >>= λ more. with_lines add more (drop (i + 1) lines))
unfolding with_lines
with_step add facts lines i line lt there r is =
    ap (with_lines add facts) (drop_here lines i line lt there) ∙ ap (λ r. r >>= λ more. with_lines add more (drop (i + 1) lines)) is

pub with_all : {Line : Type 0} (add : Facts → Line → Result Facts Fault) (facts : Facts) (lines : List Line) (i : ℕ) → length lines ≤ i → with_lines add facts (drop i lines) ≡ Ok facts
unfolding with_lines
with_all add facts lines i le = ap (with_lines add facts) (drop_all i lines le)
