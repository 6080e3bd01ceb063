-- A selection has as many ones as there are rows that match.
use Rattle.std.proofs.Common.{◌≡◌, ◌∙◌, ℕ, zero, suc, ◌+◌, ◌≤◌, List, [], ◌∷◌, ◌++◌, false}
use Rattle.std.proofs.Common.{length, refl, sym, ap, arith, cond, count_by, replicate}
use Rattle.std.proofs.lemmas.List.Sums.{count_by-le-length, length-filter, sum_by-cons}
use Rattle.bw_model.specs.declared.cond.Cond.{Cond}
use Rattle.bw_model.specs.Cond.{is_match}
use Rattle.bw_model.specs.Row.{Value}
use Rattle.bw_model.specs.Selection.{matching_rows, selection}

zeros_counted : (n : ℕ) → count_by (λ lane. lane) (replicate n false) ≡ 0
zeros_counted zero = refl
zeros_counted (suc n) = sum_by-cons (λ b. cond b 1 0) false (replicate n false) ∙ omega (arith, zeros_counted n)

lanes_counted : (c : Cond) (rows : List (List Value)) (n : ℕ) → count_by (λ lane. lane) (selection c rows ++ replicate n false) ≡ count_by (is_match c) rows
lanes_counted c [] n = zeros_counted n
lanes_counted c (row ∷ rows) n =
    sum_by-cons (λ b. cond b 1 0) (is_match c row) (selection c rows ++ replicate n false) ∙ ap (λ k. cond (is_match c row) 1 0 + k) (lanes_counted c rows n)
    ∙ sym (sum_by-cons (λ (r : List Value). cond (is_match c r) 1 0) row rows)

-- with zeros after the last row
pub matches_counted : (c : Cond) (rows : List (List Value)) (n : ℕ) → length (matching_rows c rows) ≡ count_by (λ lane. lane) (selection c rows ++ replicate n false)
matches_counted c rows n = length-filter (is_match c) rows ∙ sym (lanes_counted c rows n)

pub matches_among : (c : Cond) (rows : List (List Value)) → length (matching_rows c rows) ≤ length rows
matches_among c rows = let few = count_by-le-length (is_match c) rows in omega (arith, few, length-filter (is_match c) rows)
