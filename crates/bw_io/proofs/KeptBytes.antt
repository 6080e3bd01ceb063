-- What is left of a piece once its first bytes were taken.
use Rattle.std.proofs.Common.{◌≡◌, ◌∙◌, ℕ, ◌+◌, ◌-◌, ◌≤◌, ◌++◌, List, take, drop, slice_range}
use Rattle.std.proofs.Common.{length, length-take, length-take-le, sym, ap, subst, arith, drop-drop}
use Rattle.std.proofs.Common.{append_assoc, take_at, take-append-drop}
use Rattle.std.proofs.lemmas.List.{drop-take}
use Rattle.std.specs.Prelude.{Option, Some, None}
use Rattle.std.specs.Io.KnownBytes.{Consumes, prepend_known}

-- those after the first ones, this many
pub after_first : (xs : List ℕ) (start end count : ℕ) → count ≤ length (slice_range xs start end)
    → slice_range xs (start + count) end ≡ drop count (slice_range xs start end)
after_first xs start end count few =
    let left = end - (start + count) in
    let whole : count + left ≡ end - start = omega (arith, few, length-take (end - start) (drop start xs)) in
    ap (take left) (sym (drop-drop count start xs)) ∙ sym (drop-take count left (drop start xs)) ∙ ap (λ (n : ℕ). drop count (take n (drop start xs))) whole

-- bytes in front of known ones, of which the first were taken
pub front_consumed : (known : Option (List ℕ)) (count : ℕ) (front rest : List ℕ) → rest ≡ drop count front
    → Consumes (prepend_known front known) (prepend_known rest known) (take count front)
front_consumed None count front rest e = tt
front_consumed (Some bytes) count front rest e =
    ap (λ (l : List ℕ). l ++ bytes) (sym (take-append-drop count front) ∙ ap (λ (l : List ℕ). take count front ++ l) (sym e))
    ∙ append_assoc (take count front) rest bytes

-- the first bytes of a buffer are those that were handed over
pub handed_over : (xs all new rest : List ℕ) (start end count : ℕ) → all ≡ xs → count ≤ length (slice_range all start end) → new ≡ take count (slice_range all start end)
    → slice_range xs start end ≡ take count (new ++ rest) ++ slice_range xs (start + count) end
handed_over xs all new rest start end count same few copied =
    let kept = slice_range xs start end in
    let fits : count ≤ length kept = subst (λ (l : List ℕ). count ≤ length (slice_range l start end)) same few in
    let first : new ≡ take count kept = copied ∙ ap (λ (l : List ℕ). take count (slice_range l start end)) same in
    let whole : take count (new ++ rest) ≡ new = take_at new rest count (ap length first ∙ length-take-le count kept fits) in
    sym (take-append-drop count kept) ∙ ap (λ (l : List ℕ). l ++ drop count kept) (sym first ∙ sym whole)
    ∙ ap (λ (l : List ℕ). take count (new ++ rest) ++ l) (sym (after_first xs start end count fits))
