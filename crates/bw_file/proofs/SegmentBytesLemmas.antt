-- The bytes of a segment that a source keeps, and those that are copied.
use Rattle.std.proofs.Common.{◌≡◌, ◌∙◌, ℕ, ◌+◌, ◌-◌, ◌≤◌, ◌++◌, List, length, take, drop, take-take}
use Rattle.std.proofs.Common.{drop-drop, take-add, sym, ap, ap₂, arith, slice_range}
use Rattle.std.proofs.lemmas.List.{drop-take}

module _ (bytes kept : List ℕ) (start size : ℕ) (within : start + size ≤ length bytes) (next : drop start bytes ≡ take (length bytes - start) kept) where
  -- the next ones are the first that the source keeps
  pub next_kept : take size kept ≡ slice_range bytes start (start + size)
  next_kept =
      let count : start + size - start ≡ size = omega arith in
      sym (ap (λ (n : ℕ). take n (drop start bytes)) count ∙ ap (take size) next ∙ take-take size (length bytes - start) kept (omega (arith, within)))

  -- and those after them are the first that it keeps then
  pub next_left : drop (start + size) bytes ≡ take (length bytes - (start + size)) (drop size kept)
  next_left =
      let left = length bytes - (start + size) in
      let all : length bytes - start ≡ size + left = omega (arith, within) in
      sym (drop-drop size start bytes) ∙ ap (drop size) (next ∙ ap (λ (n : ℕ). take n kept) all) ∙ drop-take size left kept

-- bytes up to the end of a part are those before it and the part
pub with_part : (old new : List ℕ) (start size end : ℕ) → end ≡ start + size → take start new ≡ take start old
    → take end new ≡ take start old ++ slice_range new start (start + size)
with_part old new start size end at before =
    let count : start + size - start ≡ size = omega arith in
    ap (λ (n : ℕ). take n new) at ∙ take-add start size new ∙ ap₂ ◌++◌ before (ap (λ (n : ℕ). take n (drop start new)) (sym count))
