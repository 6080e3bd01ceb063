-- A piece that is read into memory, after its front.
use Rattle.std.proofs.Common.{◌≡◌, ◌∙◌, ℕ, ◌+◌, ◌-◌, ◌≤◌, [], ◌++◌, List, take, drop, slice_range}
use Rattle.std.proofs.Common.{length, sym, ap, arith, length-take-le, length-drop, append-nil}
use Rattle.std.proofs.lemmas.List.{drop_all, drop_at}
use Rattle.std.specs.Prelude.{Option, Some, None}
use Rattle.std.specs.Io.KnownBytes.{Consumes, Keeps, IsAtEnd, prepend_known}
use Rattle.std.proofs.KnownBytes.{Keeps-refl, prepend_known-end}
use borrow.Rule.Slice.PartMut.{put_mid, post_of}

pub after_front : (memory piece : List ℕ) → 48 ≤ length memory → drop 48 (put_mid 48 (length memory - 48) memory piece) ≡ piece
after_front memory piece long =
    let rest = drop 48 memory in
    let none : post_of 48 (length memory - 48) memory ≡ [] = drop_all (length memory - 48) rest (omega (arith, length-drop 48 memory)) in
    drop_at (take 48 memory) (piece ++ post_of 48 (length memory - 48) memory) 48 (length-take-le 48 memory long)
    ∙ ap (λ (l : List ℕ). piece ++ l) none ∙ append-nil piece

pub piece_of : (memory : List ℕ) (count : ℕ) → slice_range memory 48 (48 + count) ≡ take count (drop 48 memory)
piece_of memory count = let whole : 48 + count - 48 ≡ count = omega arith in ap (λ (n : ℕ). take n (drop 48 memory)) whole

-- what a reader gave is kept, if nothing was
pub piece_kept : (before after : Option (List ℕ)) (nothing kept piece : List ℕ) → nothing ≡ [] → kept ≡ piece → Consumes before after piece
    → Keeps (prepend_known nothing before) (prepend_known kept after)
piece_kept None after nothing kept piece none same read = tt
piece_kept (Some bytes) None nothing kept piece none same read = absurd read
piece_kept (Some bytes) (Some left) nothing kept piece none same read =
    ap (λ (l : List ℕ). l ++ left) same ∙ sym read ∙ sym (ap (λ (l : List ℕ). l ++ bytes) none)

-- if nothing was read into a buffer with room, the reader is at its end
pub nothing_read : (after : Option (List ℕ)) (kept buffer : List ℕ) (count : ℕ) → count ≤ length buffer → kept ≡ take count buffer → kept ≡ []
    → (count ≡ 0 → IsAtEnd after) → IsAtEnd (prepend_known kept after)
nothing_read after kept buffer count few same none end =
    prepend_known-end (prepend_known kept after) after kept (Keeps-refl (prepend_known kept after)) none
    (end (omega (arith, length-take-le count buffer few, ap length same, ap length none)))
