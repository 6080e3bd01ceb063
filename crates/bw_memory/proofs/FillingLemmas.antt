-- Bytes that were read after others, into one buffer.
use Rattle.std.proofs.Common.{◌≡◌, ◌∙◌, sym, ap, ap₂, ℕ, ◌+◌, ◌-◌, ◌≤◌, List, ◌++◌, length, take, drop}
use Rattle.std.proofs.Common.{Option, Some, None}
use borrow.Rule.Slice.PartMut.{put_mid}
use Rattle.std.specs.Prelude.{IfSome}
use Rattle.std.proofs.Math.Seq.{take-add}
use Rattle.std.proofs.lemmas.List.{drop-drop}
use Rattle.bw_io.specs.RandomAccess.{AreAt}
use Rattle.bw_file.proofs.ReadingLemmas.{front_filled}

pub filled_more : (known : Option (List ℕ)) (at filled n : ℕ) (xs ys : List ℕ) → filled ≤ length xs → n ≤ length ys → IfSome known (AreAt at filled xs)
    → IfSome known (AreAt (at + filled) n ys) → IfSome known (AreAt at (filled + n) (put_mid filled (length xs - filled) xs ys))
filled_more None at filled n xs ys within few before here = tt
filled_more (Some bytes) at filled n xs ys within few before here =
    front_filled filled n xs ys within few ∙ ap₂ ◌++◌ before (here ∙ ap (take n) (sym (drop-drop filled at bytes))) ∙ sym (take-add filled n (drop at bytes))

-- what is known of a device that is the same
pub known_as : (known now : Option (List ℕ)) (P : List ℕ → Type 0) → now ≡ known → IfSome now P → IfSome known P
known_as known now P same has = rw same at has
