-- First bytes of blocks that are apart, if a block is added.
use Rattle.std.proofs.Common.{◌≡◌, ◌∙◌, sym, ap, subst, ℕ, ◌+◌, ◌-◌, ◌*◌, ◌≤◌, List, ◌++◌, Bool, true}
use Rattle.std.proofs.Common.{false, cond, length, take, drop, length-append, length-take, Option}
use Rattle.std.proofs.Common.{Some, None, slice_range, replicate, inl, inr, arith}
use Rattle.std.specs.Prelude.{IfSome}
use Rattle.std.proofs.lemmas.Bool.{cases_lt}
use Rattle.std.proofs.lemmas.List.{take_all}
use Rattle.bw_lanes.specs.Lanes.{lanes_of_bytes}
use Rattle.bw_model.specs.declared.column.Column.{Column}
use Rattle.bw_model.specs.Groups.{group_size}
use Rattle.bw_model.specs.Variable.{is_nullable}
use Rattle.bw_segment.specs.Packing.{block_nulls}
use Rattle.bw_segment.specs.Fronts.{AreFronts, HasFronts}
use Rattle.bw_segment.proofs.LayoutLemmas.{piece_kept, piece_last}

-- what holds of an option's value
pub if_some : {A : Type 0} (r : Option A) (P Q : A → Type 0) → ((x : A) → P x → Q x) → IfSome r P → IfSome r Q
if_some (Some x) P Q then is = then x is
if_some None P Q then is = tt

-- the first bytes of a block that is cut out
pub front_is : (size at : ℕ) (bytes block : List ℕ) → slice_range bytes at (at + size) ≡ block → take 64 (take size (drop at bytes)) ≡ take 64 block
front_is size at bytes block is = ap (λ n. take 64 (take n (drop at bytes))) {x = size} {y = at + size - at} (omega arith) ∙ ap (take 64) is

-- the null bits of a block are in its first bytes
pub nulls_in_front : (columns : List Column) (col : ℕ) (block : List ℕ) → block_nulls columns col (take 64 block) ≡ block_nulls columns col block
unfolding block_nulls
nulls_in_front columns col block =
    ap (λ (l : List ℕ). cond (is_nullable columns col) (lanes_of_bytes l) (replicate group_size false)) (take_all 64 (take 64 block) (omega (arith, length-take 64 block)))

-- those of the blocks before it stay
pub fronts_kept : (stride size : ℕ) (bytes block fronts : List ℕ) → AreFronts stride size bytes fronts → AreFronts stride size (bytes ++ block) fronts
fronts_kept stride size bytes block fronts are = λ number there.
    let held = are number there in
    (omega (arith, held.0, length-append bytes block), held.1 ∙ ap (take 64) (sym (piece_kept size (number * stride) bytes block held.0)))

-- and its own come after them
pub fronts_more : (size : ℕ) (bytes block fronts : List ℕ) → AreFronts size size bytes fronts → HasFronts size bytes fronts → length block ≡ size → 64 ≤ size
    → AreFronts size size (bytes ++ block) (fronts ++ take 64 block)
fronts_more size bytes block fronts are has long room = λ number there. elim (cases_lt number has.0) [
  | inl before ↦
      let inside : 64 * number + 64 ≤ length fronts = omega (arith, has.1, before) in
      let held = fronts_kept size size bytes block fronts are number inside in
      (held.0, piece_kept 64 (64 * number) fronts (take 64 block) inside ∙ held.1)
  | inr not_before ↦
      let front : length (take 64 block) ≡ 64 = omega (arith, length-take 64 block, long, room) in
      let last : number ≡ has.0 = omega (arith, there, length-append fronts (take 64 block), front, has.1, not_before) in
      let place : length bytes ≡ number * size = has.2 ∙ ap (λ (n : ℕ). n * size) (sym last) in
      let at : length fronts ≡ 64 * number = omega (arith, has.1, last) in (
        omega (arith, place, long, length-append bytes block),
        piece_last 64 (64 * number) fronts (take 64 block) at front ∙ ap (take 64) (sym (piece_last size (number * size) bytes block place long)),
      )
]

-- whether they were put apart or not
fronts_added : (size : ℕ) (bytes block fronts more new_bytes new_fronts : List ℕ) (ok : Bool) → AreFronts size size bytes fronts → HasFronts size bytes fronts → length block ≡ size
    → 64 ≤ size → more ≡ fronts → new_bytes ≡ bytes ++ block → new_fronts ≡ cond ok (more ++ take 64 block) more → AreFronts size size new_bytes new_fronts
fronts_added size bytes block fronts more new_bytes new_fronts true are has long room same added pushed =
    rw (added, pushed, same) (fronts_more size bytes block fronts are has long room)
fronts_added size bytes block fronts more new_bytes new_fronts false are has long room same added pushed =
    rw (added, pushed, same) (fronts_kept size size bytes block fronts are)

pub fronts_pushed : (stride size : ℕ) (bytes block fronts more new_bytes new_fronts : List ℕ) (ok : Bool) → stride ≡ size → AreFronts stride size bytes fronts → HasFronts size bytes fronts
    → length block ≡ size → 64 ≤ size → more ≡ fronts → new_bytes ≡ bytes ++ block → new_fronts ≡ cond ok (more ++ take 64 block) more → AreFronts stride size new_bytes new_fronts
fronts_pushed stride size bytes block fronts more new_bytes new_fronts ok dense are has long room same added pushed =
    subst (λ (n : ℕ). AreFronts n size new_bytes new_fronts) (sym dense)
    (fronts_added size bytes block fronts more new_bytes new_fronts ok (subst (λ (n : ℕ). AreFronts n size bytes fronts) dense are) has long room same added pushed)
