use Rattle.std.proofs.Common.{rules, ◌≡◌, ◌∙◌, ap, ◌+◌, [], List, ℕ, drop, slice_range, length-drop}
use Rattle.std.proofs.Common.{vec_len, arith}
use Rattle.std.specs.Vec.{with_items}
use Rattle.std.proofs.lemmas.List.{with_items_is}
use Rattle.bw_io.proofs.PieceBytes.{piece_of, piece_kept, nothing_read}
use Rattle.bw_io.proofs.read_ahead.ReadAhead.fill.Goals as goal

pub overflow_add-self : goal.overflow_add-self
overflow_add-self g c = omega (arith, c.in-Ok.ensures.bound.0, length-drop 48 c.read_piece.new.memory)

pub invariant_of-self-in-Ok-clause-within : goal.invariant_of-self-in-Ok-clause-within
invariant_of-self-in-Ok-clause-within g c =
    omega (arith, c.in-Ok.ensures.bound.0, length-drop 48 c.read_piece.new.memory, c.read_piece.ensures.long, c.deref_mut.ensures.len, c.args.self.now.nonempty, ap vec_len c.in-Some.ensures.value)

pub returns-in-Ok-clause-bytes : goal.returns-in-Ok-clause-bytes
returns-in-Ok-clause-bytes g c =
    let old = c.args.self.now in
    let memory = c.read_piece.new.memory in
    let none : slice_range old.memory.value.items old.start old.end ≡ [] = search rules in
    let same : (with_items c.in-Some.memory.now memory).items ≡ memory = with_items_is c.in-Some.memory.now memory (search rules) in
    piece_kept _ _ _ _ _ none (ap (λ (l : List ℕ). slice_range l 48 (48 + c.in-Ok.count)) same ∙ piece_of memory c.in-Ok.count) c.in-Ok.ensures.bytes.0

pub returns-in-Ok-clause-ended : goal.returns-in-Ok-clause-ended
returns-in-Ok-clause-ended g c = λ _ none.
    let memory = c.read_piece.new.memory in
    let same : (with_items c.in-Some.memory.now memory).items ≡ memory = with_items_is c.in-Some.memory.now memory (search rules) in
    nothing_read _ _ (drop 48 memory) c.in-Ok.count c.in-Ok.ensures.bound.0
    (ap (λ (l : List ℕ). slice_range l 48 (48 + c.in-Ok.count)) same ∙ piece_of memory c.in-Ok.count) none
    (λ zero. c.in-Ok.ensures.bytes.1 zero (omega (arith, length-drop 48 memory, c.read_piece.ensures.long, c.deref_mut.ensures.len, c.args.self.now.nonempty, ap vec_len c.in-Some.ensures.value)))
