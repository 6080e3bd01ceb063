use Rattle.std.proofs.Common.{◌≡◌, ◌∙◌, refl, ap, ℕ, Bool, true, false, cond, arith}
use mir.Val.{bool_byte}
use Rattle.bw_segment.proofs.PlacementLemmas.{nullable_read, variable_next}
use Rattle.bw_segment.proofs.segment.place_of.Goals as goal

one_null : (b : Bool) → ◌≡◌ {A = ℕ} (cond b 1 0) (bool_byte b)
one_null true = refl
one_null false = refl

pub returns-then-rest-count-clause-bit : goal.returns-then-rest-count-clause-bit
returns-then-rest-count-clause-bit c = λ low.
    let columns = c.args.schema.now.columns.items in
    let column = c.index.result.now in
    let null = ap (λ b. cond b 1 0) (nullable_read columns c.loop-col.col column (omega arith) c.index.ensures) ∙ one_null column.nullable in
    omega (arith, variable_next columns c.loop-col.col (omega arith), null, c.from.ensures, c.width.ensures.width, c.loop-col.invariant)
