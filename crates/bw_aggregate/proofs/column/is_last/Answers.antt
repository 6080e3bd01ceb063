use Rattle.std.proofs.Common.{◌≡◌, ◌∙◌, sym, ap, ap₂, subst, false, Bool, w64, to_z, of_z, unsigned_abs, ◌-ℤ◌, arith}
use Rattle.std.specs.List.{list_any}
use Rattle.std.proofs.lemmas.Bool.{eqb-true}
use Rattle.std.proofs.lemmas.Int.{ints}
use Rattle.bw_segment.specs.Selected.{codes_in, is_beyond, is_greatest}
use Rattle.bw_aggregate.proofs.ColumnLemmas.{none_below_first, none_above_last}
use Rattle.bw_aggregate.proofs.column.is_last.Goals as goal

pub returns-in-Least : goal.returns-in-Least
returns-in-Least g c = λ is lanes.
    let meaning = g.S.Segment.meaning c.args.segment.now in
    subst (λ (b : Bool). list_any (is_beyond b c.args.code) (codes_in meaning c.args.col lanes) ≡ false) (sym (ap is_greatest c.in-Least.is))
    (none_below_first meaning c.args.col c.args.code (eqb-true _ _ is) lanes)

pub returns-in-Greatest : goal.returns-in-Greatest
returns-in-Greatest g c = λ is lanes.
    let meaning = g.S.Segment.meaning c.args.segment.now in
    let read = rw c.schema.ensures.columns at c.index-column.ensures in
    let hi : to_z w64 (of_z w64 c.index-column.result.now.hi) ≡ c.index-column.result.now.hi = omega (arith, ints) in
    let lo : to_z w64 (of_z w64 c.index-column.result.now.lo) ≡ c.index-column.result.now.lo = omega (arith, ints) in
    let span = c.abs_diff.ensures ∙ ap₂ (λ a b. unsigned_abs (a -ℤ b)) hi lo in
    subst (λ (b : Bool). list_any (is_beyond b c.args.code) (codes_in meaning c.args.col lanes) ≡ false) (sym (ap is_greatest c.in-Greatest.is))
    (none_above_last meaning c.args.col c.args.code c.index-column.result.now c.requires read (eqb-true _ _ is ∙ span) lanes)
