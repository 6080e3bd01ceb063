-- One more of the columns.
use Rattle.std.proofs.Common.{◌∙◌, sym, ap, ℕ, ◌+◌, take, get_or}
use Rattle.std.proofs.lemmas.List.{get_or_default}
use Rattle.std.proofs.lemmas.Simd.{map-map}
use Rattle.bw_model.specs.Cond.{operand_value}
use Rattle.bw_model.specs.Row.{value_in}
use Rattle.bw_model.specs.Truth.{any_of, compare_values, greatest}
use Rattle.bw_model.specs.declared.cond.Op.TheVariants.{Eq}
use Rattle.bw_rowwise.specs.Columns.{row_in}
use Rattle.bw_rowwise.proofs.TruthLemmas.{alike, any_more}
use Rattle.bw_rowwise.proofs.lanes.among_columns.Goals as goal

pub loop-place-preserved : goal.loop-place-preserved
loop-place-preserved c =
    let row = λ (lane : ℕ). row_in c.args.columns.now lane in
    let places = c.args.places.now in
    let i = c.loop-place.place-index in
    let place = get_or places i 0 in
    alike _ _ _ (c.either-greatest.ensures _ _ c.loop-place.invariant c.compare-equal.ensures) (λ lane within.
    let x = operand_value (row lane) c.args.x in
    let is = λ (place : ℕ). compare_values Eq x (value_in (row lane) place) in
    ap (λ l. greatest (any_of l) (is place)) (map-map (compare_values Eq x) (value_in (row lane)) (take i places)) ∙ any_more is places i place c.loop-place-test.true (get_or_default places i 0 place c.loop-place-test.true)
    ∙ sym (ap any_of (map-map (compare_values Eq x) (value_in (row lane)) (take (i + 1) places))))
