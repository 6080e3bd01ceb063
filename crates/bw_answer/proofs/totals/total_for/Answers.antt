-- The total at hand is the first one of the item, or is passed by.
use Rattle.std.proofs.Common.{◌∙◌, sym, ap}
use Rattle.bw_model.specs.declared.query.Item.{Item}
use Rattle.bw_rowwise.specs.Accumulator.{Tally}
use Rattle.bw_answer.specs.Aggregates.{is_same}
use Rattle.bw_answer.proofs.AggregateLemmas.{found_at, none_left, passed_at}
use Rattle.bw_answer.proofs.totals.total_for.Goals as goal

pub returns-then-eq : goal.returns-then-eq
returns-then-eq c =
    let item = c.args.item in
    let same = ap (λ (tally : Tally). is_same tally.item item) (sym c.total-item.is) ∙ ap (λ (other : Item). is_same other item) (sym c.item.ensures) ∙ sym c.eq.ensures ∙ c.if-eq.true in
    c.finish.ensures ∙ ap (λ (tally : Tally). tally.answer) c.total-item.is
    ∙ sym (found_at c.args.totals.now item c.loop-total.total-index c.total-item.result c.loop-total-test.true c.loop-total.invariant same)

pub loop-total-preserved : goal.loop-total-preserved
loop-total-preserved c =
    let item = c.args.item in
    let other = ap (λ (tally : Tally). is_same tally.item item) (sym c.total-item.is) ∙ ap (λ (other : Item). is_same other item) (sym c.item.ensures) ∙ sym c.eq.ensures ∙ c.if-eq.false in
    passed_at c.args.totals.now item c.loop-total.total-index c.total-item.result c.loop-total-test.true c.loop-total.invariant other

pub returns : goal.returns
returns c = sym (none_left c.args.totals.now c.args.item c.loop-total.total-index c.loop-total-test.false c.loop-total.invariant)
