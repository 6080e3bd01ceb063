-- The total at hand is as it was; then it has the selected rows.
use Rattle.std.proofs.Common.{ap, get_or}
use Rattle.std.proofs.lemmas.List.Edits.{map_over_more}
use Rattle.bw_lanes.specs.Lanes.{lanes_of_words}
use Rattle.bw_rowwise.specs.Accumulator.{Tally}
use Rattle.bw_aggregate.specs.Selected.{selected_rows, with_selected}
use Rattle.bw_answer.proofs.selected.total_selected.Goals as goal

pub loop-total-preserved : goal.loop-total-preserved
loop-total-preserved g c =
    let more = selected_rows (g.S.Segment.meaning c.args.segment.now) (lanes_of_words c.args.selection.now) in
    let f = λ (tally : Tally). with_selected tally more in
    let i = c.loop-total.total-index in
    let here = get_or c.loop-total.totals i c.total-item.result in
    rw c.add_selected.ensures.step (map_over_more f c.args.totals.now c.loop-total.totals i here c.loop-total-test.true c.loop-total.invariant (ap (λ (d : Tally). get_or c.loop-total.totals i d) c.total-item.is))
