-- If a row is selected, their number and their total are added; else there is nothing to add.
use Rattle.std.proofs.Common.{◌∙◌, ◌+◌, sym, ap, arith, List}
use Rattle.bw_lanes.specs.Lanes.{lanes_of_words}
use Rattle.bw_model.specs.Row.{Value}
use Rattle.bw_rowwise.specs.Accumulator.{Tally, tally_of}
use Rattle.bw_aggregate.specs.Selected.{selected_rows}
use Rattle.bw_aggregate.proofs.ColumnLemmas.{rows_counted}
use Rattle.bw_aggregate.proofs.SelectedLemmas.{few_selected, joined_selected, joined_rows}
use Rattle.bw_aggregate.proofs.SelectedLemmas.{none_selected, small_for_more, unselected}
use Rattle.bw_aggregate.proofs.selected.add_selected.Goals as goal

pub add_total-requires-clause-capacity : goal.add_total-requires-clause-capacity
add_total-requires-clause-capacity g c =
    let rows = (g.S.Segment.meaning c.args.segment.now).rows in
    let lanes = lanes_of_words c.args.selection.now in
    let number = c.requires.number ∙ rows_counted rows lanes c.requires.selection in
    omega (arith, number, few_selected lanes rows, c.requires.capacity)

pub add_total-requires-clause-small : goal.add_total-requires-clause-small
add_total-requires-clause-small g c =
    small_for_more c.args.number c.total_of-others.result (omega arith) c.total_of-others.ensures.small

pub total_of-others-requires-clause-number : goal.total_of-others-requires-clause-number
total_of-others-requires-clause-number g c =
    c.requires.number ∙ rows_counted (g.S.Segment.meaning c.args.segment.now).rows (lanes_of_words c.args.selection.now) c.requires.selection

pub returns-then-number-ne0-clause-count : goal.returns-then-number-ne0-clause-count
returns-then-number-ne0-clause-count g c =
    let rows = (g.S.Segment.meaning c.args.segment.now).rows in
    let number = c.requires.number ∙ rows_counted rows (lanes_of_words c.args.selection.now) c.requires.selection in
    ap (λ (t : Tally). t.count) c.add_total.ensures.step ∙ ap (λ n. c.args.total.now.count + n) number

pub returns-then-number-ne0-clause-total : goal.returns-then-number-ne0-clause-total
returns-then-number-ne0-clause-total g c = λ rows before.
    let meaning = g.S.Segment.meaning c.args.segment.now in
    let lanes = lanes_of_words c.args.selection.now in
    let more = selected_rows meaning lanes in
    let number = c.requires.number ∙ rows_counted meaning.rows lanes c.requires.selection in
    c.add_total.ensures.step ∙ joined_rows c.args.total.now rows more _ _ number before c.total_of-others.ensures.total (c.totals_join.ensures c.args.total.now.item rows more)

pub returns-else-number-ne0-clause-count : goal.returns-else-number-ne0-clause-count
returns-else-number-ne0-clause-count g c =
    let rows = (g.S.Segment.meaning c.args.segment.now).rows in
    let number = c.requires.number ∙ rows_counted rows (lanes_of_words c.args.selection.now) c.requires.selection in
    omega (arith, number)

pub returns-else-number-ne0-clause-total : goal.returns-else-number-ne0-clause-total
returns-else-number-ne0-clause-total g c = λ rows before.
    let meaning = g.S.Segment.meaning c.args.segment.now in
    let lanes = lanes_of_words c.args.selection.now in
    let number = c.requires.number ∙ rows_counted meaning.rows lanes c.requires.selection in
    before ∙ ap (λ (those : List (List Value)). tally_of c.args.total.now.item those) (sym (none_selected rows (selected_rows meaning lanes) (omega (arith, number))))

pub returns-then-number-ne0-clause-step : goal.returns-then-number-ne0-clause-step
returns-then-number-ne0-clause-step g c =
    let meaning = g.S.Segment.meaning c.args.segment.now in
    let lanes = lanes_of_words c.args.selection.now in
    let number = c.requires.number ∙ rows_counted meaning.rows lanes c.requires.selection in
    c.add_total.ensures.step ∙ joined_selected c.args.total.now (selected_rows meaning lanes) _ _ number (omega arith) c.total_of-others.ensures.total

pub returns-else-number-ne0-clause-step : goal.returns-else-number-ne0-clause-step
returns-else-number-ne0-clause-step g c =
    let meaning = g.S.Segment.meaning c.args.segment.now in
    let lanes = lanes_of_words c.args.selection.now in
    let number = c.requires.number ∙ rows_counted meaning.rows lanes c.requires.selection in
    unselected c.args.total.now (selected_rows meaning lanes) (omega (arith, number))
