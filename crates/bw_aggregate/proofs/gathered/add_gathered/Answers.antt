-- If a row is selected, their number and their total are added; else there is nothing to add.
use Rattle.std.proofs.Common.{◌∙◌, sym, ap, arith}
use Rattle.bw_lanes.specs.Lanes.{lanes_of_words}
use Rattle.bw_model.specs.Selection.{selected_items}
use Rattle.bw_model.specs.Total.{combine_totals}
use Rattle.bw_aggregate.proofs.ColumnLemmas.{rows_counted}
use Rattle.bw_aggregate.proofs.SelectedLemmas.{joined_selected, unselected}
use Rattle.bw_aggregate.proofs.gathered.add_gathered.Goals as goal

pub returns-then-number-ne0-clause-total : goal.returns-then-number-ne0-clause-total
returns-then-number-ne0-clause-total c = λ rows have within.
    let lanes = lanes_of_words c.args.selection.now in
    let tally = c.args.total.now in
    let number = c.requires.number ∙ rows_counted rows lanes within in
    c.add_total.ensures.step ∙ joined_selected tally (selected_items lanes rows) _ _ number (omega arith)
    (ap (combine_totals tally.item tally.answer) (rw c.item.ensures at (c.total_of-others.ensures.total rows have within)))

pub returns-else-number-ne0-clause-total : goal.returns-else-number-ne0-clause-total
returns-else-number-ne0-clause-total c = λ rows have within.
    let lanes = lanes_of_words c.args.selection.now in
    let number = c.requires.number ∙ rows_counted rows lanes within in
    unselected c.args.total.now (selected_items lanes rows) (omega (arith, number))
