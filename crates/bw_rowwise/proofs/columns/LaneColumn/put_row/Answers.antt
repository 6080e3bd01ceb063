-- The row's lane is put, and the others stay.
use Rattle.std.proofs.Common.{◌∙◌}
use Rattle.bw_model.specs.Row.{values_of}
use Rattle.bw_rowwise.proofs.ColumnLemmas.{row_added}
use Rattle.bw_rowwise.proofs.columns.LaneColumn.put_row.Goals as goal

pub returns-clause-rows : goal.returns-clause-rows
returns-clause-rows c = λ rows long has.
    let column = c.args.self.now in
    row_added rows (values_of c.args.row.now) column.lanes c.put.new.self column.number c.args.lane long has (c.put.ensures.put ∙ c.value_in.ensures) c.put.ensures.others
