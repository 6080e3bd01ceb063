-- The column at hand is done, and its number is the same.
use Rattle.std.proofs.Common.{◌∙◌, ℕ, List, [], arith, get_or, length-set}
use Rattle.std.proofs.Math.Seq.{map-set_same}
use Rattle.bw_rowwise.specs.Columns.{HasColumn}
use Rattle.bw_rowwise.specs.declared.columns.LaneColumn.{LaneColumn}
use Rattle.bw_rowwise.proofs.ColumnLemmas.{done_more}
use Rattle.bw_rowwise.proofs.columns.clear_all.Goals as goal

pub loop-column-preserved : goal.loop-column-preserved
loop-column-preserved c =
    let columns = c.loop-column.columns in
    let i = c.loop-column.column-index in
    let column = c.clear.new.self in
    record {
      same = map-set_same (λ (column : LaneColumn). column.number) columns i column _ c.clear.ensures.same ∙ c.loop-column.invariant.same;
      many = length-set columns i column ∙ c.loop-column.invariant.many;
      done = done_more (λ k column. HasColumn [] column.number column.lanes) columns i column (omega (arith, c.loop-column-test.true, c.loop-column.invariant.many)) c.loop-column.invariant.done c.clear.ensures.rows;
    }
