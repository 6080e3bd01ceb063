-- The column at hand is as it was, and gets the row.
use Rattle.std.proofs.Common.{◌≡◌, ◌∙◌, ℕ, List, [], ◌∷◌, ◌++◌, arith, get_or, length, length-set}
use Rattle.std.proofs.Common.{subst, sym}
use Rattle.std.proofs.Math.Seq.{map-set_same}
use Rattle.std.proofs.lemmas.List.{get_or-set_other, get_or_default}
use Rattle.bw_model.specs.Row.{Value, values_of}
use Rattle.bw_rowwise.specs.Columns.{HasColumn}
use Rattle.bw_rowwise.specs.declared.columns.LaneColumn.{LaneColumn}
use Rattle.bw_rowwise.proofs.ColumnLemmas.{done_more}
use Rattle.bw_rowwise.proofs.columns.put_in_all.Goals as goal

pub loop-column-preserved : goal.loop-column-preserved
loop-column-preserved c =
    let first = c.args.columns.now in
    let columns = c.loop-column.columns in
    let i = c.loop-column.column-index in
    let column = c.put_row.new.self in
    let so_far = c.loop-column.invariant in
    let within = c.loop-column-test.true in
    let row = values_of c.args.row.now in
    let has = λ (rows : List (List Value)) (column : LaneColumn). HasColumn rows column.number column.lanes in
    let all = done_more (λ (k : ℕ) (column : LaneColumn). (d : LaneColumn) (rows : List (List Value)) → length rows ≡ c.args.lane → has rows (get_or first k d) → has (rows ++ row ∷ []) column)
    columns i column (omega (arith, within, so_far.many))
    (λ k d below other rows long before. so_far.done k d below rows long (subst (has rows) (get_or_default first k other d (omega (arith, below, within))) before))
    (λ d rows long before. c.put_row.ensures.rows rows long (subst (has rows) (sym (so_far.rest i d (omega arith)) ∙ get_or_default columns i d _ (omega (arith, within, so_far.many))) before)) in
    record {
      same = map-set_same (λ (column : LaneColumn). column.number) columns i column _ c.put_row.ensures.same ∙ so_far.same;
      many = length-set columns i column ∙ so_far.many;
      rest = λ k d from. get_or-set_other columns i k column d (λ e. omega (arith, from, e)) ∙ so_far.rest k d (omega (arith, from));
      done = λ k d below rows long before. all k d below d rows long before;
    }
