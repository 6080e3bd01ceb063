-- Each turn makes one column more.
use Rattle.std.proofs.Common.{◌∙◌, ◌<◌, length, arith, refl}
use Rattle.bw_csv_calls.specs.ColumnStats.{no_stats}
use Rattle.bw_csv_calls.proofs.ColumnLemmas.{column_more, columns_end, names-push, out_of_range}
use Rattle.bw_model.proofs.SchemaLemmas.{shapes-push}
use Rattle.bw_model.proofs.ErrLemmas.{err_passed_on}
use Rattle.bw_csv_calls.proofs.columns.columns_from_stats.Goals as goal

pub returns-in_err-column-clause-columns : goal.returns-in_err-column-clause-columns
returns-in_err-column-clause-columns c =
    let second : c.loop-i.i < length c.args.seen.now = omega arith in
    rw (err_passed_on _ c.from_residual.ensures.1) (λ aside. c.loop-i.invariant.rest
    ∙ out_of_range c.args.names.now c.args.seen.now c.loop-i.i c.index-names-i.result no_stats _ _ c.loop-i-test.true second c.index-names-i.is (c.in_err-column.ensures.column aside))

pub loop-i-preserved : goal.loop-i-preserved
loop-i-preserved c =
    let second : c.loop-i.i < length c.args.seen.now = omega arith in
    let name = c.in_ok-column.ensures.name in
    rw c.in_ok-push.ensures.items (record {
      rest = rw (shapes-push c.loop-i.columns.items c.in_ok-column.column)
          (c.loop-i.invariant.rest ∙ column_more c.args.names.now c.args.seen.now c.loop-i.i c.index-names-i.result no_stats _ _ c.loop-i-test.true second c.index-names-i.is c.in_ok-column.ensures.column);
      names = names-push c.loop-i.columns.items c.in_ok-column.column c.args.names.now c.loop-i.i c.loop-i-test.true c.loop-i.invariant.names (name ∙ c.index-names-i.is ∙ rw (← name) refl);
    })

pub returns-clause-columns : goal.returns-clause-columns
returns-clause-columns c = c.loop-i.invariant.rest ∙ columns_end _ _ _ _ c.loop-i-test.false
