-- Each turn one column more has taken its value.
use Rattle.std.proofs.Common.{◌∙◌, ◌<◌, ◌≤◌, sym, ap, length, get_or, arith, None, length-set}
use Rattle.bw_csv_calls.specs.ColumnStats.{with_value}
use Rattle.bw_csv_calls.specs.declared.column_stats.ColumnStats.{ColumnStats}
use Rattle.bw_csv_calls.proofs.ColumnStatsLemmas.{one_taken, taken_all}
use Rattle.bw_csv_calls.proofs.column_stats.take_values.Goals as goal

pub loop-i-preserved : goal.loop-i-preserved
loop-i-preserved c =
    let columns = c.loop-i.columns.items in
    let i = c.loop-i.i in
    let second : i < length c.args.values.now = omega (arith, c.len-i-end.ensures, c.requires) in
    let first : i < length columns = omega (arith, c.loop-i.invariant.size) in
    let value = get_or c.args.values.now i None in
    record {
      size = omega (arith, length-set {A = ColumnStats}, c.loop-i.invariant.size);
      rest = c.loop-i.invariant.rest ∙ one_taken columns c.args.values.now i c.index.result.now None c.with_value.result first second
          (c.with_value.ensures ∙ ap (λ (s : ColumnStats). with_value s value) c.index.ensures);
    }

pub returns : goal.returns
returns c =
    let all : length c.loop-i.columns.items ≤ c.loop-i.i = omega (arith, c.len-i-end.ensures, c.loop-i.invariant.size, c.requires) in
    sym (c.loop-i.invariant.rest ∙ taken_all c.loop-i.columns.items c.args.values.now c.loop-i.i all)
