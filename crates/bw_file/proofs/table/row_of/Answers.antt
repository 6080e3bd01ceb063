use Rattle.std.proofs.Common.{◌++◌, ◌∷◌, [], ◌<◌, List, length, get_or, take, None, sym, ap, ◌∙◌}
use Rattle.std.proofs.Common.{arith}
use Rattle.std.proofs.lemmas.List.{take_more, take_all}
use Rattle.bw_model.specs.Row.{Value}
use Rattle.bw_file.specs.AnySegment.{any_meaning}
use Rattle.bw_file.proofs.TableLemmas.{row_wide}
use Rattle.bw_file.proofs.table.row_of.Goals as goal

pub loop-col-preserved : goal.loop-col-preserved
loop-col-preserved c =
    let row = get_or (any_meaning c.args.segment.now).rows c.args.i [] in
    let wide = row_wide c.args.segment.now c.args.i c.requires in
    let lt : c.loop-col.col < length row = omega (arith, wide, ap length c.schema.ensures.columns, c.len-count.ensures, c.schema.result.now.columns.ok.0) in
    c.in_ok-push.ensures.items ∙ ap (λ (values : List Value). values ++ c.value.result ∷ []) c.loop-col.invariant
    ∙ ap (λ (value : Value). take c.loop-col.col row ++ value ∷ []) c.value.ensures ∙ sym (take_more row c.loop-col.col None lt)

pub returns-clause-row : goal.returns-clause-row
returns-clause-row c =
    let row = get_or (any_meaning c.args.segment.now).rows c.args.i [] in
    let wide = row_wide c.args.segment.now c.args.i c.requires in
    c.loop-col.invariant ∙ take_all c.loop-col.col row (omega (arith, wide, ap length c.schema.ensures.columns, c.len-count.ensures, c.schema.result.now.columns.ok.0))
