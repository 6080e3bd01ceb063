-- Each turn codes one column more.
use Rattle.std.proofs.Common.{◌∙◌, ◌<◌, [], ◌∷◌, length, arith, sym}
use Rattle.std.proofs.lemmas.List.{map-append, take_more}
use Rattle.std.proofs.lemmas.List.Elements.{All-push}
use Rattle.bw_encode.specs.Coded.{IsCoded, fields_in}
use Rattle.bw_encode.proofs.coded.coded_columns.Goals as goal

pub loop-fields-preserved : goal.loop-fields-preserved
loop-fields-preserved c =
    let lt : c.loop-fields.fields-index < length c.args.columns.now = omega arith in
    let more = take_more c.args.columns.now c.loop-fields.fields-index c.fields-item.result lt in
    let is = c.fields-item.is in
    let one = c.in_ok-coded_column.ensures.fields in
    let so_far = c.loop-fields.invariant.fields in
    let joined = map-append fields_in c.loop-fields.coded.items (c.in_ok-coded_column.field-0 ∷ []) in
    rw c.in_ok-push.ensures.items (record {
      fields = joined ∙ rw (so_far, one) (rw (← is) at (sym more));
      coded = All-push IsCoded c.loop-fields.coded.items c.in_ok-coded_column.field-0 c.loop-fields.invariant.coded c.in_ok-coded_column.ensures.coded;
    })
