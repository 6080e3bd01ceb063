use Rattle.std.proofs.Common.{◌≡◌, ◌∙◌, ap, ◌<◌, [], set, cond, length, arith, unwrap_or}
use Rattle.std.proofs.Common.{get_or-set_other}
use Rattle.bw_model.specs.Row.{values_of}
use Rattle.bw_segment.specs.Columns.{kept_at}
use Rattle.bw_segment.specs.declared.columns.ColumnCodes.{ColumnCodes}
use Rattle.bw_segment.proofs.CodeLemmas.{length_admitted, value_read}
use Rattle.bw_segment.proofs.ColumnLemmas.{row_kept, row_put, each_more, HasPut}
use Rattle.bw_segment.proofs.columns.keep_row.Goals as goal

pub index-requires : goal.index-requires
index-requires c = omega (arith, length_admitted c.args.schema.now.columns.items (values_of c.args.row.now) c.requires.admitted)

pub loop-col-preserved : goal.loop-col-preserved
loop-col-preserved c =
    let columns = c.args.schema.now.columns.items in
    let row = values_of c.args.row.now in
    let col = c.loop-col.col in
    let there : col < length row = omega (arith, length_admitted columns row c.requires.admitted) in
    let value = value_read row col c.index.result.now there c.index.ensures in
    let code = c.unwrap_or-code.ensures ∙ ap (λ o. unwrap_or o 0) c.code.ensures.code in
    let old = kept_at c.args.kept.now col in
    let is : kept_at c.loop-col.kept col ≡ old = c.loop-col.invariant.rest col (omega arith) in
    let put = row_put columns row c.args.lane col c.unwrap_or-code.result c.is_none.result c.index.result.now old c.put.new.self value code c.is_none.ensures
    (c.put.ensures.codes ∙ ap (λ (column : ColumnCodes). set column.codes c.args.lane c.unwrap_or-code.result) is)
    (c.put.ensures.nulls ∙ ap (λ (column : ColumnCodes). set column.nulls c.args.lane (cond c.is_none.result 1 0)) is) in
    record {
      put = each_more (λ k new. HasPut columns row c.args.lane k (kept_at c.args.kept.now k) new) (kept_at [] 0) c.loop-col.kept col c.put.new.self (omega arith) c.loop-col.invariant.put put;
      rest = λ k above. get_or-set_other c.loop-col.kept col k c.put.new.self (kept_at [] 0) (omega arith) ∙ c.loop-col.invariant.rest k (omega arith);
    }

pub returns : goal.returns
returns c = λ rows long. row_kept c.args.schema.now.columns.items rows (values_of c.args.row.now) c.args.lane c.args.kept.now c.loop-col.kept c.requires.lane long (omega arith)
    (λ col lt. c.loop-col.invariant.put col (omega arith))
