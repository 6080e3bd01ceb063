-- One more column; and all are columns of the schema.
use Rattle.std.proofs.Common.{◌∙◌, List, ◌++◌, ◌∷◌, [], true, ap, sym, arith}
use Rattle.std.proofs.lemmas.List.FromFn.{map-range_with_len_more}
use Rattle.bw_model.specs.declared.query.Item.{Item}
use Rattle.bw_model.specs.declared.query.Item.TheVariants.{Plain}
use Rattle.bw_query.proofs.ItemLemmas.{columns_plain, columns_within}
use Rattle.bw_query.proofs.table_calls.every_row.Goals as goal

pub loop-column-preserved : goal.loop-column-preserved
loop-column-preserved c =
    let column = c.loop-column.column in
    c.in_ok-push.ensures.items ∙ ap (λ (items : List Item). items ++ Plain column ∷ []) c.loop-column.invariant ∙ sym (map-range_with_len_more Plain 0 column column (omega arith))

pub returns-clause-items : goal.returns-clause-items
returns-clause-items c = rw c.loop-column.invariant (columns_within _ 0 c.loop-column.column (omega arith))

pub returns-clause-kinds : goal.returns-clause-kinds
returns-clause-kinds c = (true, rw c.loop-column.invariant (columns_plain 0 c.loop-column.column))
