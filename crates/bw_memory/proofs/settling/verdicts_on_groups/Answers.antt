-- Each row of the table is within what the columns admit.
use Rattle.std.proofs.Common.{◌∙◌, ap, List, map}
use Rattle.bw_model.specs.declared.column.Column.{Column}
use Rattle.bw_model.specs.declared.schema.Schema.{Schema}
use Rattle.bw_ranges.specs.ColumnRange.{range_of_column}
use Rattle.bw_memory.specs.MemoryTable.{meaning_numbered}
use Rattle.bw_memory.proofs.SettleLemmas.{table_within}
use Rattle.bw_memory.proofs.settling.verdicts_on_groups.Goals as goal

pub verdicts_by_ranges-requires-clause-whole : goal.verdicts_by_ranges-requires-clause-whole
verdicts_by_ranges-requires-clause-whole c =
    let columns = c.deref.ensures.value ∙ ap (λ (s : Schema). s.columns.items) c.schema.ensures in
    table_within c.args.table.now c.deref-in-Open.result.now (c.deref-in-Open.ensures.value ∙ c.in_ok-whole.ensures.ranges ∙ ap (λ (l : List Column). map range_of_column l) columns)

pub one_verdict-requires : goal.one_verdict-requires
one_verdict-requires c number there =
    let columns = c.deref.ensures.value ∙ ap (λ (s : Schema). s.columns.items) c.schema.ensures in
    c.decide_rows.ensures (meaning_numbered c.args.table.now number).rows
    (λ column. table_within c.args.table.now c.deref-2.result.now (c.deref-2.ensures.value ∙ c.in_ok-whole.ensures.ranges ∙ ap (λ (l : List Column). map range_of_column l) columns) column number there)
