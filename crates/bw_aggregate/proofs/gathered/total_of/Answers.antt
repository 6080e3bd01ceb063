use Rattle.std.proofs.Common.{◌∙◌, ℕ, Some, pos, ap}
use Rattle.bw_lanes.specs.Lanes.{lanes_of_words}
use Rattle.bw_aggregate.proofs.ColumnLemmas.{rows_counted}
use Rattle.bw_aggregate.proofs.GatheredLemmas.{aggregates}
use Rattle.bw_aggregate.proofs.gathered.total_of.Goals as goal

pub total_of_values-requires-clause-aggregate : goal.total_of_values-requires-clause-aggregate
total_of_values-requires-clause-aggregate c = aggregates c.args.item c.in_default.not-Plain

pub returns-in-CountAll-clause-total : goal.returns-in-CountAll-clause-total
returns-in-CountAll-clause-total c = λ rows have within.
    rw c.in-CountAll.is (c.total_of_count.ensures.total ∙ ap (λ (n : ℕ). Some (pos n)) (c.requires.number ∙ rows_counted rows (lanes_of_words c.args.selection.now) within))
