-- The ones of the selection.
use Rattle.std.proofs.Common.{◌∙◌, ◌-◌, sym, ap, count_by, length}
use Rattle.bw_model.specs.Groups.{group_size}
use Rattle.bw_cert.proofs.CountLemmas.{matches_counted}
use Rattle.bw_query.proofs.trial.MatchCountTrialCount.count_in.Goals as goal

pub returns-clause-count : goal.returns-clause-count
returns-clause-count g c =
    let rows = (g.S.Segment.meaning c.args.segment.now).rows in
    let count = c.args.self.now in
    c.count.ensures.ones ∙ ap (count_by (λ lane. lane)) (c.matching_lanes.ensures.kept count.cond.now count.prepared) ∙ sym (matches_counted count.cond.now rows (group_size - length rows))
