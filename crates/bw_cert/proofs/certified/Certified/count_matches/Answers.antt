-- The ones of the selection.
use Rattle.std.proofs.Common.{◌∙◌, ◌-◌, sym, ap, count_by, length}
use Rattle.bw_model.specs.Groups.{group_size}
use Rattle.bw_cert.proofs.CountLemmas.{matches_counted}
use Rattle.bw_cert.proofs.certified.Certified.count_matches.Goals as goal

pub returns-clause-matches : goal.returns-clause-matches
returns-clause-matches g c =
    let rows = (g.S.Segment.meaning c.args.segment.now).rows in
    c.count.ensures.ones ∙ ap (count_by (λ lane. lane)) c.run_in.ensures.rows ∙ sym (matches_counted c.args.self.now.condition rows (group_size - length rows))
