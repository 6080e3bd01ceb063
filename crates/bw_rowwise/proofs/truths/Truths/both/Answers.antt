use Rattle.std.proofs.Common.{◌∙◌, ap₂, ◌&&◌}
use Rattle.bw_rowwise.proofs.TruthLemmas.{least_yes, least_maybe}
use Rattle.bw_rowwise.proofs.truths.Truths.both.Goals as goal

pub returns : goal.returns
returns c = λ f g a b. record {
  yes = λ lane within. c.both_lanes.ensures.each lane within ∙ ap₂ (λ x y. x && y) (a.yes lane within) (b.yes lane within) ∙ least_yes (f lane) (g lane);
  maybe = λ lane within. c.both_lanes-2.ensures.each lane within ∙ ap₂ (λ x y. x && y) (a.maybe lane within) (b.maybe lane within) ∙ least_maybe (f lane) (g lane);
}
