use Rattle.std.proofs.Common.{◌∙◌, ap₂, ◌||◌}
use Rattle.bw_rowwise.proofs.TruthLemmas.{greatest_yes, greatest_maybe}
use Rattle.bw_rowwise.proofs.truths.Truths.either.Goals as goal

pub returns : goal.returns
returns c = λ f g a b. record {
  yes = λ lane within. c.either_lanes.ensures lane within ∙ ap₂ (λ x y. x || y) (a.yes lane within) (b.yes lane within) ∙ greatest_yes (f lane) (g lane);
  maybe = λ lane within. c.either_lanes-2.ensures lane within ∙ ap₂ (λ x y. x || y) (a.maybe lane within) (b.maybe lane within) ∙ greatest_maybe (f lane) (g lane);
}
