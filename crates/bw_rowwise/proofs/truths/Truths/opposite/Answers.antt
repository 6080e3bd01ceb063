use Rattle.std.proofs.Common.{◌∙◌, ap, not}
use Rattle.bw_rowwise.proofs.TruthLemmas.{negation_yes, negation_maybe}
use Rattle.bw_rowwise.proofs.truths.Truths.opposite.Goals as goal

pub returns : goal.returns
returns c = λ f a. record {
  yes = λ lane within. c.other_lanes.ensures lane within ∙ ap not (a.maybe lane within) ∙ negation_yes (f lane);
  maybe = λ lane within. c.other_lanes-2.ensures lane within ∙ ap not (a.yes lane within) ∙ negation_maybe (f lane);
}
