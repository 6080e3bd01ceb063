use Rattle.std.proofs.Common.{◌∙◌, ap, ap₂, not, ◌&&◌}
use Rattle.bw_model.specs.Truth.{truth_from, is_truth}
use Rattle.bw_rowwise.proofs.TruthLemmas.{alike, no_by, unknown_by}
use Rattle.bw_rowwise.proofs.truths.Truths.test.Goals as goal

pub returns-in-No : goal.returns-in-No
returns-in-No c = λ f a. rw c.in-No.is (alike _ _ (λ lane. truth_from (is_truth (f lane) _)) c.of.ensures
    (λ lane within. ap truth_from (c.other_lanes.ensures lane within ∙ ap not (a.maybe lane within) ∙ no_by (f lane))))

pub returns-in-Unknown : goal.returns-in-Unknown
returns-in-Unknown c = λ f a. rw c.in-Unknown.is (alike _ _ (λ lane. truth_from (is_truth (f lane) _)) c.of-in-Unknown.ensures
    (λ lane within. ap truth_from (c.both_lanes.ensures.each lane within ∙ ap₂ (λ x y. x && y) (a.maybe lane within) (c.other_lanes-in-Unknown.ensures lane within ∙ ap not (a.yes lane within)) ∙ unknown_by (f lane))))

pub returns-in-Yes : goal.returns-in-Yes
returns-in-Yes c = λ f a. rw c.in-Yes.is (alike _ _ (λ lane. truth_from (is_truth (f lane) _)) c.of-in-Yes.ensures (λ lane within. ap truth_from (a.yes lane within)))
