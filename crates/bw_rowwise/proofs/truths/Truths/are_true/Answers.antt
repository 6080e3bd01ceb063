use Rattle.std.proofs.Common.{◌∙◌, sym}
use Rattle.std.proofs.lemmas.Bool.{not-false}
use Rattle.bw_segment.proofs.FaultLemmas.{zero_everywhere}
use Rattle.bw_lanes.specs.Lanes.{lanes_of_words}
use Rattle.bw_rowwise.proofs.TruthLemmas.{is_yes}
use Rattle.bw_rowwise.proofs.truths.Truths.are_true.Goals as goal

pub returns : goal.returns
returns c = λ zero f a lane within.
    is_yes (f lane) (sym (a.yes lane within) ∙ not-false _ (sym (c.other_lanes.ensures lane within) ∙ zero_everywhere (lanes_of_words c.other_lanes.result) lane (sym c.is_zero.ensures ∙ zero)))
